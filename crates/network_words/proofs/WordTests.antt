-- Bits of a word as tests: of two words joined, of what two words share, of a word with one bit.
-- Assumes nothing.
use mathlib.Core.Path.{◌≡◌, refl, ap, ◌∙◌}
use mathlib.Core.Bool.{◌&&◌, ◌||◌}
use Prim.Native.Nat.{ℕ, suc, ◌+◌, ◌-◌, ◌*◌, ◌/◌, ◌%◌, ◌^◌, ◌<◌, max, min}
use native.Mathlib.Omega.{arith}
use native.Mathlib.Decide.{dec_lt}
use native.Mathlib.Nat.{pow-suc, div-eq_of_lt, div_self, mul-div_cancel}
use lib.Bits.{bit_and, bit_or, and_shr, and_step, or_shr, or_step}
use lib.Dec.{eqb}
use lib.Pow.{pow-lt, pow-add, pow_pos}
use borrow.Author.Tests.{eq-eqb, ne_eqb}
use Rattle.network_words.specs.Words.{word_bit}

-- what holds of the values of two bits
two_bits : (P : ℕ → ℕ → Type 0) → P 0 0 → P 0 1 → P 1 0 → P 1 1 → (x y : ℕ) → x < 2 → y < 2 → P x y
two_bits P a b c d x y l m = go (dec_lt x 1) (dec_lt y 1)
  where
    go : Dec (x < 1) → Dec (y < 1) → P x y
    go (yes h) (yes k) = let e : x ≡ 0 = omega arith in let f : y ≡ 0 = omega arith in rw (e, f) a
    go (yes h) (no k) = let e : x ≡ 0 = omega arith in let f : y ≡ 1 = omega arith in rw (e, f) b
    go (no h) (yes k) = let e : x ≡ 1 = omega arith in let f : y ≡ 0 = omega arith in rw (e, f) c
    go (no h) (no k) = let e : x ≡ 1 = omega arith in let f : y ≡ 1 = omega arith in rw (e, f) d

pub word_bit_or : (v w c : ℕ) → word_bit (bit_or v w) c ≡ (word_bit v c || word_bit w c)
word_bit_or v w c =
    let p = v / 2 ^ c in
    let q = w / 2 ^ c in
    let e : bit_or p q % 2 ≡ max (p % 2) (q % 2) = ap (λ (x : ℕ). x % 2) (or_step p q) ∙ omega arith in
    ap (λ (x : ℕ). eqb (x % 2) 1) (or_shr v w c) ∙ ap (λ (x : ℕ). eqb x 1) e
    ∙ two_bits (λ x y. eqb (max x y) 1 ≡ (eqb x 1 || eqb y 1)) refl refl refl refl (p % 2) (q % 2) (omega arith) (omega arith)

pub word_bit_and : (v w c : ℕ) → word_bit (bit_and v w) c ≡ (word_bit v c && word_bit w c)
word_bit_and v w c =
    let p = v / 2 ^ c in
    let q = w / 2 ^ c in
    let e : bit_and p q % 2 ≡ min (p % 2) (q % 2) = ap (λ (x : ℕ). x % 2) (and_step p q) ∙ omega arith in
    ap (λ (x : ℕ). eqb (x % 2) 1) (and_shr v w c) ∙ ap (λ (x : ℕ). eqb x 1) e
    ∙ two_bits (λ x y. eqb (min x y) 1 ≡ (eqb x 1 && eqb y 1)) refl refl refl refl (p % 2) (q % 2) (omega arith) (omega arith)

-- bit c of the word whose only bit is b
pub word_bit_pow : (b c : ℕ) → word_bit (2 ^ b) c ≡ eqb b c
word_bit_pow b c = go (dec_lt c b) (dec_lt b c)
  where
    go : Dec (c < b) → Dec (b < c) → word_bit (2 ^ b) c ≡ eqb b c
    go (yes h) k =
        let m = b - suc c in
        let e : b ≡ suc m + c = omega arith in
        let q : 2 ^ b / 2 ^ c ≡ 2 ^ m * 2 = ap (λ (x : ℕ). 2 ^ x / 2 ^ c) e ∙ ap (λ (x : ℕ). x / 2 ^ c) (pow-add 2 (suc m) c) ∙ mul-div_cancel (2 ^ suc m) (pow_pos c) ∙ pow-suc 2 m in
        let z : 2 ^ b / 2 ^ c % 2 ≡ 0 = ap (λ (x : ℕ). x % 2) q ∙ omega arith in
        rw (z, ne_eqb b c (λ w. omega arith))
    go (no h) (yes k) =
        let z : 2 ^ b / 2 ^ c ≡ 0 = div-eq_of_lt (pow-lt k) in
        rw (z, ne_eqb b c (λ w. omega arith))
    go (no h) (no k) =
        let e : b ≡ c = omega arith in
        let z : 2 ^ c / 2 ^ c ≡ 1 = div_self (pow_pos c) in
        rw (e, z, eq-eqb c c refl)
