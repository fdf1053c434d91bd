-- Laws of words, over the width and the length: bits, one-place shifts, and the word of a list of bits.
-- Assumes nothing.
use mathlib.Core.Path.{◌≡◌, refl, sym, ap, subst, ◌∙◌}
use mathlib.Core.Bool.{Bool, true, false, cond}
use Rattle.std.specs.Prelude.{None as none, Some as some}
use mathlib.Core.List.{List, [], ◌∷◌, ◌++◌, map}
use Prim.Native.Nat.{ℕ, zero, suc, ◌+◌, ◌-◌, ◌*◌, ◌/◌, ◌%◌, ◌^◌, ◌<◌, ◌≤◌}
use native.Mathlib.Nat.{mul_assoc, add-mul, pow-suc, div-one, zero-div, zero-add}
use native.Mathlib.Numerals.{add-one, one-add}
use native.Mathlib.Omega.{arith}
use borrow.Author.Tests.{eqb-true, eqb-false, eq-eqb, ne_eqb}
use lib.Arith.{digits_lt}
use lib.Bits.{bit_and, bit_or, and_mask, or_shifted, or_shifted_r, shifted_half}
use lib.Dec.{eqb}
use lib.ListN.{length, get_or, take, replicate, length-map, get_or-map}
use lib.Pow.{pow-add, pow_pos, shl_exact, shr_lt, shr-shr, high, ones_lt, ones_split}
use lib.Seq.{take-suc, length-take-le}
use Rattle.model.specs.Network.{tabulate}
use Rattle.model.specs.Path.{bit_value}
use Rattle.model.proofs.Lists.{tabulate_cong}
use Rattle.network_words.specs.Words.{word_bit, trit_at, trits_of, byte_bit, word_of_bits, shift_in}

-- ---- bits as numbers

pub value_small : (b : Bool) → bit_value b < 2
value_small true = omega arith
value_small false = omega arith

-- a bit told as a number
pub value_is : (b : Bool) (m : ℕ) → m ≡ bit_value b → eqb m 1 ≡ b
value_is true m e = eq-eqb m 1 e
value_is false m e = ne_eqb m 1 (λ z. omega arith)

-- a number below 2 is the value of a bit
number_bit : (n : ℕ) → n < 2 → bit_value (eqb n 1) ≡ n
number_bit n h = go (eqb n 1) refl
  where
    go : (t : Bool) → eqb n 1 ≡ t → bit_value t ≡ n
    go true e = sym (eqb-true n 1 e)
    go false e = let f = eqb-false n 1 e in omega arith

pub bit_mask : (w i : ℕ) → bit_and (w / 2 ^ i) 1 ≡ bit_value (word_bit w i)
bit_mask w i = and_mask (w / 2 ^ i) 1 ∙ sym (number_bit (w / 2 ^ i % 2) (omega arith))

pub pair_mask : (w i : ℕ) → bit_and (w / 2 ^ i) 3 ≡ bit_value (word_bit w i) + 2 * bit_value (word_bit w (suc i))
pair_mask w i =
    let q = w / 2 ^ i in
    let low = number_bit (q % 2) (omega arith) in
    let high = number_bit (w / 2 ^ suc i % 2) (omega arith) in
    let half : w / 2 ^ suc i ≡ q / 2 = rw (← (add-one i)) (sym (shr-shr w i 1)) in
    and_mask q 2 ∙ omega arith

-- ---- one place

-- the word whose only bit is i
pub only_place : (width i : ℕ) → i < width → 1 * 2 ^ i % 2 ^ width ≡ 2 ^ i
only_place width i h = shl_exact 1 i width (omega arith) (omega arith) ∙ omega arith

-- b becomes the lowest bit of a word of k bits
pub low_place : (width k w b : ℕ) → b < 2 → w < 2 ^ k → k + 1 ≤ width → bit_or (w * 2 ^ 1 % 2 ^ width) b ≡ b + 2 * w
low_place width k w b hb hw hk =
    ap (λ (n : ℕ). bit_or n b) (shl_exact k 1 width hw hk) ∙ or_shifted w 1 b hb ∙ omega arith

-- a length of at least one, as one more than the place of its top bit
module _ (len : ℕ) (least : 1 ≤ len) where
  half_lt : (w : ℕ) → w < 2 ^ len → w / 2 < 2 ^ (len - 1)
  half_lt w h = shr_lt (len - 1) 1 (subst (λ (n : ℕ). w < 2 ^ n) (omega arith) h)

  top_place_lt : (w b : ℕ) → b < 2 → w < 2 ^ len → shift_in len w b < 2 ^ len
  top_place_lt w b hb h =
      subst (λ (n : ℕ). shift_in len w b < n)
      (sym (pow-add 2 1 (len - 1)) ∙ ap (λ (n : ℕ). 2 ^ n) (omega arith))
      (digits_lt {q = b} {m = 2} {r = w / 2} {c = 2 ^ (len - 1)} hb (half_lt w h))

  -- b becomes the top bit
  top_place : (width w b : ℕ) → b < 2 → len ≤ width → w < 2 ^ len → bit_or (w / 2) (b * 2 ^ (len - 1) % 2 ^ width) ≡ shift_in len w b
  top_place width w b hb hl h =
      ap (bit_or (w / 2)) (shl_exact 1 (len - 1) width hb (omega arith)) ∙ or_shifted_r b (len - 1) (w / 2) (half_lt w h)

  pub top_placed : (width w b : ℕ) → b < 2 → len ≤ width → w < 2 ^ len
      → (bit_or (w / 2) (b * 2 ^ (len - 1) % 2 ^ width) ≡ shift_in len w b) × (bit_or (w / 2) (b * 2 ^ (len - 1) % 2 ^ width) < 2 ^ len)
  top_placed width w b hb hl h = let e = top_place width w b hb hl h in (e, rw e (top_place_lt w b hb h))

-- ---- the bits of a list, shifted in one after the other

-- one bit more at the top
word_of_snoc : (bs : List Bool) (b : Bool) → word_of_bits (bs ++ (b ∷ [])) ≡ word_of_bits bs + bit_value b * 2 ^ length bs
unfolding word_of_bits
word_of_snoc [] b = omega arith
word_of_snoc (c ∷ bs) b =
    let i = word_of_snoc bs b in
    let p = ap (λ (n : ℕ). bit_value b * n) (pow-suc 2 (length bs)) in
    let q = mul_assoc (bit_value b) (2 ^ length bs) 2 in
    omega arith

-- what i places make of a word of len bits that held 0: the first i bits at the top
abbrev pub Shifted : ℕ → ℕ → List Bool → ℕ → Type 0
Shifted len w bs i = w ≡ word_of_bits (take i bs) * 2 ^ (len - i)

pub shifted_none : (len : ℕ) (bs : List Bool) → Shifted len 0 bs 0
unfolding word_of_bits
shifted_none len bs = omega arith

shifted_more : (len w i : ℕ) (bs : List Bool) → i < len → i < length bs → Shifted len w bs i → Shifted len (shift_in len w (bit_value (get_or bs i false))) bs (i + 1)
shifted_more len w i bs hl hb p =
    let b = bit_value (get_or bs i false) in
    let n = word_of_bits (take i bs) in
    let k = len - (i + 1) in
    let first : word_of_bits (take (i + 1) bs) ≡ n + b * 2 ^ i =
    rw (add-one i, take-suc bs i false hb) (word_of_snoc (take i bs) (get_or bs i false) ∙ ap (λ (m : ℕ). n + b * 2 ^ m) (length-take-le i bs (omega arith))) in
    let half : w / 2 ≡ n * 2 ^ k = ap (λ (m : ℕ). m / 2) (p ∙ ap (λ (m : ℕ). n * 2 ^ m) (omega arith)) ∙ shifted_half n k in
    let top : b * 2 ^ (len - 1) ≡ b * 2 ^ i * 2 ^ k =
    ap (λ (m : ℕ). b * m) (ap (λ (m : ℕ). 2 ^ m) (omega arith) ∙ pow-add 2 i k) ∙ sym (mul_assoc b (2 ^ i) (2 ^ k)) in
    let all : word_of_bits (take (i + 1) bs) * 2 ^ k ≡ n * 2 ^ k + b * 2 ^ i * 2 ^ k = ap (λ (m : ℕ). m * 2 ^ k) first ∙ add-mul n (b * 2 ^ i) (2 ^ k) in
    omega arith

-- one byte of a text of bits more
pub shifted_byte : (len w i r b : ℕ) (part : List ℕ) → length part ≡ len → i < len → b ≡ bit_value (byte_bit (get_or part i 0)) → r ≡ shift_in len w b
    → Shifted len w (map byte_bit part) i → Shifted len r (map byte_bit part) (i + 1)
shifted_byte len w i r b part hp hi e q p =
    let bs = map byte_bit part in
    q ∙ ap (shift_in len w) (e ∙ ap bit_value (sym (get_or-map byte_bit part i 0)))
    ∙ shifted_more len w i bs hi (omega (arith, length-map part byte_bit)) p

-- ---- the bits of a word

pub low_bit : (b : Bool) (w : ℕ) → word_bit (bit_value b + 2 * w) 0 ≡ b
low_bit true w = eq-eqb ((1 + 2 * w) / 1 % 2) 1 (omega (arith, div-one (1 + 2 * w)))
low_bit false w = let z : (0 + 2 * w) / 1 % 2 ≡ 0 = omega (arith, div-one (0 + 2 * w)) in ap (λ (n : ℕ). eqb n 1) z

pub higher_bit : (b : Bool) (w j : ℕ) → word_bit (bit_value b + 2 * w) (suc j) ≡ word_bit w j
higher_bit b w j =
    let n = bit_value b + 2 * w in
    let s = value_small b in
    let half : n / 2 ≡ w = omega arith in
    ap (λ (m : ℕ). eqb (m % 2) 1) (ap (λ (m : ℕ). n / 2 ^ m) (sym (one-add j)) ∙ sym (shr-shr n 1 j) ∙ ap (λ (m : ℕ). m / 2 ^ j) half)

tabulate_next : {A : Type 0} (f g : ℕ → A) (i n : ℕ) → ((j : ℕ) → f (suc j) ≡ g j) → tabulate f (suc i) n ≡ tabulate g i n
tabulate_next f g i zero e = refl
tabulate_next f g i (suc n) e = rw (e i, tabulate_next f g (suc i) n e)

pub tabulate_front : {A : Type 0} (f g : ℕ → A) (a : A) (n : ℕ) → f 0 ≡ a → ((j : ℕ) → f (suc j) ≡ g j) → tabulate f 0 (suc n) ≡ a ∷ tabulate g 0 n
tabulate_front f g a n h e = rw (h, tabulate_next f g 0 n e)

pub word_bits : (bs : List Bool) → tabulate (word_bit (word_of_bits bs)) 0 (length bs) ≡ bs
unfolding word_of_bits
word_bits [] = refl
word_bits (b ∷ bs) =
    tabulate_front (word_bit (bit_value b + 2 * word_of_bits bs)) (word_bit (word_of_bits bs)) b (length bs) (low_bit b (word_of_bits bs)) (higher_bit b (word_of_bits bs)) ∙ ap (λ (l : List Bool). b ∷ l) (word_bits bs)

-- ---- a word with all bits known

ones_bit : (width j : ℕ) → j < width → word_bit (2 ^ width - 1) j ≡ true
ones_bit width j h =
    let m = width - (j + 1) in
    let q : 2 ^ (m + 1) ≡ 2 ^ m * 2 = pow-add 2 m 1 in
    let pos = pow_pos m in
    let all : 2 ^ width - 1 ≡ (2 ^ (m + 1) - 1) * 2 ^ j + (2 ^ j - 1) = ap (λ (n : ℕ). 2 ^ n - 1) (omega arith) ∙ ones_split (m + 1) j in
    let top : (2 ^ width - 1) / 2 ^ j ≡ 2 ^ (m + 1) - 1 = ap (λ (n : ℕ). n / 2 ^ j) all ∙ high (2 ^ (m + 1) - 1) j (ones_lt j) in
    eq-eqb ((2 ^ width - 1) / 2 ^ j % 2) 1 (ap (λ (n : ℕ). n % 2) top ∙ omega arith)

map_tabulate : {A B : Type 0} (g : A → B) (f : ℕ → A) (i n : ℕ) → tabulate (λ j. g (f j)) i n ≡ map g (tabulate f i n)
map_tabulate g f i zero = refl
map_tabulate g f i (suc n) = ap (λ l. g (f i) ∷ l) (map_tabulate g f (suc i) n)

pub trits_known : (width len w : ℕ) → len ≤ width → trits_of len w (2 ^ width - 1) ≡ map some (tabulate (word_bit w) 0 len)
trits_known width len w h =
    tabulate_cong (trit_at w (2 ^ width - 1)) (λ j. some (word_bit w j)) 0 len
    (λ x l. ap (λ (t : Bool). cond t (some (word_bit w (0 + x))) none) (ones_bit width (0 + x) (omega (arith, zero-add x))))
    ∙ map_tabulate some (word_bit w) 0 len

-- a part of the scan-in bits loaded: all of them known, in their order
pub trits_loaded : (width len : ℕ) (part : List ℕ) → length part ≡ len → len ≤ width → trits_of len (word_of_bits (map byte_bit part)) (2 ^ width - 1) ≡ map some (map byte_bit part)
trits_loaded width len part e h =
    let bs = map byte_bit part in
    let long : length bs ≡ len = length-map part byte_bit ∙ e in
    trits_known width len (word_of_bits bs) h ∙ ap (λ (n : ℕ). map some (tabulate (word_bit (word_of_bits bs)) 0 n)) (sym long) ∙ ap (map some) (word_bits bs)

-- ---- start bits: all 0, and all unknown

tabulate_const : {A : Type 0} (f : ℕ → A) (a : A) (i n : ℕ) → ((j : ℕ) → f j ≡ a) → tabulate f i n ≡ replicate n a
tabulate_const f a i zero e = refl
tabulate_const f a i (suc n) e = rw (e i, tabulate_const f a (suc i) n e)

pub zero_bit : (j : ℕ) → word_bit 0 j ≡ false
zero_bit j = ap (λ (n : ℕ). eqb (n % 2) 1) (zero-div (2 ^ j))

pub trits_zero : (width len : ℕ) → len ≤ width → trits_of len 0 (2 ^ width - 1) ≡ replicate len (some false)
trits_zero width len h = trits_known width len 0 h ∙ sym (map_tabulate some (word_bit 0) 0 len) ∙ tabulate_const (λ j. some (word_bit 0 j)) (some false) 0 len (λ j. ap some (zero_bit j))

pub trits_unknown : (w len : ℕ) → trits_of len w 0 ≡ replicate len none
trits_unknown w len = tabulate_const (trit_at w 0) none 0 len (λ j. ap (λ (t : Bool). cond t (some (word_bit w j)) none) (zero_bit j))
