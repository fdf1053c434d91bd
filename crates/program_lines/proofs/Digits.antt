-- The digits of a number, written from the lowest on.
-- Assumes nothing.
use mathlib.Core.Path.{◌≡◌, refl, sym, ◌∙◌}
use mathlib.Core.Bool.{Bool, true, false}
use mathlib.Core.List.{List, [], ◌∷◌}
use Prim.Native.Nat.{ℕ, zero, suc, ◌+◌, ◌*◌, ◌/◌, ◌%◌, ◌-◌, ◌≤◌, ◌<◌}
use native.Mathlib.Omega.{arith}
use lib.Dec.{ltb}
use lib.ListN.{length, drop, set, length-set, drop_of_length-le}
use lib.Seq.{drop-cons, get_or-set_same, drop-set-lt}
use borrow.Author.Tests.{ltb-false, lt-ltb, le-ltb}
use Rattle.model.specs.Text.{Bytes}
use Rattle.model.specs.Printed.{digits_of, number}

-- 10 ^ k
unfoldable pub power : ℕ → ℕ
power zero = 1
power (suc k) = 10 * power k

-- the digits of n but for those of left stand from place i on, and the digits of left fit before it
pub record Filled (n left i : ℕ) (digits : List ℕ) : Type 0 where
  pub size : length digits ≡ 20
  pub least : 1 ≤ i
  pub most : i ≤ 20
  pub fits : left < power i
  pub fuel : ℕ
  pub enough : left < fuel
  pub stands : digits_of fuel left (drop i digits) ≡ number n

-- ---- one digit

last_digit : (f n : ℕ) (rest : Bytes) → n < f → n < 10 → digits_of f n rest ≡ (48 + n) ∷ rest
unfolding digits_of
last_digit zero n rest h l = absurd (omega arith)
last_digit (suc f) n rest h l = let e : ltb n 10 ≡ true = lt-ltb n 10 l in rw e

digit_more : (f n : ℕ) (rest : Bytes) → n < f → 10 ≤ n → digits_of f n rest ≡ digits_of (f - 1) (n / 10) ((48 + n % 10) ∷ rest)
unfolding digits_of
digit_more zero n rest h l = absurd (omega arith)
digit_more (suc f) n rest h l =
    let e : ltb n 10 ≡ false = le-ltb n 10 l in
    let k : suc f - 1 ≡ f = omega arith in
    rw (k, e)

fits_before : (i n : ℕ) → n < power i → 10 ≤ n → (2 ≤ i) × (n / 10 < power (i - 1))
unfolding power
fits_before zero n h l = omega arith
fits_before (suc zero) n h l = omega arith
fits_before (suc (suc k)) n h l = let e : suc (suc k) - 1 ≡ suc k = omega arith in (omega arith, rw e (omega arith))

one_before : (b : List ℕ) (i v : ℕ) → 1 ≤ i → i ≤ length b → drop (i - 1) (set b (i - 1) v) ≡ v ∷ drop i b
one_before b i v l h =
    let k : suc (i - 1) ≡ i = omega arith in
    let n : i - 1 < length (set b (i - 1) v) = simp length-set (omega arith) in
    drop-cons (set b (i - 1) v) (i - 1) 0 n
    ∙ rw (get_or-set_same b (i - 1) v 0 (omega arith), drop-set-lt (suc (i - 1)) b (i - 1) v (omega arith), k)

-- ---- the loop

pub fill_start : (n : ℕ) (b : List ℕ) → length b ≡ 20 → n < 18446744073709551616 → Filled n n 20 b
unfolding power
fill_start n b e l =
    let none : drop 20 b ≡ [] = drop_of_length-le b {i = 20} (omega arith) in
    record { size = e; least = omega arith; most = omega arith; fits = omega arith; fuel = suc n; enough = omega arith; stands = rw none }

module _ (n left i : ℕ) (b : List ℕ) (f : Filled n left i b) where
  pub fill_next : (v : ℕ) → 10 ≤ left → v ≡ 48 + left % 10 → Filled n (left / 10) (i - 1) (set b (i - 1) v)
  fill_next v l e =
      let w = fits_before i left f.fits l in
      record {
        size = simp length-set f.size;
        least = omega (arith, w.0);
        most = omega (arith, f.most);
        fits = w.1;
        fuel = f.fuel - 1;
        enough = omega (arith, f.enough);
        stands = rw (one_before b i v f.least (omega (arith, f.most, f.size)), e) (sym (digit_more f.fuel left (drop i b) f.enough l) ∙ f.stands);
      }

  pub fill_last : (v : ℕ) → left < 10 → v ≡ 48 + left → drop (i - 1) (set b (i - 1) v) ≡ number n
  fill_last v l e =
      one_before b i v f.least (omega (arith, f.most, f.size))
      ∙ rw e (sym (last_digit f.fuel left (drop i b) f.enough l) ∙ f.stands)

-- ---- at most 20 digits

few_before : (f k n : ℕ) (rest : Bytes) → n < power k → 1 ≤ k → length (digits_of f n rest) ≤ k + length rest
unfolding digits_of
few_before zero k n rest l h = omega arith
few_before (suc f) k n rest l h = go (ltb n 10) refl (few_before f (k - 1) (n / 10) ((48 + n % 10) ∷ rest))
  where
    go : (b : Bool) → ltb n 10 ≡ b → (n / 10 < power (k - 1) → 1 ≤ k - 1 → length (digits_of f (n / 10) ((48 + n % 10) ∷ rest)) ≤ k - 1 + suc (length rest))
        → length (digits_of (suc f) n rest) ≤ k + length rest
    go true e more = rw e (omega (arith, h))
    go false e more = let w = fits_before k n l (ltb-false n 10 e) in rw e (omega (arith, more w.1 (omega (arith, w.0)), h))

pub at_most_20 : (n : ℕ) → n < 18446744073709551616 → length (number n) ≤ 20
unfolding power
at_most_20 n l = few_before (suc n) 20 n [] (omega (arith, l)) (omega arith)
