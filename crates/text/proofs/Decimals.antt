-- Digits and decimal fields, byte by byte.
-- Assumes nothing.
use mathlib.Core.Path.{◌≡◌, refl, sym, ap, ◌∙◌}
use mathlib.Core.Bool.{Bool, true, false, cond, not, ◌&&◌}
use Rattle.std.specs.Prelude.{Option, None as none, Some as some}
use mathlib.Core.List.{[], ◌∷◌}
use Prim.Native.Nat.{ℕ, ◌+◌, ◌-◌, ◌*◌, ◌^◌, ◌≤◌, ◌<◌}
use native.Mathlib.Omega.{arith}
use native.Mathlib.Nat.{lt_of_lt_of_le, pow-suc, pow-le-pow_right}
use native.Mathlib.Numerals.{add-one}
use lib.ListN.{length, drop, get_or, drop_of_length-le}
use lib.Seq.{drop-cons}
use lib.Dec.{eqb, leb, ltb, lit≤}
use borrow.Author.Tests.{eqb-true, leb-true, ltb-true}
use Rattle.std.proofs.lemmas.Bool.Decides.{nat_tests}
use Rattle.model.specs.Text.{Bytes, bind, digit, digits_from, leading_zero, decimal}
use Rattle.model.proofs.Lists.{and_parts, none_some, some_same}
use Rattle.model.proofs.LineForms.{bound}
use Rattle.text.specs.declared.Class.{Class}
use Rattle.text.specs.declared.Class.TheVariants.{Digit, Tab, LineEnd, Other}
use Rattle.text.specs.Numbers.{class_of, digit_or_other, IsDecimal}

-- ---- classes

abbrev pub digit_in : Class → Option ℕ
digit_in (Digit d) = some d
digit_in Tab = none
digit_in LineEnd = none
digit_in Other = none

digit_in_law : (o : Option ℕ) → digit_in (digit_or_other o) ≡ o
digit_in_law none = refl
digit_in_law (some d) = refl

pub class_digit : (b : ℕ) (t : Class) → t ≡ class_of b → digit b ≡ digit_in t
unfolding class_of
class_digit b t h = go (eqb b 9) refl (eqb b 10) refl ∙ ap digit_in (sym h)
  where
    go : (s : Bool) → eqb b 9 ≡ s → (u : Bool) → eqb b 10 ≡ u → digit b ≡ digit_in (cond s Tab (cond u LineEnd (digit_or_other (digit b))))
    go true p u q = ap digit (eqb-true b 9 p)
    go false p true q = ap digit (eqb-true b 10 q)
    go false p false q = sym (digit_in_law (digit b))

pub class_is : (b : ℕ) → class_of b ≡ cond (eqb b 9) Tab (cond (eqb b 10) LineEnd (cond (leb 48 b && ltb b 58) (Digit (b - 48)) Other))
unfolding class_of
class_is b = ap (λ t. cond (eqb b 9) Tab (cond (eqb b 10) LineEnd t)) (go (leb 48 b && ltb b 58))
  where
    go : (t : Bool) → digit_or_other (cond t (some (b - 48)) none) ≡ cond t (Digit (b - 48)) Other
    go true = refl
    go false = refl

pub ruleset classes = (nat_tests, class_is)

-- ---- digits

digit_small : (b d : ℕ) → digit b ≡ some d → d ≤ 9
digit_small b d e = go (leb 48 b && ltb b 58) refl e
  where
    go : (t : Bool) → (leb 48 b && ltb b 58) ≡ t → cond t (some (b - 48)) none ≡ some d → d ≤ 9
    go true p f = omega (arith, some_same (b - 48) d f, ltb-true b 58 (and_parts (leb 48 b) (ltb b 58) p).1)
    go false p f = absurd (none_some d f)

pub class_small : (b d : ℕ) (t : Class) → t ≡ class_of b → t ≡ Digit d → d ≤ 9
class_small b d t h e = digit_small b d (class_digit b t h ∙ ap digit_in e)

-- the digits from place i on behind v, where r is what they give
module _ (f : Bytes) (i v : ℕ) (r : Option ℕ) (whole : digits_from v (drop i f) ≡ r) where
  pub digits_end : length f ≤ i → some v ≡ r
  unfolding digits_from
  digits_end h = sym (rw (drop_of_length-le f h)) ∙ whole

  pub digits_next : (o : Option ℕ) → i < length f → digit (get_or f i 0) ≡ o → bind o (λ d. digits_from (v * 10 + d) (drop (i + 1) f)) ≡ r
  unfolding digits_from
  digits_next o h e = sym (rw (add-one, drop-cons f i 0 h, digits_from, e)) ∙ whole

-- ---- i digits give a number below 10 ^ i

pub ten_step : (v d i : ℕ) → v < 10 ^ i → d ≤ 9 → v * 10 + d < 10 ^ (i + 1)
ten_step v d i h k = rw (add-one, pow-suc 10 i) (omega arith)

pub ten_small : (v i : ℕ) → v < 10 ^ i → i ≤ 4 → v ≤ 9999
ten_small v i h k = let q : v < 10 ^ 4 = lt_of_lt_of_le h (pow-le-pow_right (lit≤ tt) k) in omega arith

digits_small : (f : Bytes) (v w i k : ℕ) → i + length f ≡ k → digits_from v f ≡ some w → v < 10 ^ i → w < 10 ^ k
unfolding digits_from
digits_small [] v w i k p e h =
    let q : i ≡ k = omega arith in
    rw (← some_same v w e, ← q) h
digits_small (b ∷ f) v w i k p e h =
    let d = bound (digit b) _ w e in
    digits_small f (v * 10 + d.value) w (i + 1) k (omega arith) d.then (ten_step v d.value i h (digit_small b d.value d.given))

-- ---- a decimal field

-- by its length and its first byte
pub decimal_is : (f : Bytes) → decimal f ≡
    cond (leb 1 (length f) && (leb (length f) 4 && not (leb 2 (length f) && eqb (get_or f 0 0) 48))) (digits_from 0 f) none
unfolding decimal
decimal_is [] = refl
decimal_is (b ∷ []) = refl
decimal_is (b ∷ c ∷ f) = grind (arith, nat_tests)

pub decimal_small : (f : Bytes) (v : ℕ) → decimal f ≡ some v → v ≤ 9999
unfolding decimal
decimal_small f v e = go (leb 1 (length f) && leb (length f) 4 && not (leading_zero f)) refl e
  where
    go : (t : Bool) → (leb 1 (length f) && leb (length f) 4 && not (leading_zero f)) ≡ t → cond t (digits_from 0 f) none ≡ some v → v ≤ 9999
    go true p q =
        let a = and_parts (leb 1 (length f) && leb (length f) 4) (not (leading_zero f)) p in
        let b = and_parts (leb 1 (length f)) (leb (length f) 4) a.0 in
        ten_small v (length f) (digits_small f 0 v 0 (length f) (omega arith) q (lit≤ tt)) (leb-true (length f) 4 b.1)
    go false p q = absurd (none_some v q)

pub is_decimal : (f : Bytes) (r : Option ℕ) → r ≡ decimal f → IsDecimal f r
is_decimal f r e = record { value = e; small = λ v q. decimal_small f v (sym e ∙ q) }
