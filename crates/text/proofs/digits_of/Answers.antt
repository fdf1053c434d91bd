-- `text::digits_of` meets its contract. The loop's invariant: the digits from the place on, behind v, give the field's number, and v is
-- below 10 to the count of the digits before it. Assumes nothing.
use Rattle.std.specs.Prelude.{Some as some, None as none}
use mathlib.Core.Path.{◌≡◌, refl, ap, ◌∙◌}
use Prim.Native.Nat.{ℕ, ◌≤◌}
use native.Mathlib.Omega.{arith}
use Rattle.text.specs.declared.Class.{Class}
use Rattle.text.specs.declared.Class.TheVariants.{Digit, Tab, LineEnd, Other}
use Rattle.text.proofs.Decimals.{digit_in, class_digit, class_small, digits_end, digits_next, ten_step, ten_small}
use Rattle.text.proofs.digits_of.Goals as goal

-- the variants behind `Digit`
not_digit : (t : Class) → ((d : ℕ) → t ≡ Digit d → ⊥) → digit_in t ≡ none
not_digit (Digit d) k = absurd (k d refl)
not_digit Tab k = refl
not_digit LineEnd k = refl
not_digit Other k = refl

pub returns-in_default : goal.returns-in_default
returns-in_default c = digits_next _ _ _ _ c.loop-b.invariant.whole none c.loop-b-test.true
    (class_digit _ _ c.class_of.ensures ∙ not_digit c.class_of.result c.in_default.not-Digit)

pub overflow_mul-v : goal.overflow_mul-v
overflow_mul-v c =
    let value-small : c.loop-b.v ≤ 9999 = ten_small _ c.loop-b.b-index c.loop-b.invariant.below (omega arith) in
    omega (arith, value-small)

pub overflow_add-v : goal.overflow_add-v
overflow_add-v c =
    let digit-small = class_small _ _ _ c.class_of.ensures c.in-Digit.is in
    let value-small : c.loop-b.v ≤ 9999 = ten_small _ c.loop-b.b-index c.loop-b.invariant.below (omega arith) in
    omega (arith, digit-small)

pub loop-b-preserved : goal.loop-b-preserved
loop-b-preserved c = record {
  below = ten_step _ _ _ c.loop-b.invariant.below (class_small _ _ _ c.class_of.ensures c.in-Digit.is);
  whole = digits_next _ _ _ _ c.loop-b.invariant.whole (some _) c.loop-b-test.true (class_digit _ _ c.class_of.ensures ∙ ap digit_in c.in-Digit.is);
}

pub returns : goal.returns
returns c = digits_end _ _ _ _ c.loop-b.invariant.whole c.loop-b-test.false
