-- `plan_text::line_at` meets its contract: each answer by the tests that led to it.
-- Assumes nothing.
use Prim.Native.Nat.{ℕ}
use mathlib.Core.Path.{refl}
use native.Mathlib.Omega.{arith}
use lib.ListN.{length-take, length-drop, get_or-eq_default}
use Rattle.std.proofs.lemmas.Bool.Decides.{nat_tests}
use Rattle.plan_text.proofs.Bits.{run_part}
use Rattle.plan_text.proofs.Lines.{next_other, next_by_end}
use Rattle.plan_text.proofs.line_at.Goals as goal

pub returns-then-not-starts_with : goal.returns-then-not-starts_with
returns-then-not-starts_with c = next_other c.args.plan.now c.args.at _ c.starts_with.ensures.value c.if-not-starts_with.true

pub returns-then-end-plan : goal.returns-then-end-plan
returns-then-end-plan c = grind (arith, nat_tests, get_or-eq_default {A = ℕ}, next_by_end c.args.plan.now c.args.at _ c.starts_with.ensures.value _ c.bits_end-end.ensures c.if-not-starts_with.false)

pub bounds-plan-end : goal.bounds-plan-end
bounds-plan-end c =
    let room = c.if-not-starts_with.ensures.bound refl in
    let part = run_part _ _ _ (omega (arith, length-take {A = ℕ}, length-drop {A = ℕ})) c.bits_end-end.ensures in
    omega arith

pub returns-then-plan-end-ne10 : goal.returns-then-plan-end-ne10
returns-then-plan-end-ne10 c = grind (arith, nat_tests, next_by_end c.args.plan.now c.args.at _ c.starts_with.ensures.value _ c.bits_end-end.ensures c.if-not-starts_with.false)

pub returns : goal.returns
returns c = grind (arith, nat_tests, next_by_end c.args.plan.now c.args.at _ c.starts_with.ensures.value _ c.bits_end-end.ensures c.if-not-starts_with.false)
