-- `planner_settings::base_of` meets its contract. The invariant: the number of the digits from j on.
-- Assumes nothing.
use Prim.Native.Nat.{◌-◌}
use native.Mathlib.Omega.{arith}
use Rattle.planner_settings.proofs.Basing.{based_none, based_small, based_more, based_all}
use Rattle.planner_settings.proofs.base_of.Goals as goal

pub loop-j-init : goal.loop-j-init
loop-j-init c = based_none _ _ _ c.requires.0 _

pub overflow_mul-base : goal.overflow_mul-base
overflow_mul-base c = omega (arith, based_small _ _ _ c.requires.0 _ _ _ c.loop-j.invariant)

pub overflow_add-base : goal.overflow_add-base
overflow_add-base c = omega (arith, c.digit_off.ensures.1, based_small _ _ _ c.requires.0 _ _ _ c.loop-j.invariant)

pub loop-j-preserved : goal.loop-j-preserved
loop-j-preserved c = let p = c.requires in
    let l = c.loop-j in
    let d = rw c.from.ensures at c.digit_off.ensures in
    based_more _ _ _ p.0 _ _ _ l.invariant _ c.loop-j-test.true (p.1 (l.j - 1) (omega arith)) d.0 d.1

pub returns : goal.returns
returns c = based_all _ _ _ c.requires.0 _ _ _ c.loop-j.invariant c.loop-j-test.false
