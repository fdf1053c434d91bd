-- `planner_settings::mask_of_targets` meets its contract. The invariant: the number of the targets from i on.
-- Assumes nothing.
use Prim.Native.Nat.{◌-◌, ◌≤◌}
use native.Mathlib.Omega.{arith}
use Rattle.planner_settings.proofs.Basing.{masked_none, masked_more}
use Rattle.planner_settings.proofs.mask_of_targets.Goals as goal

pub loop-i-init : goal.loop-i-init
loop-i-init c = masked_none _ _ c.requires.0

pub loop-i-preserved : goal.loop-i-preserved
loop-i-preserved c = let p = c.requires in
    let l = c.loop-i in
    let w : c.from.result ≤ 128 = omega (arith, c.from.ensures, p.1 (l.i - 1) (omega arith)) in
    masked_more _ _ p.0 _ _ l.invariant _ c.loop-i-test.true c.from.ensures w (p.2 c.from.result w)
