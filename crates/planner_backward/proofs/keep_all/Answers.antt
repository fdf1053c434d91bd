-- `planner_backward::keep_all` meets its contract. The invariant: layers i + 1 to d are kept.
-- Assumes nothing.
use Prim.Native.Nat.{◌*◌, ◌-◌}
use native.Mathlib.Omega.{arith}
use Rattle.planner_backward.proofs.KeptLayers.{kept_next}
use Rattle.planner_backward.proofs.keep_all.Goals as goal

pub loop-i-preserved : goal.loop-i-preserved
loop-i-preserved c = let l = c.loop-i in
    let u = c.keep_slot.ensures in record {
      rows_right = u.rows_right;
      kept = λ net q starts met.
          kept_next net (c.args.start * 16) c.args.d c.args.table.now (l.i - 1) l.i l.table (omega arith) l.auto.i (omega arith) (met (omega arith)) (l.invariant.kept net q starts met)
          _ (u.filtered net q starts.all);
    }
