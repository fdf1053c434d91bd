-- `planner_table::slots::skip_runs` meets its contract. The invariant: the settings up to x are skipped.
-- Assumes nothing.
use mathlib.Core.Path.{sym, ◌∙◌}
use Prim.Native.Nat.{◌+◌}
use native.Mathlib.Omega.{arith}
use Rattle.planner_table.proofs.Skipping.{union_none, skipped_more}
use Rattle.planner_table.proofs.slots.skip_runs.Goals as goal

pub loop-x-preserved : goal.loop-x-preserved
loop-x-preserved c = let a = c.args in
    let l = c.loop-x in
    skipped_more a.table.now a.at a.from a.end l.x 16 (omega arith) l.invariant (union_none a.table.now (a.at + l.x) 16 _ (sym c.union_of.ensures ∙ c.if-union_of-ne0.false) (omega arith))
