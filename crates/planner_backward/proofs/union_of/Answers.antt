-- `planner_backward::union_of` meets its contract. The invariant: all sets that the choices passed lead to are joined.
-- Assumes nothing.
use Rattle.planner_backward.proofs.SetTests.{union_none, union_more}
use Rattle.planner_backward.proofs.union_of.Goals as goal

pub loop-c-init : goal.loop-c-init
loop-c-init c = union_none c.args.table.now c.args.i c.args.lands.now

pub loop-c-preserved : goal.loop-c-preserved
loop-c-preserved c = let l = c.loop-c in rw c.from.ensures (union_more c.args.table.now c.args.i c.args.lands.now l.c l.all l.invariant)
