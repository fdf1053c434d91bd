-- `planner_backward::union_of` meets its contract. The invariant: all sets that the choices passed lead to are joined.
-- Assumes nothing.
use Rattle.planner_backward.specs.Keeping.{UnionOf}
use Rattle.planner_backward.proofs.union_of.Given as goal

abbrev pub invariant-loop-c : goal.invariant-loop-c
invariant-loop-c l = UnionOf l.table l.i l.lands l.c l.all
