-- `planner_table::sets::kept` meets its contract. The loop's invariant: of the first m sets of targets r has those that stay, and nothing else.
-- Assumes nothing.
use Rattle.planner_table.proofs.SetLaws.{KeptBelow}
use Rattle.planner_table.proofs.sets.kept.Given as goal

abbrev pub invariant-loop-m : goal.invariant-loop-m
invariant-loop-m l = KeptBelow l.sets l.g l.all l.m l.r
