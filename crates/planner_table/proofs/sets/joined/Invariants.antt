-- `planner_table::sets::joined` meets its contract. The loop's invariant: r has each of the first m sets of targets that is in sets, together
-- with g, and nothing else.
-- Assumes nothing.
use Rattle.planner_table.proofs.SetLaws.{JoinedBelow}
use Rattle.planner_table.proofs.sets.joined.Given as goal

abbrev pub invariant-loop-m : goal.invariant-loop-m
invariant-loop-m l = JoinedBelow l.sets l.g l.m l.r
