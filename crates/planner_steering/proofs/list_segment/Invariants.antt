-- `planner_steering::list_segment` meets its contract. The invariant: the bits listed and the bits to come make the whole.
-- Assumes nothing.
use Rattle.planner_steering.proofs.Listing.{Marking}
use Rattle.planner_steering.proofs.list_segment.Given as goal

abbrev pub invariant-loop-b : goal.invariant-loop-b
invariant-loop-b l = Marking l.word l.len l.s l.initial.listed l.n l.b l.listed l.m
