-- `planner_steering::list_steering` meets its contract. The invariant: the bits listed and those of the segments to come make the whole.
-- Assumes nothing.
use Rattle.planner_steering.proofs.Listing.{Gathering}
use Rattle.planner_steering.proofs.list_steering.Given as goal

abbrev pub invariant-loop-s : goal.invariant-loop-s
invariant-loop-s l = Gathering l.nodes l.steering l.count l.s l.listed l.n
