-- `planner_steering::clear_words` meets its contract. The invariant: the words of the segments passed are 0.
-- Assumes nothing.
use Rattle.planner_steering.specs.Steering.{Cleared}
use Rattle.planner_steering.proofs.clear_words.Given as goal

abbrev pub invariant-loop-j : goal.invariant-loop-j
invariant-loop-j l = Cleared l.steering l.j l.bits l.known
