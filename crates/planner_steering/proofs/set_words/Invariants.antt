-- `planner_steering::set_words` meets its contract. The invariant: the bits passed have their digits, the others are clear.
-- Assumes nothing.
use Rattle.planner_steering.proofs.Wording.{Setting}
use Rattle.planner_steering.proofs.set_words.Given as goal

abbrev pub invariant-loop-j : goal.invariant-loop-j
invariant-loop-j l = Setting l.problem l.x l.j l.bits l.known l.y
