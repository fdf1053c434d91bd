-- `planner_line::list_wants` meets its contract. The loop's invariant: the words of the targets from i on.
-- Assumes nothing.
use Rattle.planner_line.proofs.WantedWords.{Wanting}
use Rattle.planner_line.proofs.list_wants.Given as goal

abbrev pub invariant-loop-i : goal.invariant-loop-i
invariant-loop-i l = Wanting l.t l.i l.wants
