-- `planner_settings::mark_path` meets its contract. The invariant: the segments passed are marked.
-- Assumes nothing.
use Rattle.planner_settings.proofs.PathMarks.{MarkedTo}
use Rattle.planner_settings.proofs.mark_path.Given as goal

abbrev pub invariant-loop-i : goal.invariant-loop-i
invariant-loop-i l = MarkedTo l.way l.n l.i l.marks
