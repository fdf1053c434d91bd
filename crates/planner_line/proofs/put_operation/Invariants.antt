-- `planner_line::put_operation` meets its contract. The loop's invariant: the first i segments are written.
-- Assumes nothing.
use Rattle.planner_line.proofs.PutOperation.{Putting}
use Rattle.planner_line.proofs.put_operation.Given as goal

abbrev pub invariant-loop-i : goal.invariant-loop-i
invariant-loop-i l = Putting l.nodes l.steering l.wants l.way l.n l.at l.h l.c l.initial.plan l.i l.place l.left l.plan
