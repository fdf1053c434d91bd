-- `planner_rows::write_order` meets its contract. The invariant: i numbers are written, the last of order first.
-- Assumes nothing.
use Rattle.planner_rows.proofs.RowWriting.{OrderTo}
use Rattle.planner_rows.proofs.write_order.Given as goal

abbrev pub invariant-loop-i : goal.invariant-loop-i
invariant-loop-i l = OrderTo l.initial.rows l.x l.order l.m l.i l.rows
