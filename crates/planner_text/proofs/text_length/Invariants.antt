-- `planner_text::text_length` meets its contract. The invariant: the table is right, and the law `Counting`: i choices are
-- passed, and their lines have sum bytes.
-- Assumes nothing.
use Rattle.planner_rows.specs.Rows.{RowsRight}
use Rattle.planner_text.proofs.Writings.{Counting}
use Rattle.planner_text.proofs.text_length.Given as goal

abbrev pub invariant-loop-i : goal.invariant-loop-i
invariant-loop-i l = record {
  rows_right : RowsRight l.nodes l.steering l.problem l.rows;
  counting : Counting l.nodes l.steering l.problem l.start l.picked l.n l.i l.x l.sum;
}
