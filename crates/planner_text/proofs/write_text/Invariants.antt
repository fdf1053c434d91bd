-- `planner_text::write_text` meets its contract. The invariant: the table is right, and the law `Writing`: the lines of i choices
-- stand in front of at.
-- Assumes nothing.
use mathlib.Core.Path.{◌≡◌}
use lib.ListN.{length}
use Rattle.planner_rows.specs.Rows.{RowsRight}
use Rattle.planner_text.proofs.Writings.{Writing}
use Rattle.planner_text.proofs.write_text.Given as goal

abbrev pub invariant-loop-i : goal.invariant-loop-i
invariant-loop-i l = record {
  rows_right : RowsRight l.nodes l.steering l.problem l.rows;
  way_len : length l.way ≡ 128;
  writing : Writing l.nodes l.steering l.problem l.start l.picked l.n l.initial.plan l.i l.x l.at l.plan;
}
