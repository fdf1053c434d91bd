-- `planner_backward::keep_all` meets its contract. The invariant: layers i + 1 to d are kept.
-- Assumes nothing.
use Rattle.std.proofs.Common.{◌*◌, ◌<◌}
use Rattle.planner_settings.specs.Route.{Each}
use Rattle.planner_rows.specs.Rows.{RowsRight}
use Rattle.planner_forward.specs.Spreading.{MetAt, SearchStarts}
use Rattle.planner_backward.proofs.KeptLayers.{KeptDown}
use Rattle.planner_backward.proofs.keep_all.Given as goal

abbrev pub invariant-loop-i : goal.invariant-loop-i
invariant-loop-i l = record {
  rows_right : RowsRight l.nodes l.steering l.problem l.rows;
  kept : Each l.nodes l.steering l.problem (λ net. SearchStarts net l.start l.full → (0 < l.d → MetAt net (l.start * 16) l.initial.table l.d) → KeptDown net (l.start * 16) l.d l.i l.initial.table l.table);
}
