-- `planner_rows::write_path` meets its contract. The order, the base and the targets are those of the path.
-- Assumes nothing.
use native.Mathlib.Omega.{arith}
use Rattle.planner_theory.proofs.MoveLaws.{path_short}
use Rattle.planner_settings.proofs.SettingWalk.{planned_listed, planned_steers, planned_targets}
use Rattle.planner_settings.proofs.PathMarks.{no_marks, marks_flags}
use Rattle.planner_rows.proofs.PathRows.{order_small, row_read}
use Rattle.planner_rows.proofs.write_path.Goals as goal

pub mark_path-requires : goal.mark_path-requires
mark_path-requires c = ((c.requires.path_read.0, c.requires.path_read.2.holds), no_marks)

pub order_of-m-requires-clause-steers : goal.order_of-m-requires-clause-steers
order_of-m-requires-clause-steers c = planned_steers _ _ _ _ c.requires.path_read.2.prepared

pub mask_of_targets-gain-requires : goal.mask_of_targets-gain-requires
mask_of_targets-gain-requires c = let q = c.requires.path_read.2 in
    (q.prepared.in_limits, planned_targets _ _ _ _ q.prepared, marks_flags _ _ _ c.mark_path.ensures)

pub base_of-base-requires : goal.base_of-base-requires
base_of-base-requires c = let q = c.requires.path_read.2 in
    (q.prepared.few, (planned_listed _ _ _ _ q.prepared).within)

pub overflow_cast-size : goal.overflow_cast-size
overflow_cast-size c = let q = c.requires.path_read.2 in
    omega (arith, path_short _ q.prepared.accepted _ _ q.tells, q.long)

pub write_row-requires-clause-by_index : goal.write_row-requires-clause-by_index
write_row-requires-clause-by_index c = order_small _ _ c.args.size _ _ c.order_of-m.ensures c.requires.path_read.2.prepared

pub returns : goal.returns
returns c = row_read _ _ _ _ _ c.order_of-m.ensures _ c.mark_path.ensures _ _ _ _ c.pow.ensures c.mask_of_targets-gain.ensures c.base_of-base.ensures _ _ c.write_row.ensures _
