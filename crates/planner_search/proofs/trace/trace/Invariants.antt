-- `planner_search::trace::trace` meets its contract. The invariant: the way has come to setting x with the targets m, and i choices of the
-- plan are written.
-- Assumes nothing.
use Prim.Native.Nat.{◌*◌, ◌<◌}
use Rattle.planner_rows.specs.Rows.{RowsRight}
use Rattle.planner_settings.specs.Route.{Each}
use Rattle.planner_backward.specs.Keeping.{Kept}
use Rattle.planner_search.proofs.KeptWay.{Tracing}
use Rattle.planner_search.proofs.trace.trace.Given as goal

abbrev pub invariant-loop-i : goal.invariant-loop-i
invariant-loop-i l = record {
  x_small : l.x < 729;
  m_small : l.m < 16;
  rows_right : RowsRight l.nodes l.steering l.problem l.rows;
  tracing : Each l.nodes l.steering l.problem (λ net. (kept : Kept net (l.start * 16) l.d l.table) → Tracing net (l.start * 16) l.d l.table kept l.initial.out l.out l.x l.m l.i);
}
