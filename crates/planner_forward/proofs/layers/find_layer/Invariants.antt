-- `planner_forward::layers::find_layer` meets its contract. The loop's invariant: the search has come to layer i, no layer so far has a goal, and
-- nothing behind the slots has changed.
-- Assumes nothing.
use mathlib.Core.Path.{◌≡◌}
use Prim.Native.Nat.{ℕ, ◌*◌, ◌≤◌}
use lib.ListN.{length, get_or}
use Rattle.planner_rows.specs.Rows.{RowsRight}
use Rattle.planner_settings.specs.Route.{Each}
use Rattle.planner_forward.specs.Spreading.{SearchStarts}
use Rattle.planner_forward.proofs.Layering.{Forward}
use Rattle.planner_forward.proofs.layers.find_layer.Given as goal

abbrev pub invariant-loop-i : goal.invariant-loop-i
invariant-loop-i l = record {
  rows_right : RowsRight l.nodes l.steering l.problem l.rows;
  table_size : length l.table ≡ length l.initial.table;
  rest_kept : (n : ℕ) → 11664 ≤ n → get_or l.table n 0 ≡ get_or l.initial.table n 0;
  seen_size : length l.seen ≡ 729;
  forward : Each l.nodes l.steering l.problem (λ net. SearchStarts net l.start l.full → Forward net (l.start * 16) l.i l.table l.seen);
}
