-- `planner_forward::layers::spread_layer` meets its contract. The loop's invariant: all that leaves the settings below x has been spread, and its
-- sets are in all.
-- Assumes nothing.
use Prim.Native.Nat.{◌-◌, ◌≤◌}
use Rattle.planner_settings.specs.Route.{Each}
use Rattle.planner_rows.specs.Rows.{RowsRight}
use Rattle.planner_forward.specs.Goals.{SetsIn}
use Rattle.planner_forward.specs.Spreading.{Spread}
use Rattle.planner_forward.proofs.Leaving.{LeftBelow}
use Rattle.planner_forward.proofs.layers.spread_layer.Given as goal

abbrev pub invariant-loop-x : goal.invariant-loop-x
invariant-loop-x l = record {
  most : l.x ≤ l.end;
  rows_right : RowsRight l.nodes l.steering l.problem l.rows;
  spread : Each l.nodes l.steering l.problem (λ net. Spread (LeftBelow net l.initial.table (l.i - 1) l.x) l.i l.initial.table l.initial.seen l.table l.seen);
  sets_in : Each l.nodes l.steering l.problem (λ net. SetsIn (LeftBelow net l.initial.table (l.i - 1) l.x) l.all);
}

abbrev pub decreases-loop-x : goal.decreases-loop-x
decreases-loop-x l = l.end - l.x
