-- `planner_backward::keep_slot` meets its contract. The invariant: slot i is filtered up to setting x.
-- Assumes nothing.
use Prim.Native.Nat.{◌≤◌, ◌-◌}
use mathlib.Core.Path.{◌≡◌}
use Rattle.planner_theory.specs.Moves.{all_of}
use Rattle.planner_settings.specs.Route.{Each}
use Rattle.planner_rows.specs.Rows.{RowsRight}
use Rattle.planner_backward.specs.Keeping.{leads}
use Rattle.planner_backward.proofs.Filtering.{Filtering}
use Rattle.planner_backward.proofs.keep_slot.Given as goal

abbrev pub invariant-loop-x : goal.invariant-loop-x
invariant-loop-x l = record {
  within : l.x ≤ l.end;
  rows_right : RowsRight l.nodes l.steering l.problem l.rows;
  filtering : Each l.nodes l.steering l.problem (λ net. l.full ≡ all_of net.targets → Filtering (leads net l.initial.table l.d l.i) l.i l.x l.initial.table l.table);
}

abbrev pub decreases-loop-x : goal.decreases-loop-x
decreases-loop-x l = l.end - l.x
