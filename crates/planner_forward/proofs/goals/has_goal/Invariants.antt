-- `planner_forward::goals::has_goal` meets its contract. The loop's invariant: no setting below x is a goal with one of its sets.
-- Assumes nothing.
use mathlib.Core.Path.{◌≡◌}
use mathlib.Core.Bool.{false}
use Prim.Native.Nat.{ℕ, ◌+◌, ◌*◌, ◌-◌, ◌≤◌, ◌<◌}
use lib.ListN.{get_or}
use Rattle.planner_rows.specs.Rows.{RowsRight}
use Rattle.planner_settings.specs.Route.{Each}
use Rattle.planner_forward.specs.Goals.{goal_with}
use Rattle.planner_forward.proofs.goals.has_goal.Given as goal

abbrev pub invariant-loop-x : goal.invariant-loop-x
invariant-loop-x l = record {
  most : l.x ≤ l.end;
  rows_right : RowsRight l.nodes l.steering l.problem l.rows;
  no_goal : Each l.nodes l.steering l.problem (λ net. (y : ℕ) → y < l.x → goal_with net l.full y (get_or l.table (l.i * 729 + y) 0) ≡ false);
}

abbrev pub decreases-loop-x : goal.decreases-loop-x
decreases-loop-x l = l.end - l.x
