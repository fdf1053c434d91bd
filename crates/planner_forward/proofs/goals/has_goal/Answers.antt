-- `planner_forward::goals::has_goal` meets its contract. The loop's invariant: no setting below x is a goal with one of its sets.
-- Assumes nothing.
use mathlib.Core.Path.{sym, ◌∙◌}
use Prim.Native.Nat.{◌<◌}
use native.Mathlib.Omega.{arith}
use Rattle.planner_settings.proofs.SettingWalk.{settings_count}
use Rattle.planner_forward.proofs.GoalLaws.{goal_there, goal_nowhere}
use Rattle.planner_forward.proofs.goals.has_goal.Goals as goal

pub returns-then-is_goal-clause-goal : goal.returns-then-is_goal-clause-goal
returns-then-is_goal-clause-goal c = let l = c.loop-x in
    let small : l.x < 729 = omega (arith, c.setting_count-end.ensures.1, c.loop-x-test.true) in
    λ net p all known. goal_there net c.args.full all c.requires.room.1 c.args.table.now c.args.i l.x small (sym (c.is_goal.ensures.goal net p) ∙ c.if-is_goal.true)

pub returns-clause-goal : goal.returns-clause-goal
returns-clause-goal c = let a = c.args in
    let l = c.loop-x in
    λ net p all known.
    goal_nowhere net a.full all c.requires.room.1 a.table.now a.i l.x
    (omega (arith, settings_count net a.nodes.now a.steering.now a.problem p, c.setting_count-end.ensures.0)) known (l.invariant.no_goal net p)
