-- `planner_backward::goal_sets` meets its contract.
-- Assumes nothing.
use mathlib.Core.Path.{sym, ◌∙◌}
use Rattle.planner_backward.proofs.SetTests.{goal_alone}
use Rattle.planner_backward.proofs.goal_sets.Goals as goal

pub returns-clause-filtered : goal.returns-clause-filtered
returns-clause-filtered c =
    let a = c.args in
    let on = sym c.has.ensures ∙ c.if-not-has.false in
    λ net q all. rw c.only.ensures (goal_alone net a.x a.full a.sets all c.requires.small.1 on
    (λ z. c.if-number-eq0.false (c.number.ensures ∙ (c.know_row.ensures.rows_right.right net q a.x c.requires.small.0 c.know_row.ensures.x_after).count_is ∙ z)))
