-- `planner_backward::kept_sets` meets its contract.
-- Assumes nothing.
use borrow.Author.Rules.{rules}
use Rattle.planner_rows.proofs.RowLaws.{lands_of, landing_of}
use Rattle.planner_backward.proofs.SetTests.{leads_before, filtered_by}
use Rattle.planner_backward.proofs.kept_sets.Goals as goal

pub useful_sets-requires-clause-landing : goal.useful_sets-requires-clause-landing
useful_sets-requires-clause-landing c = let k = c.know_row.ensures in landing_of c.requires.plannable k.rows_right c.args.x (search rules) k.x_after

pub returns-clause-filtered : goal.returns-clause-filtered
returns-clause-filtered c =
    let a = c.args in
    let k = c.know_row.ensures in
    λ net q all. filtered_by _ _ (leads_before net a.table.now a.d a.i c.if-i-d.false) a.x a.sets c.useful_sets.result
    (c.useful_sets.ensures net (lands_of q k.rows_right a.x (search rules) k.x_after))
