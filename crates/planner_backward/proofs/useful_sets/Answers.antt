-- `planner_backward::useful_sets` meets its contract.
-- Assumes nothing.
use Rattle.planner_backward.proofs.SetTests.{useful_are}
use Rattle.planner_rows.proofs.RowLaws.{listed_small, land_small, gain_small, gain_read, gain_read_small}
use Rattle.planner_backward.proofs.useful_sets.Goals as goal

pub union_of-all-requires-clause-lands_small : goal.union_of-all-requires-clause-lands_small
union_of-all-requires-clause-lands_small c = listed_small c.requires.landing.1 c.list_lands-n.ensures

pub kept-requires : goal.kept-requires
kept-requires c = gain_read_small c.requires.landing.1 c.number.result c.number.ensures

pub returns : goal.returns
returns c = let l = c.list_lands-n in
    let u = c.union_of-all in
    λ net d.
    useful_are net c.args.table.now c.args.i c.args.x l.result _ c.args.sets u.result c.number.result c.kept.result
    (land_small d) (gain_small d) (l.ensures.of net d) u.ensures (gain_read d c.number.result c.number.ensures) c.kept.ensures
