-- `planner_forward::layers::spread_setting` meets its contract: where the choices lead, with the sets joined, is what leaves the setting.
-- Assumes nothing.
use Rattle.planner_rows.proofs.RowLaws.{gain_read, gain_read_small, listed_small}
use Rattle.planner_forward.proofs.SpreadLaws.{spread_leaving, leaving_sets}
use Rattle.planner_forward.proofs.layers.spread_setting.Goals as goal

pub joined-got-requires : goal.joined-got-requires
joined-got-requires c = gain_read_small c.requires.landing.1 c.number.result c.number.ensures

pub spread_choices-requires-clause-lands_small : goal.spread_choices-requires-clause-lands_small
spread_choices-requires-clause-lands_small c = listed_small c.requires.landing.1 c.list_lands-n.ensures

pub returns-clause-spread : goal.returns-clause-spread
returns-clause-spread c = let l = c.list_lands-n in
    let n = c.number in
    let j = c.joined-got in
    let a = c.spread_choices in
    λ net d.
    let o = l.ensures.of net d in
    spread_leaving net c.args.x c.args.sets l.result n.result j.result l.new.lands o.count_is o.lands_are
    (gain_read d n.result n.ensures) (gain_read_small d n.result n.ensures) j.ensures
    c.args.i c.args.table.now c.args.seen.now a.new.table a.new.seen a.ensures

pub returns-clause-sets_in : goal.returns-clause-sets_in
returns-clause-sets_in c = let l = c.list_lands-n in
    let n = c.number in
    let j = c.joined-got in
    λ net d.
    let o = l.ensures.of net d in
    leaving_sets net c.args.x c.args.sets l.result n.result j.result l.new.lands o.count_is o.lands_are
    (gain_read d n.result n.ensures) (gain_read_small d n.result n.ensures) j.ensures
