-- `planner_forward::layers::spread_layer` meets its contract. The loop's invariant: all that leaves the settings below x has been spread, and its
-- sets are in all.
-- Assumes nothing.
use mathlib.Core.Path.{◌≡◌}
use mathlib.Core.Logic.{inl}
use Prim.Native.Nat.{◌+◌, ◌*◌, ◌-◌, ◌<◌}
use native.Mathlib.Omega.{arith}
use lib.ListN.{get_or}
use Rattle.model.specs.Network.{Network}
use Rattle.planner_settings.specs.Route.{Prepared}
use Rattle.planner_rows.specs.Rows.{Lands}
use Rattle.planner_forward.specs.Spreading.{Spread}
use Rattle.planner_settings.proofs.SettingWalk.{settings_count}
use Rattle.planner_rows.proofs.RowLaws.{lands_of, landing_of}
use Rattle.planner_forward.proofs.Leaving.{LeftBelow, left_more, left_skip, left_all, left_start, sets_more, sets_skip, sets_all, sets_start}
use Rattle.planner_forward.proofs.layers.spread_layer.Goals as goal

pub spread_setting-requires-clause-landing : goal.spread_setting-requires-clause-landing
spread_setting-requires-clause-landing c = let w = c.know_row.ensures in
    landing_of c.requires.plannable w.rows_right c.args.start c.requires.room.2 w.x_after

pub returns-then-i-eq0-clause-only_slot : goal.returns-then-i-eq0-clause-only_slot
returns-then-i-eq0-clause-only_slot c = let p = c.requires.plannable in
    let w = c.know_row.ensures in
    let q = c.spread_setting.ensures.spread p.0 (lands_of p.1 w.rows_right c.args.start c.requires.room.2 w.x_after) in
    (q.only, q.seen_size)

pub returns-then-i-eq0-clause-spread : goal.returns-then-i-eq0-clause-spread
returns-then-i-eq0-clause-spread c = let a = c.args in
    let w = c.know_row.ensures in
    let r = c.spread_setting in
    λ net p known.
    left_start net a.start a.table.now a.i a.seen.now r.new.table r.new.seen c.if-i-eq0.true
    (r.ensures.spread net (lands_of p w.rows_right a.start c.requires.room.2 w.x_after))

pub returns-then-i-eq0-clause-sets_in : goal.returns-then-i-eq0-clause-sets_in
returns-then-i-eq0-clause-sets_in c = let a = c.args in
    let w = c.know_row.ensures in
    let r = c.spread_setting in
    λ net p known. sets_start net a.start a.table.now a.i r.result c.if-i-eq0.true (r.ensures.sets_in net (lands_of p w.rows_right a.start c.requires.room.2 w.x_after))

pub spread_setting-all-requires-clause-landing : goal.spread_setting-all-requires-clause-landing
spread_setting-all-requires-clause-landing c = let w = c.know_row-in-loop-x.ensures in
    landing_of c.requires.plannable w.rows_right c.loop-x.x (omega (arith, c.setting_count-end.ensures.1)) w.x_after

pub loop-x-preserved : goal.loop-x-preserved
loop-x-preserved c = let l = c.loop-x in
    let n = c.setting_count-end in
    let w = c.know_row-in-loop-x.ensures in
    let m = c.spread_setting-all in
    let k = c.next_setting-x-in-loop-x in
    let tab = c.args.table.now in
    let seen = c.args.seen.now in
    let j = c.args.i - 1 in
    let sets = get_or l.table (j * 729 + l.x) 0 in
    let later = c.if-i-eq0.false in
    let small : l.x < 729 = omega (arith, n.ensures.1, c.loop-x-test.true) in
    let At : Network → Type 0 = λ net. Prepared net c.args.nodes.now c.args.steering.now c.args.problem in
    let same : (net : Network) → At net → sets ≡ get_or tab (j * 729 + l.x) 0 = λ net p. (l.invariant.spread net p).only.others (j * 729 + l.x) (inl (omega (arith, small, later))) in
    let lands : (net : Network) → At net → Lands net _ l.x = λ net p. lands_of p w.rows_right l.x small w.x_after in
    let more : (net : Network) → At net → Spread (LeftBelow net tab j (l.x + 1)) c.args.i tab seen m.new.table m.new.seen =
    λ net p. left_more net tab j c.args.i l.x seen l.table l.seen (l.invariant.spread net p) sets m.new.table m.new.seen (same net p) (m.ensures.spread net (lands net p)) in record {
      most = k.ensures.most;
      rows_right = w.rows_right;
      spread = λ net p. left_skip net tab j c.args.i (l.x + 1) seen _ _ (more net p) n.result k.result (omega (arith, later)) n.ensures.1 k.ensures;
      sets_in = λ net p.
          sets_skip net tab j c.args.i (l.x + 1) seen _ _ (more net p) n.result k.result (omega (arith, later)) n.ensures.1 k.ensures _
          (sets_more net tab j l.x l.all (l.invariant.sets_in net p) sets m.result (same net p) (m.ensures.sets_in net (lands net p)));
    }

pub returns-clause-spread : goal.returns-clause-spread
returns-clause-spread c = let a = c.args in
    let n = c.setting_count-end in
    let l = c.loop-x in
    λ net p known.
    left_all net (a.start * 16) a.table.now a.i l.x a.seen.now l.table l.seen (omega arith) (omega (arith, n.ensures.1))
    (omega (arith, settings_count net a.nodes.now a.steering.now a.problem p, n.ensures.0)) known (l.invariant.spread net p)

pub returns-clause-sets_in : goal.returns-clause-sets_in
returns-clause-sets_in c = let a = c.args in
    let n = c.setting_count-end in
    let l = c.loop-x in
    λ net p known.
    sets_all net (a.start * 16) a.table.now a.i l.x l.all (omega arith)
    (omega (arith, settings_count net a.nodes.now a.steering.now a.problem p, n.ensures.0)) known (l.invariant.sets_in net p)
