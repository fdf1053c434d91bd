-- `planner_text::write_text` meets its contract. The invariant: the table is right, and the law `Writing`: the lines of i choices
-- stand in front of at.
-- Assumes nothing.
use Prim.Native.Nat.{ℕ}
use lib.ListN.{length-replicate}
use Rattle.planner_settings.proofs.PathMarks.{no_marks}
use Rattle.planner_settings.proofs.SettingWalk.{planned_targets}
use Rattle.planner_text.proofs.Writings.{turn_small, turn_lands, turn_choice, writing_none, writing_walks, writing_room, writing_more, writing_all}
use Rattle.planner_text.proofs.write_text.Goals as goal

pub list_wants-requires : goal.list_wants-requires
list_wants-requires c = let q = c.requires.writable.2.counts.prepared in (q.in_limits, planned_targets _ _ _ _ q, no_marks)

pub loop-i-init : goal.loop-i-init
loop-i-init c = record { rows_right = c.requires.rows_right; way_len = length-replicate {A = ℕ} 128 0; writing = writing_none }

pub unwrap-segments-requires : goal.unwrap-segments-requires
unwrap-segments-requires c = writing_walks c.loop-i.invariant.writing c.loop-i-test.true c.walk_setting-walked.ensures.each c.requires.writable.2

pub know_row-requires-clause-x_lt_max_settings : goal.know_row-requires-clause-x_lt_max_settings
know_row-requires-clause-x_lt_max_settings c =
    let p = c.requires.writable in
    (turn_small p.2.counts (c.loop-i.invariant.writing p.0 p.1 p.2).passed, c.loop-i.invariant.rows_right)

pub put_line-at-requires-clause-has_room : goal.put_line-at-requires-clause-has_room
put_line-at-requires-clause-has_room c =
    (writing_room c.loop-i.invariant.writing c.loop-i-test.true c.walk_setting-walked.ensures.each _ c.unwrap-segments.ensures c.requires.writable.2).0

pub land_of-x-requires : goal.land_of-x-requires
land_of-x-requires c =
    let row = c.know_row.ensures in
    let p = c.requires.writable in
    let f = (c.loop-i.invariant.writing p.0 p.1 p.2).passed in
    let o = p.2.counts in record {
      landing = (turn_small o f, (p.0, turn_lands o f row.rows_right row.x_after));
      chosen = turn_choice o f row.rows_right row.x_after c.loop-i-test.true c.from-c.ensures;
    }

pub loop-i-preserved : goal.loop-i-preserved
loop-i-preserved c =
    let row = c.know_row.ensures in
    let walk = c.walk_setting-walked.ensures in
    let line = c.put_line-at in record {
      rows_right = row.rows_right;
      way_len = walk.way_len;
      writing = writing_more c.loop-i.invariant.writing c.loop-i-test.true walk.each _ c.unwrap-segments.ensures row.rows_right row.x_after c.from-c.ensures c.number-h.ensures
          c.land_of-x.ensures line.ensures.value line.auto.plan c.list_wants.ensures line.ensures.line_put;
    }

pub returns : goal.returns
returns c = writing_all c.loop-i.invariant.writing c.loop-i-test.false
