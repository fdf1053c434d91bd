-- `planner_text::text_length` meets its contract. The invariant: the table is right, and the law `Counting`: i choices are
-- passed, and their lines have sum bytes.
-- Assumes nothing.
use Prim.Native.Nat.{◌+◌, ◌≤◌}
use native.Mathlib.Omega.{arith}
use Rattle.planner_text.proofs.Writings.{turn_small, turn_lands, turn_choice, counting_none, counting_fits, counting_more, counting_all}
use Rattle.planner_text.proofs.text_length.Goals as goal

pub loop-i-init : goal.loop-i-init
loop-i-init c = record { rows_right = c.requires.rows_right; counting = counting_none }

pub know_row-requires : goal.know_row-requires
know_row-requires c = let p = c.requires.countable in record {
  plannable = (p.0, p.2.prepared);
  x_lt_max_settings = (turn_small p.2 (c.loop-i.invariant.counting p.0 p.1 p.2).passed, c.loop-i.invariant.rows_right);
}

pub number-requires : goal.number-requires
number-requires c = let p = c.requires.countable in
    (turn_small p.2 (c.loop-i.invariant.counting p.0 p.1 p.2).passed, omega arith)

-- its line is short
pub overflow_add-sum : goal.overflow_add-sum
overflow_add-sum c =
    let row = c.know_row.ensures in
    let fits : c.loop-i.sum + (5 + c.number.result) ≤ 64080 =
    counting_fits c.loop-i.invariant.counting c.loop-i-test.true row.rows_right row.x_after c.number.ensures c.requires.countable.2 in
    omega (arith, fits)

pub overflow_add-sum-in-loop-i : goal.overflow_add-sum-in-loop-i
overflow_add-sum-in-loop-i c =
    let row = c.know_row.ensures in
    let fits : c.loop-i.sum + (5 + c.number.result) ≤ 64080 =
    counting_fits c.loop-i.invariant.counting c.loop-i-test.true row.rows_right row.x_after c.number.ensures c.requires.countable.2 in
    omega (arith, fits)

pub bounds-picked-i : goal.bounds-picked-i
bounds-picked-i c = omega (arith, c.loop-i-test.true, c.requires.countable.2.picks.most)

pub land_of-x-requires : goal.land_of-x-requires
land_of-x-requires c =
    let row = c.know_row.ensures in
    let p = c.requires.countable in
    let f = (c.loop-i.invariant.counting p.0 p.1 p.2).passed in record {
      landing = (turn_small p.2 f, (p.0, turn_lands p.2 f row.rows_right row.x_after));
      chosen = turn_choice p.2 f row.rows_right row.x_after c.loop-i-test.true c.from.ensures;
    }

pub loop-i-preserved : goal.loop-i-preserved
loop-i-preserved c =
    let row = c.know_row.ensures in
    record { rows_right = row.rows_right; counting = counting_more c.loop-i.invariant.counting c.loop-i-test.true row.rows_right row.x_after c.number.ensures c.from.ensures c.land_of-x.ensures }

pub returns : goal.returns
returns c = record {
  rows_right = c.loop-i.invariant.rows_right;
  counts = counting_all c.loop-i.invariant.counting c.loop-i-test.false;
}
