-- `planner_line::put_line` meets its contract: the word, as many `0` as the path has bits, the bits over them, and the line's end.
-- Assumes nothing.
use Prim.Native.Nat.{◌+◌, ◌≤◌}
use native.Mathlib.Omega.{arith}
use lib.ListN.{length}
use borrow.Author.Rules.{rules}
use Rattle.planner_line.proofs.PutOperation.{zeros_there, line_put}
use Rattle.planner_line.proofs.put_line.Goals as goal

pub put_operation-end-requires-clause-zeros_from : goal.put_operation-end-requires-clause-zeros_from
put_operation-end-requires-clause-zeros_from c = let len = c.args.len in
    let r = c.requires in
    let first = c.put-start in
    let fits : first.result + len ≤ length first.new.buf = omega (arith, r.has_room.room, first.ensures.value, r.len_value, first.auto.buf) in
    let there = zeros_there first.result len first.new.buf _ fits c.put_repeated.ensures.buf_after in
    rw r.len_value at there

pub returns-clause-line_put : goal.returns-clause-line_put
returns-clause-line_put c = let r = c.requires in
    let first = c.put-start.ensures in
    let zeros = c.put_repeated.ensures in
    let bits = c.put_operation-end.ensures in
    line_put _ _ _ _ _ _ _ _ _ r.has_room _ _ _ _ _ _ _ (search rules) first.value first.buf_after r.len_value zeros.buf_after
    bits.value bits.operation_put c.put.ensures.buf_after
