-- `planner_line::put_operation` meets its contract. The loop's invariant: the first i segments are written.
-- Assumes nothing.
use native.Mathlib.Omega.{arith}
use borrow.Author.Rules.{rules}
use Rattle.network_path.proofs.PathLaws.{SegmentOn, segment_on}
use Rattle.planner_line.proofs.PutOperation.{operation_none, segment_fits, segment_zeros, operation_more}
use Rattle.planner_line.proofs.put_operation.Goals as goal
use Rattle.planner_line.proofs.put_operation.Goals.{After-from-s}

-- the segment that the loop is at
here : (c : After-from-s) → SegmentOn c.args.nodes.now c.args.way.now c.args.n c.loop-i.i c.from-s.result
here c = segment_on _ _ _ c.requires.has_room.holds _ _ c.loop-i-test.true c.from-s.ensures

pub loop-i-init : goal.loop-i-init
loop-i-init c = operation_none _ _ _ _ _ _ _ _ _ c.requires.zeros_from

pub segment_len-len-requires : goal.segment_len-len-requires
segment_len-len-requires c = omega (arith, (here (goal.at.segment_len-len-requires c).After-from-s).below)

pub bounds-steering-s : goal.bounds-steering-s
bounds-steering-s c = omega (arith, (here (goal.at.bounds-steering-s c).After-from-s).below)

pub bounds-wants-s : goal.bounds-wants-s
bounds-wants-s c = omega (arith, (here (goal.at.bounds-wants-s c).After-from-s).below)

pub put_segment-left-requires : goal.put_segment-left-requires
put_segment-left-requires c = let r = c.requires.has_room in
    let on = here (goal.at.put_segment-left-requires c).After-from-s in
    let p = c.loop-i.invariant in
    let len = c.segment_len-len.ensures in
    record {
      len_le_word_width = (omega (arith, on.most, len), segment_fits p r _ _ on len);
      zeros_from = segment_zeros p r _ _ on len;
    }

pub overflow_add-place : goal.overflow_add-place
overflow_add-place c = omega (arith, segment_fits c.loop-i.invariant c.requires.has_room _ _ (here (goal.at.overflow_add-place c).After-from-s) c.segment_len-len.ensures)

pub loop-i-preserved : goal.loop-i-preserved
loop-i-preserved c = let put = c.put_segment-left.ensures in
    operation_more c.loop-i.invariant c.requires.has_room _ _ (here (goal.at.loop-i-preserved c).After-from-s) c.segment_len-len.ensures c.loop-i-test.true c.from-s.ensures
    _ _ (search rules) put.segment_put put.kept_from
