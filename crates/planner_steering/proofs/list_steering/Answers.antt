-- `planner_steering::list_steering` meets its contract. The invariant: the bits listed and those of the segments to come make the whole.
-- Assumes nothing.
use Rattle.planner_steering.proofs.Listing.{gathering_none, gathering_room, gathering_short, gathering_more, gathering_all}
use native.Mathlib.Omega.{arith}
use Rattle.planner_steering.proofs.list_steering.Goals as goal

pub loop-s-init : goal.loop-s-init
loop-s-init c = gathering_none _ _ _ c.requires.0 _ c.requires.1

pub list_segment-n-requires : goal.list_segment-n-requires
list_segment-n-requires c = let p = c.requires.0 in
    let l = c.loop-s.invariant in
    let t = c.loop-s-test.true in
    let e = c.segment_len.ensures in
    (omega (arith, p.most), gathering_short _ _ _ p _ _ _ l _ t e, gathering_room _ _ _ p _ _ _ l _ t e, l.sized)

pub loop-s-preserved : goal.loop-s-preserved
loop-s-preserved c = gathering_more _ _ _ c.requires.0 _ _ _ c.loop-s.invariant _ _ _ c.loop-s-test.true c.segment_len.ensures c.list_segment-n.ensures

pub returns : goal.returns
returns c = gathering_all _ _ _ c.requires.0 _ _ _ c.loop-s.invariant c.loop-s-test.false

pub returns-2 : goal.returns-2
returns-2 c = let p = c.requires.0 in
    gathering_all _ _ _ p _ _ _ (gathering_more _ _ _ p _ _ _ c.loop-s.invariant _ _ _ c.loop-s-test.true c.segment_len.ensures c.list_segment-n.ensures) (omega arith)
