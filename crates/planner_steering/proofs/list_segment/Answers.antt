-- `planner_steering::list_segment` meets its contract. The invariant: the bits listed and the bits to come make the whole.
-- Assumes nothing.
use Rattle.planner_steering.proofs.Listing.{marking_room, marking_set, marking_clear, marking_all}
use Rattle.planner_steering.proofs.list_segment.Goals as goal
use Rattle.planner_steering.proofs.list_segment.Goals.{then-bit_at-eq1, else-bit_at-eq1}

pub bounds-listed-m : goal.bounds-listed-m
bounds-listed-m c = marking_room _ _ _ _ _ _ _ _ c.loop-b-test.true c.loop-b.invariant _ c.bit_at.ensures c.if-bit_at-eq1.true

pub loop-b-preserved : goal.loop-b-preserved
loop-b-preserved c = let l = c.loop-b.invariant in
    let t = c.loop-b-test.true in
    let e = c.bit_at.ensures in
    elim c.if-bit_at-eq1.branch [
      | then-bit_at-eq1 w ↦ rw (w.listed-is, w.m-is) (marking_set _ _ _ _ _ _ _ _ t l _ e w.if-bit_at-eq1.true)
      | else-bit_at-eq1 w ↦ rw (w.listed-is, w.m-is) (marking_clear _ _ _ _ _ _ _ _ t l _ e w.if-bit_at-eq1.false)
    ]

pub returns : goal.returns
returns c = marking_all _ _ _ _ _ _ _ _ c.loop-b-test.false c.loop-b.invariant
