-- `network_path::walk::walk` meets its contract: each branch by a law of `WalkLaws`.
-- Assumes nothing.
use Rattle.std.proofs.Common.{arith, sym}
use Rattle.network_path.proofs.WalkLaws.{walks_end, walks_stop, onward_from, onward_input, bits_added, ends_more}
use Rattle.network_path.proofs.walk.+walk.Goals as goal

pub returns-then-at-eq0-clause-walks : goal.returns-then-at-eq0-clause-walks
returns-then-at-eq0-clause-walks t c = walks_end _ _ _ _ _ _ c.if-at-eq0.true

pub returns-in-Some-Segment-clause-walks : goal.returns-in-Some-Segment-clause-walks
returns-in-Some-Segment-clause-walks t c =
    let on = onward_from _ _ _ _ _ _ c.requires c.if-at-eq0.false _ (sym (rw c.in-Some-Segment.field-0-is at c.in-Some-Segment.ensures)) in
    rw (c.segment_len-len.ensures, ← (bits_added _ _ _)) (on.then _ _ c.walk-back.ensures.walks)

pub walk-requires : goal.walk-requires
walk-requires t c =
    let on = onward_input _ _ _ _ _ _ c.requires c.if-at-eq0.false _ (sym (rw c.in-Some-Input.field-0-is at c.in-Some-Input.ensures)) in
    (omega (arith, on.below), on.asks)

pub returns-in-Some-Input-clause-walks : goal.returns-in-Some-Input-clause-walks
returns-in-Some-Input-clause-walks t c =
    (onward_input _ _ _ _ _ _ c.requires c.if-at-eq0.false _ (sym (rw c.in-Some-Input.field-0-is at c.in-Some-Input.ensures))).then _ _ c.walk.ensures.walks

pub returns-in-Some-Input-clause-within : goal.returns-in-Some-Input-clause-within
returns-in-Some-Input-clause-within t c =
    let on = onward_input _ _ _ _ _ _ c.requires c.if-at-eq0.false _ (sym (rw c.in-Some-Input.field-0-is at c.in-Some-Input.ensures)) in
    ends_more _ _ _ _ on.below c.walk.ensures.within

pub returns-in-None-clause-walks : goal.returns-in-None-clause-walks
returns-in-None-clause-walks t c = walks_stop _ _ _ _ _ _ c.requires c.if-at-eq0.false (sym c.in-None.ensures)
