-- `clock_follower::write` meets its contract. The loop's invariant: what the clocks from i on add, written from `at` on, leaves the plan's text
-- as that of all clocks does, and they lead to the same state.
-- Assumes nothing.
use Rattle.clock_follower.proofs.Stretches.{written_end, stretch_fits, written_on}
use Rattle.clock_follower.proofs.write.Goals as goal

pub put_stretch-at-requires : goal.put_stretch-at-requires
put_stretch-at-requires c = let p = c.requires in
    stretch_fits _ _ _ _ _ _ _ _ _ c.loop-i.invariant p.clocks.0 p.clocks.1 _ _ c.stretch_end-end.ensures c.next_state-next.ensures p.room

pub loop-i-preserved : goal.loop-i-preserved
loop-i-preserved c = let p = c.requires in
    let e = c.stretch_end-end.ensures in
    let n = c.next_state-next.ensures in
    let w = c.put_stretch-at.ensures in
    let room = stretch_fits _ _ _ _ _ _ _ _ _ c.loop-i.invariant p.clocks.0 p.clocks.1 _ _ e n p.room in
    written_on _ _ _ _ _ _ _ _ _ c.loop-i.invariant p.clocks.0 p.clocks.1 _ _ e n room _ _ (w.value, w.plan_after)

pub returns : goal.returns
returns c = written_end _ _ _ _ _ _ _ _ _ c.loop-i.invariant c.loop-i-test.false
