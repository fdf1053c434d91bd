-- `clock_follower::play` meets its contract. The loop's invariant is that of `follow` and that of `write`, with what stands in the buffer as
-- what is counted.
-- Assumes nothing.
use Rattle.clock_follower.specs.Counts.{progress_for}
use Rattle.clock_follower.proofs.Playing.{played_end, played_stop, played_on}
use Rattle.clock_follower.proofs.play.Goals as goal

pub returns-in_err-now : goal.returns-in_err-now
returns-in_err-now c = let p = c.requires.clocks_and_room in
    rw c.from_residual.ensures
    (played_stop (progress_for c.args.p) _ _ _ _ _ (progress_for c.loop-i.now) _ _ c.loop-i.invariant p.0 p.1 _ _ c.stretch_end-end.ensures c.next_state-next.ensures c.in_err-now.ensures)

pub loop-i-preserved : goal.loop-i-preserved
loop-i-preserved c = let p = c.requires.clocks_and_room in
    let w = c.put_stretch-at.ensures in
    played_on (progress_for c.args.p) _ _ _ _ _ (progress_for c.loop-i.now) _ _ c.loop-i.invariant p.0 p.1 _ _ c.stretch_end-end.ensures c.next_state-next.ensures
    (progress_for c.in_ok-now.now) c.in_ok-now.ensures p.3 _ _ (w.value, w.plan_after)

pub returns : goal.returns
returns c = played_end (progress_for c.args.p) _ _ _ _ _ (progress_for c.loop-i.now) _ _ c.loop-i.invariant c.loop-i-test.false
