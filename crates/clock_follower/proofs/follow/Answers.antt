-- `clock_follower::follow` meets its contract. The loop's invariant: the counts are within the limits, and those of the clocks from i on
-- come to the same as those of all clocks.
-- Assumes nothing.
use Rattle.clock_follower.specs.Counts.{progress_for}
use Rattle.clock_follower.proofs.Counts.{counts_stop, counts_on, counts_end}
use Rattle.clock_follower.proofs.Stretches.{stretch_of}
use Rattle.clock_follower.proofs.follow.Goals as goal

pub returns-in_err-now : goal.returns-in_err-now
returns-in_err-now c = let l = c.loop-i in
    rw c.from_residual.ensures
    (counts_stop _ (progress_for l.now) c.args.tms.now l.i _ _ l.invariant.3 (stretch_of _ _ _ _ _ c.stretch_end-end.ensures c.next_state-next.ensures) c.in_err-now.ensures)

pub loop-i-preserved : goal.loop-i-preserved
loop-i-preserved c =
    let l = c.loop-i in
    let stretch = stretch_of _ _ _ _ _ c.stretch_end-end.ensures c.next_state-next.ensures in
    let on = counts_on _ (progress_for l.now) c.args.tms.now l.i _ _ l.invariant.3 stretch (progress_for c.in_ok-now.now) c.in_ok-now.ensures in
    (c.stretch_end-end.ensures.within, on.limits.few, on.limits.short, on.whole)

pub returns : goal.returns
returns c = counts_end _ _ _ _ c.loop-i.invariant.3 c.loop-i-test.false
