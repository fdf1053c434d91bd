-- `clock_follower::play` meets its contract. The loop's invariant is that of `follow` and that of `write`, with what stands in the buffer as
-- what is counted.
-- Assumes nothing.
use Prim.Native.Nat.{◌-◌}
use lib.ListN.{length}
use Rattle.clock_follower.specs.Counts.{progress_for}
use Rattle.clock_follower.proofs.Playing.{PlayedTo}
use Rattle.clock_follower.proofs.play.Given as goal

abbrev pub invariant-loop-i : goal.invariant-loop-i
invariant-loop-i l = PlayedTo (progress_for l.initial.now) l.place l.tms l.tdi l.initial.plan l.plan (progress_for l.now) l.at l.i

abbrev pub decreases-loop-i : goal.decreases-loop-i
decreases-loop-i l = length l.tms - l.i
