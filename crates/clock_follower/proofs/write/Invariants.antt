-- `clock_follower::write` meets its contract. The loop's invariant: what the clocks from i on add, written from `at` on, leaves the plan's text
-- as that of all clocks does, and they lead to the same state.
-- Assumes nothing.
use Prim.Native.Nat.{◌-◌}
use lib.ListN.{length}
use Rattle.clock_writer.specs.Machine.{state_code}
use Rattle.clock_follower.proofs.Stretches.{WrittenTo}
use Rattle.clock_follower.proofs.write.Given as goal

abbrev pub invariant-loop-i : goal.invariant-loop-i
invariant-loop-i l = WrittenTo (state_code l.initial.state) l.initial.at l.tms l.tdi l.initial.plan l.plan (state_code l.state) l.at l.i

abbrev pub decreases-loop-i : goal.decreases-loop-i
decreases-loop-i l = length l.tms - l.i
