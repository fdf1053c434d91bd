-- `clock_follower::follow` meets its contract. The loop's invariant: the counts are within the limits, and those of the clocks from i on
-- come to the same as those of all clocks.
-- Assumes nothing.
use mathlib.Core.Path.{◌≡◌}
use mathlib.Core.List.{map}
use Prim.Native.Nat.{◌-◌, ◌≤◌}
use lib.ListN.{length, drop}
use Rattle.clock_writer.specs.Machine.{is_one}
use Rattle.clock_follower.specs.Counts.{progress_for, counts_by}
use Rattle.clock_follower.proofs.follow.Given as goal

abbrev pub invariant-loop-i : goal.invariant-loop-i
invariant-loop-i l = (l.i ≤ length l.tms) × (l.now.entries ≤ 16) × (l.now.bytes ≤ 64080)
    × (counts_by (progress_for l.now) (map is_one (drop l.i l.tms)) ≡ counts_by (progress_for l.initial.now) (map is_one l.tms))

abbrev pub decreases-loop-i : goal.decreases-loop-i
decreases-loop-i l = length l.tms - l.i
