-- `recoverer::lines::recover_lines` meets its contract.
-- Assumes nothing.
use Prim.Native.Nat.{◌-◌}
use lib.ListN.{length}
use Rattle.clock_follower.specs.Counts.{progress_for}
use Rattle.recoverer.proofs.PartLines.{Doing}
use Rattle.recoverer.proofs.lines.recover_lines.Given as goal

abbrev pub invariant-loop-at : goal.invariant-loop-at
invariant-loop-at l = Doing l.text (progress_for l.initial.progress) l.initial.plan (progress_for l.progress) l.plan l.at

abbrev pub decreases-loop-at : goal.decreases-loop-at
decreases-loop-at l = length l.text - l.at
