-- `text_runs::blocks_end` meets its contract. The loop's invariant: i is behind `at`, and the run from i on ends where that from `at` on ends.
-- Assumes nothing.
use Rattle.std.proofs.Common.{◌≡◌, ◌+◌, ◌-◌, ◌≤◌, length, drop}
use Rattle.text_runs.specs.Runs.{run_length}
use Rattle.text_runs.proofs.blocks_end.Given as goal

abbrev pub invariant-loop-i : goal.invariant-loop-i
invariant-loop-i g l =
    let passes = g.T.Test.passes l.test in
    record { behind : l.at ≤ l.i; within : l.i ≤ length l.s; same_end : l.i + run_length passes (drop l.i l.s) ≡ l.at + run_length passes (drop l.at l.s) }

abbrev pub decreases-loop-i : goal.decreases-loop-i
decreases-loop-i g l = length l.s - l.i
