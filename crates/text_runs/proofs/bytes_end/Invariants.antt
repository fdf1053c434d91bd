-- `text_runs::bytes_end` meets its contract. The loop's invariant: the run from i on ends where that from `at` on ends.
-- Assumes nothing.
use Rattle.std.proofs.Common.{◌≡◌, ◌+◌, drop}
use Rattle.text_runs.specs.Runs.{run_length}
use Rattle.text_runs.proofs.bytes_end.Given as goal

abbrev pub invariant-loop-i : goal.invariant-loop-i
invariant-loop-i g l =
    let passes = g.T.Test.passes l.test in
    l.i + run_length passes (drop l.i l.s) ≡ l.at + run_length passes (drop l.at l.s)
