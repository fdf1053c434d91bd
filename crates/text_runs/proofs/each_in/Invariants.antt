-- `text_runs::each_in` meets its contract. The loop's invariant: `all` tells whether the first j bytes are of the run.
-- Assumes nothing.
use Rattle.std.proofs.Common.{◌≡◌, drop, leb}
use Rattle.text_runs.specs.Runs.{run_length}
use Rattle.text_runs.proofs.each_in.Given as goal

abbrev pub invariant-loop-j : goal.invariant-loop-j
invariant-loop-j g l = l.all ≡ leb l.j (run_length (g.T.Test.passes l.test) (drop l.at l.s))
