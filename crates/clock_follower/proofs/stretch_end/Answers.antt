-- `clock_follower::stretch_end` meets its contract.
-- Assumes nothing.
use mathlib.Core.Path.{refl}
use native.Mathlib.Omega.{arith}
use lib.ListN.{drop, length-drop}
use Rattle.text_runs.specs.Runs.{is_zero}
use Rattle.text_runs.proofs.RunLaws.{run_within}
use Rattle.clock_follower.proofs.Stretches.{zeros_end}
use Rattle.clock_follower.proofs.stretch_end.Goals as goal

pub overflow_add-zeros_end : goal.overflow_add-zeros_end
overflow_add-zeros_end c = let a = c.args in omega (arith, c.zeros_end.ensures, run_within is_zero (drop a.at a.tms.now), length-drop a.at a.tms.now)

pub returns-then-waits : goal.returns-then-waits
returns-then-waits c = rw c.min.ensures (zeros_end _ _ _ _ (c.if-waits.ensures refl) c.zeros_end.ensures (omega arith))
