-- `text_runs::far_end_of` meets its contract.
-- Assumes nothing.
use native.Mathlib.Omega.{arith}
use Rattle.text_runs.proofs.RunLaws.{run_before}
use Rattle.text_runs.proofs.far_end_of.Goals as goal

pub returns : goal.returns
returns c = record { found = grind (arith, run_before); within = omega arith }
