-- `text_runs::zeros::reaches_end` meets its contract.
-- Assumes nothing.
use Prim.Native.Nat.{◌-◌}
use native.Mathlib.Omega.{arith}
use lib.ListN.{length}
use Rattle.std.proofs.lemmas.Bool.Decides.{nat_tests}
use Rattle.text_runs.specs.Runs.{is_zero}
use Rattle.text_runs.proofs.RunLaws.{run_to_end}
use Rattle.text_runs.proofs.zeros.reaches_end.Goals as goal

pub returns : goal.returns
returns c e = run_to_end is_zero c.args.s.now c.args.at c.args.i (length c.args.s.now - 32) (omega arith) (omega arith) (omega arith) c.requires.2 (grind (arith, nat_tests))
