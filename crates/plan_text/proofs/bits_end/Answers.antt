-- `plan_text::bits_end` meets its contract.
-- Assumes nothing.
use mathlib.Core.Path.{ap, ◌∙◌}
use Prim.Native.Nat.{ℕ, ◌+◌}
use Rattle.plan_text.proofs.Bits.{run_is}
use Rattle.plan_text.proofs.bits_end.Goals as goal

pub returns : goal.returns
returns c = c.run_end.ensures ∙ ap (λ (n : ℕ). c.args.at + n) (run_is _)
