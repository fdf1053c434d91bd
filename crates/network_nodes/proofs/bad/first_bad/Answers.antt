-- `network_nodes::bad::first_bad` meets its contract.
-- Assumes nothing.
use native.Mathlib.Omega.{arith}
use Prim.Native.Nat.{◌+◌}
use mathlib.Core.Path.{refl, sym, ◌∙◌}
use Rattle.network_nodes.proofs.BadAddresses.{bad_start, bad_hit, bad_miss, bad_end}
use Rattle.network_nodes.proofs.bad.first_bad.Goals as goal

pub loop-k-init : goal.loop-k-init
loop-k-init c = bad_start _ _ _ refl

pub returns-then-is_bad : goal.returns-then-is_bad
returns-then-is_bad c = bad_hit _ _ _ (omega arith) (sym c.is_bad.ensures ∙ c.if-is_bad.true) ∙ c.loop-k.invariant

pub loop-k-preserved : goal.loop-k-preserved
loop-k-preserved c = bad_miss _ _ _ (omega arith) (sym c.is_bad.ensures ∙ c.if-is_bad.false) ∙ c.loop-k.invariant

pub returns : goal.returns
returns c = bad_end _ _ _ (omega arith) ∙ c.loop-k.invariant

pub returns-else-is_bad : goal.returns-else-is_bad
returns-else-is_bad c = bad_end _ _ (c.loop-k.k + 1) (omega arith) ∙ bad_miss _ _ _ (omega arith) (sym c.is_bad.ensures ∙ c.if-is_bad.false) ∙ c.loop-k.invariant
