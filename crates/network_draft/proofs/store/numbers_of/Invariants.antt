-- `network_draft::store::numbers_of` meets its contract. The loop's invariant: so many inputs are there yet.
-- Assumes nothing.
use mathlib.Core.Path.{◌≡◌}
use Rattle.network_draft.proofs.Nodes.{filled}
use Rattle.network_draft.proofs.store.numbers_of.Given as goal

abbrev pub invariant-loop-i : goal.invariant-loop-i
invariant-loop-i l = l.numbers ≡ filled l.count l.seg l.bit l.inputs l.i
