-- `network_draft::store::mark_bit` meets its contract.
-- Assumes nothing.
use native.Mathlib.Omega.{arith}
use Rattle.network_draft.proofs.Nodes.{bit_marked}
use Rattle.network_draft.proofs.store.mark_bit.Goals as goal

pub returns : goal.returns
returns c = bit_marked _ _ _ _ c.requires (omega arith) (omega arith) c.only_bit.ensures
