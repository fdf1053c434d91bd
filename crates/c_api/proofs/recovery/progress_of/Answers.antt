-- `c_api::recovery::progress_of` meets its contract.
-- Assumes nothing.
use Rattle.c_api.proofs.Progressed.{state_alike}
use Rattle.c_api.proofs.recovery.progress_of.Goals as goal

pub returns : goal.returns
returns c = state_alike _ _ _ _ _ c.state_of.ensures
