-- `c_api::penthluk_read` meets its contract.
-- Assumes nothing.
use Rattle.c_api.proofs.Read.{accepted_numbers}
use Rattle.c_api.proofs.penthluk_read.Goals as goal

pub returns-in-Ok : goal.returns-in-Ok
returns-in-Ok c = accepted_numbers _ _ c.in-Ok.ensures
