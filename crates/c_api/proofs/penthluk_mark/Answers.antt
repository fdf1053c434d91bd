-- `c_api::penthluk_mark` meets its contract.
-- Assumes nothing.
use Rattle.c_api.proofs.Marked.{passed_mark}
use Rattle.c_api.proofs.penthluk_mark.Goals as goal

pub returns-in-Ok : goal.returns-in-Ok
returns-in-Ok c = passed_mark _ _ _ c.in-Ok.ensures
