-- `carrier::carry` meets its contract.
-- Assumes nothing.
use Rattle.std.proofs.lemmas.Result.{err_from_is_err_and}
use Rattle.carrier.proofs.Carrying.{not_carried, configured, given}
use Rattle.carrier.proofs.carry.Goals as goal

pub returns-in_err-left : goal.returns-in_err-left
returns-in_err-left c =
    let p = err_from_is_err_and c.from_residual.result c.from_residual.ensures.1 in
    rw (p.1, p.2) (not_carried _ _ _ _ c.in_err-left.ensures.mark_returned)

pub write_holds-requires : goal.write_holds-requires
write_holds-requires c =
    let m = c.in_ok-left.ensures in
    configured _ _ _ m.mark_returned m.left_after

pub returns : goal.returns
returns c =
    let m = c.in_ok-left.ensures in
    given _ _ _ m.mark_returned m.left_after _ _ _ c.write_holds.ensures
