-- `network_path::walk::find_path` meets its contract.
-- Assumes nothing.
use Rattle.std.proofs.lemmas.Result.{err_from_is_err_and}
use Rattle.network_path.proofs.PathLaws.{found}
use Rattle.network_path.proofs.walk.find_path.Goals as goal

pub returns-in_err-segments : goal.returns-in_err-segments
returns-in_err-segments c =
    let p = err_from_is_err_and c.from_residual.result c.from_residual.ensures.1 in
    rw (p.1, p.2) (found _ _ _ _ _ _ _ c.requires (rw c.in_err-segments.was at c.walk-sum.ensures.walks))

pub returns : goal.returns
returns c = found _ _ _ _ _ _ _ c.requires (rw c.in_ok-segments.was at c.walk-sum.ensures.walks)
