-- `recoverer::whole::recover_in_turn` meets its contract. The law is that of the calls in turn (`LineByLine`), for a buffer with room for every plan.
-- Assumes nothing.
use Rattle.std.proofs.lemmas.Result.{err_from_is_err_and}
use native.Mathlib.Omega.{arith}
use Rattle.recoverer.proofs.WholeCall.{stands_end, stands_refused}
use Rattle.recoverer.proofs.whole.recover_in_turn.Goals as goal

pub returns-in_err-lines : goal.returns-in_err-lines
returns-in_err-lines c =
    let p = err_from_is_err_and c.from_residual.result c.from_residual.ensures.1 in
    rw (p.1, p.2) (stands_refused _ _ (omega arith) c.requires _ c.at_first.ensures _ c.recover_lines.auto.plan _ c.in_err-lines.ensures)

pub returns : goal.returns
returns c = stands_end _ _ (omega arith) c.requires _ c.at_first.ensures _ c.recover_lines.auto.plan _ c.in_ok-lines.ensures _ c.recover_end.ensures
