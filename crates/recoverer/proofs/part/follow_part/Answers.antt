-- `recoverer::part::follow_part` meets its contract.
-- Assumes nothing.
use Rattle.std.proofs.lemmas.Result.{err_from_is_err_and}
use Rattle.recoverer.proofs.OnePart.{part_refused, part_stopped, part_long, part_followed}
use Rattle.recoverer.proofs.part.follow_part.Goals as goal

pub returns-in_err-so_far : goal.returns-in_err-so_far
returns-in_err-so_far c =
    let p = err_from_is_err_and c.from_residual.result c.from_residual.ensures.1 in
    rw (c.in_err-so_far.was, p.1, p.2) (part_refused c.args.text.now c.args.plan.now _)

pub returns-in_err-lines : goal.returns-in_err-lines
returns-in_err-lines c =
    let p = err_from_is_err_and c.from_residual-in_err-lines.result c.from_residual-in_err-lines.ensures.1 in
    rw (c.in_ok-so_far.was, p.1, p.2) (part_stopped _ _ _ _ _ c.in_err-lines.ensures)

pub returns-in_err-progress : goal.returns-in_err-progress
returns-in_err-progress c =
    let p = err_from_is_err_and c.from_residual-in_err-progress.result c.from_residual-in_err-progress.ensures.1 in
    rw (c.in_ok-so_far.was, p.1, p.2) (part_long _ _ _ _ _ c.in_ok-lines.ensures _ c.in_err-progress.ensures)

pub returns : goal.returns
returns c = rw c.in_ok-so_far.was (part_followed _ _ _ _ _ c.in_ok-lines.ensures _ c.in_ok-progress.ensures)
