-- `recover_line::recover_end` meets its contract.
-- Assumes nothing.
use Rattle.std.specs.Prelude.{None as none, option_map}
use Rattle.std.proofs.lemmas.Result.{err_from_is_err_and}
use mathlib.Core.Path.{◌≡◌, ◌∙◌, ap}
use native.Mathlib.Omega.{arith}
use Rattle.clock_follower.specs.Counts.{progress_for}
use Rattle.recover_line.specs.Progress.{progress_from}
use Rattle.recover_line.proofs.NoState.{end_cannot}
use Rattle.recover_line.proofs.recover_end.Goals as goal

pub returns-in_err-from : goal.returns-in_err-from
returns-in_err-from c =
    let p = err_from_is_err_and c.from_residual.result c.from_residual.ensures.1 in
    let unknown : none ≡ c.known.result = grind arith in
    let same : c.in_err-from.field-0.0 ≡ c.at.result = grind arith in
    rw (p.1, p.2, same, c.at.ensures) (end_cannot (progress_from c.args.p) _ (ap (option_map progress_for) unknown ∙ c.known.ensures))
