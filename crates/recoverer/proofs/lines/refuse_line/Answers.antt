-- `recoverer::lines::refuse_line` meets its contract.
-- Assumes nothing.
use native.Mathlib.Omega.{arith}
use Rattle.recover_line.specs.Progress.{progress_from}
use Rattle.recoverer.proofs.PartLines.{none_ended, first_refused}
use Rattle.recoverer.proofs.lines.refuse_line.Goals as goal

pub returns-then-end_of-text : goal.returns-then-end_of-text
returns-then-end_of-text c plan = first_refused c.args.text.now (progress_from c.args.p) plan c.requires _ c.end_of.ensures c.if-end_of-text.true _ c.at.ensures

pub returns : goal.returns
returns c plan =
    let e = c.end_of.ensures in
    none_ended c.args.text.now c.args.p plan _ e (omega (arith, e.within, c.if-end_of-text.false))
