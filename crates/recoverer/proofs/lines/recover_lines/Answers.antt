-- `recoverer::lines::recover_lines` meets its contract.
-- Assumes nothing.
use Rattle.std.specs.Prelude.{option_map}
use Rattle.std.proofs.lemmas.Result.{err_from_is_err_and}
use mathlib.Core.Path.{◌≡◌, sym, ◌∙◌, ap}
use native.Mathlib.Omega.{arith}
use Rattle.clock_follower.specs.Counts.{progress_for}
use Rattle.recover_line.specs.Progress.{progress_from}
use Rattle.recover_line.proofs.NoState.{there}
use Rattle.recoverer.proofs.PartLines.{doing_start, done_at_end, done_unended, done_refused, doing_next, did_from}
use Rattle.recoverer.proofs.lines.recover_lines.Goals as goal
use Rattle.recoverer.proofs.lines.recover_lines.Goals.{In-Some, else-loop-at-test, then-loop-at-test+then-end-text}

from_is : (c : In-Some) → progress_for c.in-Some.from ≡ progress_from c.args.first
from_is c = there (progress_from c.args.first) (progress_for c.in-Some.from) (ap (option_map progress_for) (sym c.in-Some.is) ∙ c.known.ensures)

pub returns-in_default : goal.returns-in_default
returns-in_default c = c.refuse_line.ensures c.args.plan.now

pub loop-at-init : goal.loop-at-init
loop-at-init c = doing_start c.args.text.now (progress_for c.in-Some.from) c.args.plan.now

pub returns-in_err-progress : goal.returns-in_err-progress
returns-in_err-progress c = let a = c.args in
    let p = err_from_is_err_and c.from_residual.result c.from_residual.ensures.1 in
    let e = c.find_line-found.ensures.ends in
    rw (p.1, p.2)
    (did_from _ (progress_from a.first) (from_is (goal.at.returns-in_err-progress c).In-Some) a.text.now a.plan.now _ _
    (done_refused a.text.now _ a.plan.now (progress_for c.loop-at.progress) _ _ c.loop-at.invariant _ e (omega (arith, e.within, c.if-end-text.false)) _ _
    c.in_err-progress.ensures))

pub loop-at-preserved : goal.loop-at-preserved
loop-at-preserved c = let a = c.args in
    let e = c.find_line-found.ensures.ends in
    doing_next a.text.now _ a.plan.now (progress_for c.loop-at.progress) _ _ c.loop-at.invariant _ e (omega (arith, e.within, c.if-end-text.false)) _ _
    c.in_ok-progress.ensures

pub returns : goal.returns
returns c = let a = c.args in
    did_from _ (progress_from a.first) (from_is (goal.at.returns c).In-Some) a.text.now a.plan.now _ _
    elim c.loop-at-test.branch [
      | else-loop-at-test w ↦ done_at_end a.text.now _ a.plan.now _ _ _ c.loop-at.invariant _ c.numbers_of.ensures w.loop-at-test.false
      | then-loop-at-test+then-end-text w ↦ done_unended a.text.now _ a.plan.now _ _ _ c.loop-at.invariant _ c.numbers_of.ensures _ w.find_line-found.ensures.ends w.if-end-text.true
    ]
