-- `recoverer::whole::recover_text` meets its contract. What the calls in turn leave in the own buffer decides.
-- Assumes nothing.
use Rattle.std.proofs.lemmas.Result.{err_from_is_err_and}
use Rattle.recoverer.proofs.WholeCall.{whole_refused, whole_short, whole_written}
use Rattle.recoverer.proofs.whole.recover_text.Goals as goal

pub returns-in_err-count : goal.returns-in_err-count
returns-in_err-count c =
    let p = err_from_is_err_and c.from_residual.result c.from_residual.ensures.1 in
    let w = whole_refused _ c.args.plan.now _ _ _ c.in_err-count.ensures in
    rw (p.1, p.2) record { result_value = w.0; plan_after = w.1 }

pub returns-then-plan-count : goal.returns-then-plan-count
returns-then-plan-count c =
    let w = whole_short _ c.args.plan.now _ _ c.in_ok-count.ensures c.if-plan-count.true in
    rw c.at.ensures record { result_value = w.0; plan_after = w.1 }

pub returns : goal.returns
returns c =
    let w = whole_written _ c.args.plan.now _ _ c.in_ok-count.ensures c.if-plan-count.false _ c.put.ensures.buf_after in
    record { result_value = w.0; plan_after = w.1 }
