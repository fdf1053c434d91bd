-- `recover_line::step::recover_line` meets its contract.
-- Assumes nothing.
use Rattle.std.proofs.lemmas.Result.{err_from_is_err_and}
use native.Mathlib.Omega.{arith}
use Rattle.clock_follower.specs.Counts.{progress_for}
use Rattle.recover_line.proofs.OneLine.{call_refused, counted_before, counted_after, call_short, call_room, call_written, call_unwritten}
use Rattle.recover_line.proofs.step.recover_line.Goals as goal

pub returns-in_err-q : goal.returns-in_err-q
returns-in_err-q c =
    let p = err_from_is_err_and c.from_residual.result c.from_residual.ensures.1 in
    let a = call_refused (progress_for c.args.p) c.args.line.now c.args.plan.now _ _ c.in_err-q.ensures in
    rw (p.1, p.2) record { result_value = a.0; plan_after = a.1 }

pub returns-then-plan-q : goal.returns-then-plan-q
returns-then-plan-q c =
    let a = call_short (progress_for c.args.p) c.args.line.now c.args.plan.now (progress_for c.in_ok-q.q) c.in_ok-q.ensures c.if-plan-q.true in
    rw c.at.ensures record { result_value = a.0; plan_after = a.1 }

pub bytes_written-at-requires : goal.bytes_written-at-requires
bytes_written-at-requires c = counted_before (progress_for c.args.p) c.args.line.now c.args.plan.now _ c.in_ok-q.ensures

pub bytes_written-requires : goal.bytes_written-requires
bytes_written-requires c = counted_after (progress_for c.args.p) c.args.line.now c.args.plan.now (progress_for c.in_ok-q.q) c.in_ok-q.ensures

pub put_line-requires : goal.put_line-requires
put_line-requires c = call_room (progress_for c.args.p) _ _ _ c.in_ok-q.ensures c.if-plan-q.false _ c.bytes_written-at.ensures

pub returns-then-at-bytes_written : goal.returns-then-at-bytes_written
returns-then-at-bytes_written c =
    let a = call_written (progress_for c.args.p) c.args.line.now c.args.plan.now (progress_for c.in_ok-q.q) c.in_ok-q.ensures c.if-plan-q.false _ c.bytes_written-at.ensures _ c.put_line.ensures.left in
    record { result_value = a.0; plan_after = a.1 }

pub returns-else-at-bytes_written : goal.returns-else-at-bytes_written
returns-else-at-bytes_written c =
    let a = call_unwritten (progress_for c.args.p) c.args.line.now c.args.plan.now (progress_for c.in_ok-q.q) c.in_ok-q.ensures c.if-plan-q.false _ c.bytes_written-at.ensures (omega (arith, c.bytes_written.ensures, c.if-at-bytes_written.false)) in
    record { result_value = a.0; plan_after = a.1 }
