-- `recover_answer::print_recovery` meets its contract.
-- Assumes nothing.
use native.Mathlib.Omega.{arith}
use Rattle.program_text.proofs.Front.{at_front, printed_to}
use Rattle.recover_answer.proofs.RecoveryShown.{shown_refused, shown_plan, plan_fits, stands}
use Rattle.recover_answer.proofs.print_recovery.Goals as goal

pub returns-in-Ok : goal.returns-in-Ok
returns-in-Ok c =
    let e = c.in-Ok.ensures in
    let w = printed_to _ _ (stands _ _ _ (shown_plan _ c.args.rest.now c.args.plan.now _ e) (omega (arith, plan_fits _ c.args.rest.now c.args.plan.now _ e))) in
    record { printed_to = w.0; prefix_len = w.1 }

pub returns-in-Err : goal.returns-in-Err
returns-in-Err c =
    let w = printed_to _ _ (at_front _ _ (shown_refused _ c.args.rest.now c.args.plan.now _ _ c.in-Err.ensures) c.put_refusal.ensures) in
    record { printed_to = w.0; prefix_len = w.1 }
