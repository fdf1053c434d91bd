-- `plan_answer::print_plan` meets its contract: the text that the planner wrote, or the refusal.
-- Assumes nothing.
use mathlib.Core.Path.{refl}
use borrow.Author.Rules.{rules}
use Rattle.plan_answer.proofs.PlanShown.{plan_written, plan_refused}
use Rattle.program_text.proofs.Front.{printed_to}
use Rattle.plan_answer.proofs.print_plan.Goals as goal

pub returns-in-Ok : goal.returns-in-Ok
returns-in-Ok c =
    let p = printed_to _ _ (plan_written _ _ _ (search rules) (search rules) _ _ _ c.in-Ok.ensures _ refl) in
    record { printed_to = p.0; prefix_len = p.1 }

pub returns-in-Err : goal.returns-in-Err
returns-in-Err c =
    let p = printed_to _ _ (plan_refused _ _ _ (search rules) (search rules) _ _ _ c.in-Err.ensures _ refl (rw c.number.ensures at c.put_refusal.ensures)) in
    record { printed_to = p.0; prefix_len = p.1 }
