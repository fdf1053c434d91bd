-- `clock_answer::print_clocks` meets its contract: the lines of a plan text of good form, or the refusal.
-- Assumes nothing.
use mathlib.Core.Path.{refl}
use native.Mathlib.Omega.{arith}
use Rattle.model.proofs.PlanTexts.{text_of}
use Rattle.plan_text.proofs.Forms.{form_good, form_refused}
use Rattle.clock_answer.proofs.ClocksShown.{clocks_refused}
use Rattle.program_text.proofs.Front.{at_front, printed_to}
use Rattle.clock_answer.proofs.print_clocks.Goals as goal

pub put_operations-requires : goal.put_operations-requires
put_operations-requires c = let g = form_good _ _ _ c.check_form.ensures c.in-Ok.is in
    record { has_form = (g.plan, g.reads); room = omega (arith, (text_of _ _ g.reads).short) }

pub returns-in-Ok : goal.returns-in-Ok
returns-in-Ok c = let w = printed_to _ _ (at_front _ _ refl c.put_operations.ensures) in
    record { printed_to = w.0; prefix_len = w.1 }

pub returns-in-Err : goal.returns-in-Err
returns-in-Err c = let bad = form_refused _ _ _ c.check_form.ensures c.in-Err.is in
    let w = printed_to _ _ (at_front _ _ (clocks_refused _ _ _ bad) (rw c.number.ensures at c.put_refusal.ensures)) in
    record { printed_to = w.0; prefix_len = w.1 }
