-- `mark_answer::print_mark` meets its contract: the line of a pass and those of its rows, or the refusal.
-- Assumes nothing.
use native.Mathlib.Omega.{arith}
use Rattle.program_lines.proofs.Parts.{puts_more}
use Rattle.program_text.proofs.Front.{at_front, printed_to}
use Rattle.mark_answer.proofs.MarkShown.{mark_passed, mark_refused}
use Rattle.mark_answer.proofs.print_mark.Goals as goal

pub returns-in-Ok : goal.returns-in-Ok
returns-in-Ok c =
    let shown = mark_passed _ _ c.in-Ok.pass c.in-Ok.ensures in
    let pass = c.put_pass-next.ensures in
    let both = puts_more pass.puts c.put_gots.ensures (omega (arith, pass.upper_bound)) in
    let p = printed_to _ _ (at_front _ _ shown both) in
    record { printed_to = p.0; prefix_len = p.1 }

pub returns-in-Err : goal.returns-in-Err
returns-in-Err c =
    let shown = mark_refused _ _ c.in-Err.refusal c.in-Err.ensures in
    let p = printed_to _ _ (at_front _ _ shown (rw c.number.ensures at c.put_refusal.ensures)) in
    record { printed_to = p.0; prefix_len = p.1 }
