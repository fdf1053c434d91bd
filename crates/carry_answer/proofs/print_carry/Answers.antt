-- `carry_answer::print_carry` meets its contract: the lines that the call wrote, or the refusal.
-- Assumes nothing.
use borrow.Author.Rules.{rules}
use Rattle.carry_answer.proofs.CarryShown.{carry_written, carry_refused}
use Rattle.program_text.proofs.Front.{printed_to}
use Rattle.carry_answer.proofs.print_carry.Goals as goal

pub returns-in-Ok : goal.returns-in-Ok
returns-in-Ok c =
    let p = printed_to _ _ (carry_written _ _ _ (search rules) _ _ c.in-Ok.ensures) in
    record { printed_to = p.0; prefix_len = p.1 }

pub returns-in-Err : goal.returns-in-Err
returns-in-Err c =
    let p = printed_to _ _ (carry_refused _ _ _ (search rules) _ _ c.in-Err.ensures (rw c.number.ensures at c.put_refusal.ensures)) in
    record { printed_to = p.0; prefix_len = p.1 }
