-- `read_answer::print_reading` meets its contract: the counts of an accepted network, or the refusal.
-- Assumes nothing.
use Rattle.read_answer.proofs.ReadingShown.{read_accepted, read_refused}
use Rattle.program_text.proofs.Front.{at_front, printed_to}
use Rattle.read_answer.proofs.print_reading.Goals as goal

pub returns-in-Ok : goal.returns-in-Ok
returns-in-Ok c =
    let shown = read_accepted _ _ c.in-Ok.ensures in
    let p = printed_to _ _ (at_front _ _ shown c.put_counts.ensures) in
    record { printed_to = p.0; prefix_len = p.1 }

pub returns-in-Err : goal.returns-in-Err
returns-in-Err c =
    let shown = read_refused _ _ c.in-Err.ensures in
    let p = printed_to _ _ (at_front _ _ shown (rw c.number.ensures at c.put_refusal.ensures)) in
    record { printed_to = p.0; prefix_len = p.1 }
