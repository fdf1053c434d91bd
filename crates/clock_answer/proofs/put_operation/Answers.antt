-- `clock_answer::put_operation` meets its contract: the parts of the line, each behind the one before it.
-- Assumes nothing.
use Rattle.clock_answer.proofs.ClocksShown.{puts_operation}
use Rattle.clock_answer.proofs.put_operation.Goals as goal

pub returns : goal.returns
returns c =
    let word = c.put-tms.ensures in
    let first = c.write_tms-tms_end.ensures in
    let parted = c.put-tdi.ensures in
    let second = c.write_tdi-tdi_end.ensures in
    let ended = c.put.ensures in
    puts_operation c.args.bits.now c.requires (word.value, word.buf_after) (first.value, first.tms_after) (parted.value, parted.buf_after)
    (second.value, second.tdi_after) (ended.value, ended.buf_after)
