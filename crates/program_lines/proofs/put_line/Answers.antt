-- `program_lines::put_line` meets its contract: the word, the fields and the line's end, each behind the one before it.
-- Assumes nothing.
use native.Mathlib.Omega.{arith}
use Rattle.program_lines.proofs.Parts.{puts_line}
use Rattle.program_lines.proofs.put_line.Goals as goal

pub returns-clause-puts : goal.returns-clause-puts
returns-clause-puts c =
    let word = c.put-next.ensures in
    let fields = c.put_fields-end.ensures in
    let end = c.put.ensures in
    puts_line _ _ record { behind = word.value; holds = word.buf_after } fields.puts record { behind = end.value; holds = end.buf_after }
    (omega arith) (omega (arith, c.put-next.auto.buf))
