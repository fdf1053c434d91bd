-- `program_lines::put_field` meets its contract: a tab, and the digits behind it.
-- Assumes nothing.
use borrow.Author.Rules.{rules}
use native.Mathlib.Omega.{arith}
use Rattle.program_lines.proofs.Digits.{at_most_20}
use Rattle.program_lines.proofs.Parts.{puts_more}
use Rattle.program_lines.proofs.put_field.Goals as goal

pub put_number-requires : goal.put_number-requires
put_number-requires c = omega (arith, at_most_20 c.args.n (search rules))

pub returns-clause-puts : goal.returns-clause-puts
returns-clause-puts c =
    let p = c.put-next.ensures in
    let q = c.put_number.ensures in
    puts_more record { behind = p.value; holds = p.buf_after } record { behind = q.value.0; holds = q.out_after } (omega arith)
