-- `program_lines::fill_digits` meets its contract. The loop's invariant: the digits but for those of `left` stand from place i on.
-- Assumes nothing.
use Rattle.program_lines.proofs.Digits.{Filled}
use Rattle.program_lines.proofs.fill_digits.Given as goal

abbrev pub invariant-loop-left : goal.invariant-loop-left
invariant-loop-left l = Filled l.n l.left l.i l.digits

abbrev pub decreases-loop-left : goal.decreases-loop-left
decreases-loop-left l = l.left
