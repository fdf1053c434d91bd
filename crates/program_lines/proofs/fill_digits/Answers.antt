-- `program_lines::fill_digits` meets its contract. The loop's invariant: the digits but for those of `left` stand from place i on.
-- Assumes nothing.
use native.Mathlib.Omega.{arith}
use lib.ListN.{length-set}
use borrow.Author.Rules.{rules}
use Rattle.program_lines.proofs.Digits.{fill_start, fill_next, fill_last}
use Rattle.program_lines.proofs.fill_digits.Goals as goal

pub loop-left-init : goal.loop-left-init
loop-left-init c = fill_start _ _ c.requires (search rules)

pub loop-left-preserved : goal.loop-left-preserved
loop-left-preserved c = fill_next _ _ _ _ c.loop-left.invariant _ c.loop-left-test.true c.digit.ensures

pub returns : goal.returns
returns c = (omega arith, simp length-set c.loop-left.invariant.size, fill_last _ _ _ _ c.loop-left.invariant _ (omega arith) c.digit-2.ensures)
