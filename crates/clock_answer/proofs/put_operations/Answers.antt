-- `clock_answer::put_operations` meets its contract. The loop's invariant: the lines of the operations before `at` are written.
-- Assumes nothing.
use mathlib.Core.Path.{refl}
use native.Mathlib.Omega.{arith}
use Rattle.clock_answer.proofs.ClocksShown.{clocked_none, clocked_all, line_within, line_fits, clocked_line}
use Rattle.clock_answer.proofs.put_operations.Goals as goal

pub loop-at-init : goal.loop-at-init
loop-at-init c = clocked_none _ _ c.requires.has_form.0 c.requires.has_form.1

pub bits_at-bits-requires : goal.bits_at-bits-requires
bits_at-bits-requires c = omega (arith, line_within _ _ _ _ _ c.loop-at.invariant c.loop-at-test.true _ refl)

pub put_operation-next-requires : goal.put_operation-next-requires
put_operation-next-requires c = omega (arith, line_fits _ _ _ _ _ c.loop-at.invariant c.loop-at-test.true _ c.bits_at-bits.ensures c.requires.room)

pub loop-at-preserved : goal.loop-at-preserved
loop-at-preserved c = let wrote = c.put_operation-next in
    clocked_line _ _ _ _ _ c.loop-at.invariant c.loop-at-test.true _ c.bits_at-bits.ensures c.requires.room _ _ _ wrote.ensures wrote.auto.out refl

pub returns : goal.returns
returns c = clocked_all _ _ _ _ _ c.loop-at.invariant c.loop-at-test.false
