-- `clock_answer::put_operations` meets its contract. The loop's invariant: the lines of the operations before `at` are written.
-- Assumes nothing.
use Prim.Native.Nat.{◌-◌}
use lib.ListN.{length}
use Rattle.clock_answer.proofs.ClocksShown.{Clocked}
use Rattle.clock_answer.proofs.put_operations.Given as goal

abbrev pub invariant-loop-at : goal.invariant-loop-at
invariant-loop-at l = Clocked l.plan l.initial.out l.out l.next l.at

abbrev pub decreases-loop-at : goal.decreases-loop-at
decreases-loop-at l = length l.plan - l.at
