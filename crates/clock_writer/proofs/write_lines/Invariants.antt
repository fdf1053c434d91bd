-- `clock_writer::write_lines` meets its contract. The loop's invariant: the clocks of the lines before `at` are written.
-- Assumes nothing.
use Prim.Native.Nat.{◌-◌}
use lib.ListN.{length}
use Rattle.clock_writer.proofs.Lines.{WrittenTo}
use Rattle.clock_writer.proofs.write_lines.Given as goal

abbrev pub invariant-loop-at : goal.invariant-loop-at
invariant-loop-at l = WrittenTo l.plan l.initial.tms l.initial.tdi l.tms l.tdi l.at

abbrev pub decreases-loop-at : goal.decreases-loop-at
decreases-loop-at l = length l.plan - l.at
