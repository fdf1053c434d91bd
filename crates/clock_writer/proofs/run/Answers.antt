-- `clock_writer::run` meets its contract. The loop's invariant: from the state now on, the clocks from here on lead to the last state.
-- Assumes nothing.
use Rattle.clock_writer.proofs.Table.{code_small, run_end, run_next}
use Rattle.clock_writer.proofs.run.Goals as goal

pub loop-byte-preserved : goal.loop-byte-preserved
loop-byte-preserved c = run_next _ _ _ _ c.loop-byte.invariant _ c.loop-byte-test.true c.next_state-now.ensures

pub returns : goal.returns
returns c = run_end _ _ _ _ c.loop-byte.invariant (code_small _) c.loop-byte-test.false
