-- `clock_writer::write_tdi` meets its contract: three writes, each behind the one before it.
-- Assumes nothing.
use native.Mathlib.Omega.{arith}
use Rattle.model.specs.Text.{bytes}
use Rattle.plan_text.proofs.Writing.{write_three}
use Rattle.clock_writer.proofs.write_tdi.Goals as goal

pub returns-clause-tdi_after : goal.returns-clause-tdi_after
returns-clause-tdi_after c = let a = c.args in
    write_three a.at _ _ (bytes "000") a.bits.now (bytes "00") a.tdi.now (omega arith)
    c.put-shift.ensures.value c.put-shift.ensures.buf_after c.put-exit.ensures.value c.put-exit.ensures.buf_after c.put.ensures.buf_after
