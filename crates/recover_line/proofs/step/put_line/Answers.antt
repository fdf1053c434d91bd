-- `recover_line::step::put_line` meets its contract.
-- Assumes nothing.
use native.Mathlib.Omega.{arith}
use Rattle.recover_line.proofs.PutLine.{its_clocks, put_ready, put_done}
use Rattle.recover_line.proofs.step.put_line.Goals as goal

pub overflow_sub-n : goal.overflow_sub-n
overflow_sub-n c = omega (arith, (its_clocks _ _ _ _ c.requires).length_is)

pub tms_of-requires : goal.tms_of-requires
tms_of-requires c = (its_clocks _ _ _ _ c.requires).length_is

pub tdi_of-requires : goal.tdi_of-requires
tdi_of-requires c = (its_clocks _ _ _ _ c.requires).length_is

pub write-requires : goal.write-requires
write-requires c = let r = put_ready _ _ _ _ c.requires _ _ c.tms_of.ensures c.tdi_of.ensures in
    record { clocks = r.0; room = r.1 }

pub returns : goal.returns
returns c = put_done _ _ _ _ c.requires _ _ c.tms_of.ensures c.tdi_of.ensures _ _ _ c.write.ensures
