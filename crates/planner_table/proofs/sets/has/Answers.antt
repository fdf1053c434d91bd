-- `planner_table::sets::has` meets its contract: the bit by a shift and a mask.
-- Assumes nothing.
use Rattle.planner_table.proofs.SetLaws.{bit_tested}
use Rattle.planner_table.proofs.sets.has.Goals as goal

pub returns : goal.returns
returns c = bit_tested c.args.sets c.args.m
