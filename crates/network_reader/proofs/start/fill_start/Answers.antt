-- `network_reader::start::fill_start` meets its contract.
-- Assumes nothing.
use native.Mathlib.Omega.{arith}
use mathlib.Core.Path.{◌∙◌}
use Rattle.network_reader.proofs.Starting.{filling_none, filling_more, filling_all}
use Rattle.network_reader.proofs.start.fill_start.Goals as goal

pub loop-s-init : goal.loop-s-init
loop-s-init c = (omega arith, filling_none _)

pub fill_one-requires : goal.fill_one-requires
fill_one-requires c = let p = c.loop-s.invariant.1 in
    (omega arith, c.requires.1 c.loop-s.s (omega arith) (omega arith), p.bits_size ∙ c.requires.2, p.known_size ∙ c.requires.3)

pub loop-s-preserved : goal.loop-s-preserved
loop-s-preserved c = (omega arith, filling_more c.loop-s.invariant.1 (omega arith) c.fill_one.ensures)

pub returns : goal.returns
returns c = filling_all c.loop-s.invariant.1 _ (omega arith)

-- behind the last segment
pub returns-2 : goal.returns-2
returns-2 c = filling_all (filling_more c.loop-s.invariant.1 (omega arith) c.fill_one.ensures) _ (omega arith)
