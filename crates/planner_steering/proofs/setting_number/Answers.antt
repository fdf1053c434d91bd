-- `planner_steering::setting_number` meets its contract. The invariant: the number of the digits from j on.
-- Assumes nothing.
use Rattle.planner_steering.proofs.Numbering.{numbered_none, numbered_more}
use Rattle.planner_steering.proofs.setting_number.Goals as goal

pub loop-j-init : goal.loop-j-init
loop-j-init c = numbered_none _ _ c.requires.few _

pub loop-j-preserved : goal.loop-j-preserved
loop-j-preserved c = numbered_more _ _ c.requires.few _ _ _ _ c.loop-j-test.true (rw (c.from-s.ensures, c.from-b.ensures) at c.digit_at.ensures.0) c.loop-j.invariant
