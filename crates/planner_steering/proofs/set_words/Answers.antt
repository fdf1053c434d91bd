-- `planner_steering::set_words` meets its contract. The invariant: the bits passed have their digits, the others are clear.
-- Assumes nothing.
use Rattle.planner_steering.proofs.Wording.{setting_more, setting_all}
use Rattle.planner_steering.proofs.set_words.Goals as goal

pub loop-j-preserved : goal.loop-j-preserved
loop-j-preserved c = setting_more _ c.requires.0 _ _ _ _ _ _ _ c.loop-j-test.true (rw (c.from-s.ensures, c.from-b.ensures) at c.set_digit.ensures) c.loop-j.invariant

pub returns : goal.returns
returns c = setting_all _ c.requires.0 _ _ _ _ _ c.loop-j-test.false c.loop-j.invariant
