-- `planner_line::put_segment` meets its contract.
-- Assumes nothing.
use Rattle.planner_line.proofs.PutBits.{zeros_stay}
use Rattle.planner_line.proofs.put_segment.Goals as goal

pub returns-then-want-eq0-clause-segment_put : goal.returns-then-want-eq0-clause-segment_put
returns-then-want-eq0-clause-segment_put c = let p = c.requires in
    zeros_stay _ _ _ _ _ _ _ p.len_le_word_width.1 p.zeros_from c.if-steer-eq0.true c.if-want-eq0.true
