-- `planner_settings::mark_path` meets its contract. The invariant: the segments passed are marked.
-- Assumes nothing.
use Rattle.planner_settings.proofs.PathMarks.{marked_within, marked_more}
use Rattle.planner_settings.proofs.mark_path.Goals as goal

pub bounds-marks-from : goal.bounds-marks-from
bounds-marks-from c = marked_within _ _ _ c.requires.0.1 _ c.loop-i.marks _ c.loop-i-test.true c.from.ensures

pub loop-i-preserved : goal.loop-i-preserved
loop-i-preserved c = marked_more _ _ _ c.requires.0.1 _ _ _ c.loop-i-test.true c.from.ensures c.loop-i.invariant
