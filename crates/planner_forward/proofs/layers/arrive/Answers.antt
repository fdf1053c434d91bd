-- `planner_forward::layers::arrive` meets its contract: the laws of SpreadLaws at each answer.
-- Assumes nothing.
use Rattle.planner_forward.proofs.SpreadLaws.{arrive_met, arrive_new}
use Rattle.planner_forward.proofs.layers.arrive.Goals as goal

pub returns-then-all-old : goal.returns-then-all-old
returns-then-all-old c = arrive_met c.args.i c.args.y c.args.got c.args.table.now c.args.seen.now c.requires.1 c.if-all-old.true

pub returns : goal.returns
returns c = arrive_new c.args.i c.args.y c.args.got c.args.table.now c.args.seen.now c.requires.0 c.requires.1 c.requires.2 c.requires.3
