-- `planner_line::list_wants` meets its contract. The loop's invariant: the words of the targets from i on.
-- Assumes nothing.
use Rattle.planner_line.proofs.WantedWords.{wanting_none, wanting_more, wanting_all}
use Rattle.planner_line.proofs.list_wants.Goals as goal

pub loop-i-init : goal.loop-i-init
loop-i-init c = wanting_none _ _ c.requires.2

pub loop-i-preserved : goal.loop-i-preserved
loop-i-preserved c = let more = wanting_more c.args.t c.loop-i.i c.loop-i-test.true c.loop-i.auto.i c.loop-i.invariant c.requires.1 in
    rw c.in_default.is at more

pub loop-i-preserved-in-Some : goal.loop-i-preserved-in-Some
loop-i-preserved-in-Some c = let more = wanting_more c.args.t c.loop-i.i c.loop-i-test.true c.loop-i.auto.i c.loop-i.invariant c.requires.1 in
    rw c.from.ensures (rw c.in-Some.is at more)

pub returns : goal.returns
returns c = wanting_all _ c.loop-i-test.false c.loop-i.invariant
