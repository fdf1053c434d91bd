-- `hold_lines::put_text` meets its contract. The loop's invariant: the lines of nodes 1 to s - 1 are written.
-- Assumes nothing.
use native.Mathlib.Omega.{arith}
use Rattle.hold_lines.proofs.Text.{written_none, line_fits, written_more, written_all}
use Rattle.hold_lines.proofs.put_text.Goals as goal

pub loop-s-init : goal.loop-s-init
loop-s-init c = (omega arith, written_none _ _ _ _)

pub put_node-at-requires-clause-s_in_bounds : goal.put_node-at-requires-clause-s_in_bounds
put_node-at-requires-clause-s_in_bounds c = line_fits _ _ _ _ _ _ _ _ c.loop-s.invariant.1 c.loop-s.auto.s c.loop-s-test.true c.requires.count_in_bounds

pub loop-s-preserved : goal.loop-s-preserved
loop-s-preserved c =
    let put = c.put_node-at in
    (omega arith, written_more _ _ _ _ _ _ _ _ c.loop-s.invariant.1 c.loop-s.auto.s c.loop-s-test.true c.requires.count_in_bounds _ _ put.ensures put.auto.out)

pub returns : goal.returns
returns c =
    let v = c.loop-s.invariant in
    written_all _ _ _ _ _ _ _ _ (omega arith) v.0 v.1

-- behind the last node
pub returns-2 : goal.returns-2
returns-2 c =
    let put = c.put_node-at in
    let v = written_more _ _ _ _ _ _ _ _ c.loop-s.invariant.1 c.loop-s.auto.s c.loop-s-test.true c.requires.count_in_bounds _ _ put.ensures put.auto.out in
    written_all _ _ _ _ _ _ _ _ (omega arith) (omega arith) v
