-- `hold_lines::text_length` meets its contract. The loop's invariant: the sum is the bytes of the lines of nodes 1 to s - 1.
-- Assumes nothing.
use native.Mathlib.Omega.{arith}
use Rattle.hold_lines.proofs.Text.{bytes_none, bytes_more, bytes_all}
use Rattle.hold_lines.proofs.text_length.Goals as goal

pub loop-s-init : goal.loop-s-init
loop-s-init c = (omega arith, omega arith, bytes_none _)

pub loop-s-preserved : goal.loop-s-preserved
loop-s-preserved c =
    let v = c.loop-s.invariant in
    let b = c.line_bytes-sum.ensures in
    (omega arith, omega (arith, v.1, b.upper_bound), bytes_more _ _ _ _ c.loop-s.auto.s v.2 b.line_length)

pub returns : goal.returns
returns c =
    let v = c.loop-s.invariant in
    bytes_all _ _ _ _ (omega arith) v.0 v.2

-- behind the last node
pub returns-2 : goal.returns-2
returns-2 c = bytes_all _ _ _ _ (omega arith) (omega arith) (bytes_more _ _ _ _ c.loop-s.auto.s c.loop-s.invariant.2 c.line_bytes-sum.ensures.line_length)
