-- `network_reader::counts::steering_count` meets its contract.
-- Assumes nothing.
use Rattle.network_reader.proofs.Counting.{sum_start, sum_more, sum_end}
use Prim.Native.Nat.{◌+◌}
use native.Mathlib.Omega.{arith}
use Rattle.network_reader.proofs.counts.steering_count.Goals as goal

pub loop-s-init : goal.loop-s-init
loop-s-init c = (omega arith, sum_start _ _ _)

pub steering_in-sum-requires : goal.steering_in-sum-requires
steering_in-sum-requires c = omega (arith, c.requires.1 c.loop-s.s (omega arith) (omega arith), c.segment_len.ensures)

pub overflow_add-sum : goal.overflow_add-sum
overflow_add-sum c = omega (arith, c.requires.1 c.loop-s.s (omega arith) (omega arith), c.steering_in-sum.ensures.1, c.segment_len.ensures)

pub loop-s-preserved : goal.loop-s-preserved
loop-s-preserved c =
    let h = c.requires.1 c.loop-s.s (omega arith) (omega arith) in (
      omega (arith, h, c.steering_in-sum.ensures.1, c.segment_len.ensures, c.loop-s.invariant.0),
      sum_more _ _ _ _ _ _ _ _ (omega arith) c.segment_len.ensures c.steering_in-sum.ensures.0 c.loop-s.invariant.1,
    )

pub returns : goal.returns
returns c = omega (arith, c.loop-s.invariant.1, sum_end c.args.nodes.now c.args.steering.now c.loop-s.s c.args.count (omega arith))

-- behind the last segment
pub returns-2 : goal.returns-2
returns-2 c =
    let m = sum_more _ _ _ _ _ _ _ _ (omega arith) c.segment_len.ensures c.steering_in-sum.ensures.0 c.loop-s.invariant.1 in
    omega (arith, m, sum_end c.args.nodes.now c.args.steering.now (c.loop-s.s + 1) c.args.count (omega arith))
