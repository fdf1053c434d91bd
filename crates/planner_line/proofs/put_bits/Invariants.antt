-- `planner_line::put_bits` meets its contract. The loop's invariant: the first b bits are written.
-- Assumes nothing.
use Prim.Native.Nat.{◌+◌}
use Rattle.planner_line.specs.Line.{KeptFrom}
use Rattle.planner_line.proofs.PutBits.{SegmentPutting}
use Rattle.planner_line.proofs.put_bits.Given as goal

abbrev pub invariant-loop-b : goal.invariant-loop-b
invariant-loop-b l = record {
  put : SegmentPutting l.at l.len l.steer l.want l.h l.c l.initial.plan l.b l.left l.plan;
  kept : KeptFrom (l.at + l.len) l.initial.plan l.plan;
}
