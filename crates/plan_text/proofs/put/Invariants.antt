-- `plan_text::put` meets its contract. The loop's invariant: the first i bytes are written.
-- Assumes nothing.
use Rattle.std.proofs.Common.{◌≡◌, take, length}
use Rattle.plan_text.specs.Writing.{write_at}
use Rattle.plan_text.proofs.put.Given as goal

abbrev pub invariant-loop-i : goal.invariant-loop-i
invariant-loop-i l = record {
  long : length l.buf ≡ length l.initial.buf;
  written : l.buf ≡ write_at l.at (take l.i l.new) l.initial.buf;
}
