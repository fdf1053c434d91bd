-- `hold_lines::put_text` meets its contract. The loop's invariant: the lines of nodes 1 to s - 1 are written.
-- Assumes nothing.
use Prim.Native.Nat.{◌+◌, ◌≤◌}
use Rattle.hold_lines.proofs.Text.{PutLines}
use Rattle.hold_lines.proofs.put_text.Given as goal

abbrev pub invariant-loop-s : goal.invariant-loop-s
invariant-loop-s l = (l.s ≤ l.count + 1) × PutLines l.nodes l.bits l.known l.initial.out l.s l.at l.out
