-- `hold_lines::text_length` meets its contract. The loop's invariant: the sum is the bytes of the lines of nodes 1 to s - 1.
-- Assumes nothing.
use Prim.Native.Nat.{◌+◌, ◌*◌, ◌-◌, ◌≤◌}
use Rattle.network_words.specs.Words.{word_width}
use Rattle.hold_lines.proofs.Text.{BytesBelow}
use Rattle.hold_lines.proofs.text_length.Given as goal

abbrev pub invariant-loop-s : goal.invariant-loop-s
invariant-loop-s l = (l.s ≤ l.count + 1) × (l.sum ≤ (27 + word_width) * (l.s - 1)) × BytesBelow l.nodes l.s l.sum
