-- `network_reader::reader::read_lines` meets its contract. The invariant, before line n, from byte `at` on: the arrays represent the draft of
-- the lines before, and the model reads from it as from the start (the law `Standing`).
-- Assumes nothing.
use Rattle.network_reader.proofs.ReadingLines.{Standing}
use Rattle.network_draft.specs.Represents.{arrays}
use lib.ListN.{length}
use Prim.Native.Nat.{◌+◌, ◌-◌, ◌≤◌}
use Rattle.network_reader.proofs.reader.read_lines.Given as goal

abbrev pub invariant-loop-at : goal.invariant-loop-at
invariant-loop-at l = (l.at ≤ length l.text) × (l.n ≤ l.at + 1) × Standing l.text (arrays l.nodes l.bits l.known l.steering l.held) l.summary l.at l.n

abbrev pub decreases-loop-at : goal.decreases-loop-at
decreases-loop-at l = length l.text - l.at
