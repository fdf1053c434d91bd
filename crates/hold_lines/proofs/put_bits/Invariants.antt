-- `hold_lines::put_bits` meets its contract. The loop's invariant: the bytes of the bits from b on are written.
-- Assumes nothing.
use mathlib.Core.Path.{◌≡◌}
use Prim.Native.Nat.{◌+◌, ◌-◌, ◌≤◌}
use lib.ListN.{length}
use Rattle.network_words.specs.Words.{trit_at}
use Rattle.plan_text.specs.Writing.{write_at}
use Rattle.hold_lines.proofs.Bits.{down_to}
use Rattle.hold_lines.proofs.put_bits.Given as goal

abbrev pub invariant-loop-b : goal.invariant-loop-b
invariant-loop-b l = (l.b ≤ l.len) × (l.next ≡ l.at + (l.len - l.b)) × (length l.out ≡ length l.initial.out) × (l.out ≡ write_at l.at (down_to l.len (trit_at l.bits l.known) l.b) l.initial.out)
