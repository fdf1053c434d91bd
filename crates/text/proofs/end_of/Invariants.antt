-- `text::end_of` meets its contract. The loop's invariant: the first separator from i on is the one from `at` on.
-- Assumes nothing.
use Rattle.std.proofs.Common.{◌≡◌, ◌+◌, drop}
use Rattle.text.specs.Places.{bytes_before}
use Rattle.text.proofs.end_of.Given as goal

abbrev pub invariant-loop-i : goal.invariant-loop-i
invariant-loop-i l = l.i + bytes_before l.b (drop l.i l.s) ≡ l.at + bytes_before l.b (drop l.at l.s)
