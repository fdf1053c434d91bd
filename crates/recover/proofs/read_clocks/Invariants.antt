-- The bytes held leave room for a line.
use Rattle.std.proofs.Common.{◌≡◌, ◌<◌, length}
use Rattle.recover.proofs.read_clocks.Given as goal

abbrev pub invariant-loop : goal.invariant-loop
invariant-loop l = (l.held < 32768) × (length l.text ≡ 65536)
