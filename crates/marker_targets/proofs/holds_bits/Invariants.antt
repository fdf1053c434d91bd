-- `marker_targets::holds_bits` meets its contract. The invariant: the bits from number b on decide.
-- Assumes nothing.
use mathlib.Core.Path.{◌≡◌}
use Rattle.model.specs.Mark.{holds_bits}
use Rattle.model.specs.Network.{tabulate}
use Rattle.network_words.specs.Words.{word_bit, trits_of}
use Rattle.marker_targets.proofs.Judging.{held_from}
use Rattle.marker_targets.proofs.holds_bits.Given as goal

abbrev pub invariant-loop-b : goal.invariant-loop-b
invariant-loop-b l = held_from l.bits l.known l.want l.len l.b ≡ holds_bits (trits_of l.len l.bits l.known) (tabulate (word_bit l.want) 0 l.len)
