-- `network_words::words_of` meets its contract. The loop's invariant: both words have the bytes before the place, and the rest gives the whole.
-- Assumes nothing.
use Rattle.network_words.specs.Words.{byte_bit, byte_known}
use Rattle.network_words.proofs.FieldLaws.{Reads}
use Rattle.network_words.proofs.words_of.Given as goal

abbrev pub invariant-loop-x : goal.invariant-loop-x
invariant-loop-x l = record { bits : Reads byte_bit l.f l.x-index l.bits; known : Reads byte_known l.f l.x-index l.known }
