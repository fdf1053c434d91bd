-- `network_words::loaded` meets its contract. The loop's invariant: the bits before the place stand at the top of the word.
-- Assumes nothing.
use Rattle.std.proofs.Common.{◌<◌, ◌^◌, map}
use Rattle.network_words.specs.Words.{byte_bit}
use Rattle.network_words.proofs.WordLaws.{Shifted}
use Rattle.network_words.proofs.loaded.Given as goal

abbrev pub invariant-loop-b : goal.invariant-loop-b
invariant-loop-b l = record { small : l.w < 2 ^ l.len; shifted : Shifted l.len l.w (map byte_bit l.part) l.b-index }
