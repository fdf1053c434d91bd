-- `network_words::loaded` meets its contract. The loop's invariant: the bits before the place stand at the top of the word.
-- Assumes nothing.
use Rattle.std.proofs.Common.{map, arith}
use lib.Pow.{pow_pos}
use Rattle.network_words.specs.Words.{byte_bit}
use Rattle.network_words.proofs.WordLaws.{shifted_none, shifted_byte}
use Rattle.network_words.proofs.loaded.Goals as goal

pub loop-b-init : goal.loop-b-init
loop-b-init c = record { small = pow_pos c.args.len; shifted = shifted_none c.args.len (map byte_bit c.args.part.now) }

pub loop-b-preserved : goal.loop-b-preserved
loop-b-preserved c = record {
  small = c.shifted_in-w.ensures.1;
  shifted = shifted_byte c.args.len _ _ _ _ c.args.part.now c.requires.0 (omega arith) c.bit_of.ensures c.shifted_in-w.ensures.0 c.loop-b.invariant.shifted;
}
