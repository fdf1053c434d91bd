-- `network_words::words_of` meets its contract. The loop's invariant: both words have the bytes before the place, and the rest gives the whole.
-- Assumes nothing.
use Rattle.network_words.specs.Words.{byte_bit, byte_known}
use Rattle.network_words.proofs.FieldLaws.{reads_more, reads_all}
use Rattle.network_words.proofs.words_of.Goals as goal

pub loop-x-preserved : goal.loop-x-preserved
loop-x-preserved c = record {
  bits = reads_more byte_bit c.args.f.now _ _ _ _ c.loop-x-test.true c.bit_of.ensures c.with_low-bits.ensures c.loop-x.invariant.bits;
  known = reads_more byte_known c.args.f.now _ _ _ _ c.loop-x-test.true c.mark_of.ensures c.with_low-known.ensures c.loop-x.invariant.known;
}

pub returns : goal.returns
returns c =
    let f = c.args.f.now in
    let past = c.loop-x-test.false in
    (reads_all byte_bit f _ _ past c.loop-x.invariant.bits, reads_all byte_known f _ _ past c.loop-x.invariant.known)
