-- `network_reader::counts::steering_in` meets its contract.
-- Assumes nothing.
use Rattle.network_words.specs.Words.{word_bit}
use Rattle.network_words.proofs.WordLaws.{value_small}
use Rattle.network_reader.proofs.Counting.{count_start, count_step, count_end}
use native.Mathlib.Omega.{arith}
use Rattle.network_reader.proofs.counts.steering_in.Goals as goal

pub loop-b-init : goal.loop-b-init
loop-b-init c = (omega arith, count_start _ _)

pub overflow_add-sum : goal.overflow_add-sum
overflow_add-sum c = let e = value_small (word_bit c.args.word c.loop-b.b) in omega arith

pub loop-b-preserved : goal.loop-b-preserved
loop-b-preserved c =
    let e = value_small (word_bit c.args.word c.loop-b.b) in
    let k = count_step c.args.word c.loop-b.b c.args.len (omega arith) in
    (omega arith, omega (arith, c.loop-b.invariant.1, c.bit_at-sum.ensures, k))

pub returns : goal.returns
returns c = let k = count_end c.args.word c.loop-b.b c.args.len (omega arith) in (omega (arith, c.loop-b.invariant.1, k), omega arith)
