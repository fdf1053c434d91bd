-- `network_path::load::load` meets its contract. The loop's invariant: the load of the segments to come gives what the whole load gives.
-- Assumes nothing.
use native.Mathlib.Omega.{arith}
use lib.ListN.{take, drop_of_length-le}
use Rattle.network_path.proofs.PathLaws.{segment_in}
use Rattle.network_path.proofs.LoadLaws.{part_long, part_fits, loading_more, loading_all}
use Rattle.network_path.proofs.load.load.Goals as goal

pub segment_len-len-requires : goal.segment_len-len-requires
segment_len-len-requires c = omega (arith, (segment_in _ _ _ c.requires.holds _ _ c.loop-k-test.true c.from-k.ensures).below)

pub loaded-requires : goal.loaded-requires
loaded-requires c =
    let on = segment_in _ _ _ c.requires.holds _ _ c.loop-k-test.true c.from-k.ensures in
    (part_long _ _ _ (part_fits _ _ _ _ _ _ _ _ _ _ c.loop-k.invariant _ _ on c.segment_len-len.ensures), omega (arith, on.most, c.segment_len-len.ensures))

pub bounds-bits-k : goal.bounds-bits-k
bounds-bits-k c = omega (arith, (segment_in _ _ _ c.requires.holds _ _ c.loop-k-test.true c.from-k.ensures).below)

pub bounds-known-k : goal.bounds-known-k
bounds-known-k c = omega (arith, (segment_in _ _ _ c.requires.holds _ _ c.loop-k-test.true c.from-k.ensures).below)

pub loop-k-preserved : goal.loop-k-preserved
loop-k-preserved c =
    let on = segment_in _ _ _ c.requires.holds _ _ c.loop-k-test.true c.from-k.ensures in
    loading_more _ _ _ _ _ _ _ _ _ _ c.loop-k.invariant _ _ on c.segment_len-len.ensures _ c.loaded.ensures

pub returns : goal.returns
returns c = loading_all _ _ _ _ _ _ _ _ _ _ (drop_of_length-le (take c.args.n c.args.way.now) {i = c.loop-k.k-index} c.loop-k-test.false) c.loop-k.invariant
