-- `network_path::places::place_of` meets its contract. The loop's invariant: the bits passed and the place among the segments to come make the place.
-- Assumes nothing.
use native.Mathlib.Omega.{arith}
use Rattle.network_path.proofs.PathLaws.{segment_in, passed_more}
use Rattle.network_path.proofs.places.place_of.Goals as goal

pub segment_len-p-requires : goal.segment_len-p-requires
segment_len-p-requires c = omega (arith, (segment_in _ _ _ c.requires _ _ c.loop-k-test.true c.from-k.ensures).below)

pub overflow_add-p : goal.overflow_add-p
overflow_add-p c =
    let on = segment_in _ _ _ c.requires _ _ c.loop-k-test.true c.from-k.ensures in
    omega (arith, on.most, on.within, c.segment_len-p.ensures, c.requires.count)

pub loop-k-preserved : goal.loop-k-preserved
loop-k-preserved c =
    let on = segment_in _ _ _ c.requires _ _ c.loop-k-test.true c.from-k.ensures in
    passed_more _ _ _ _ _ _ _ _ on c.if-k-s.false c.segment_len-p.ensures c.loop-k.invariant
