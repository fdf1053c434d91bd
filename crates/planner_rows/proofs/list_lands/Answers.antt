-- `planner_rows::list_lands` meets its contract. The invariant: h is 2 to the count of places passed, and the first h choices are listed.
-- Assumes nothing.
use mathlib.Core.Path.{refl}
use native.Mathlib.Omega.{arith}
use Rattle.planner_rows.proofs.LandList.{weight_small, landed_none, landed_round, landed_more, landed_all}
use Rattle.planner_rows.proofs.list_lands.Goals as goal

pub loop-h-init : goal.loop-h-init
loop-h-init c = landed_none _ _ _ c.number-n.ensures c.requires.2 c.args.lands.now _ c.requires.0 refl

pub overflow_add-i : goal.overflow_add-i
overflow_add-i c = omega (arith, (landed_round _ _ _ c.number-n.ensures c.requires.2 _ _ _ c.loop-h-test.true c.loop-h.invariant).few)

pub number-place-requires : goal.number-place-requires
number-place-requires c = let q = landed_round _ _ _ c.number-n.ensures c.requires.2 _ _ _ c.loop-h-test.true c.loop-h.invariant in
    (c.requires.1, omega (arith, q.few))

pub pow-requires : goal.pow-requires
pow-requires c = let q = landed_round _ _ _ c.number-n.ensures c.requires.2 _ _ _ c.loop-h-test.true c.loop-h.invariant in
    omega (arith, weight_small c.number-place.result (omega (arith, c.number-place.ensures, q.within)))

pub double-requires-clause-lands_len : goal.double-requires-clause-lands_len
double-requires-clause-lands_len c = let d = c.loop-h.invariant in
    let q = landed_round _ _ _ c.number-n.ensures c.requires.2 _ _ _ c.loop-h-test.true d in
    (d.size, q.half, omega (arith, c.pow.ensures, weight_small c.number-place.result (omega (arith, c.number-place.ensures, q.within))))

pub double-requires-clause-by_index : goal.double-requires-clause-by_index
double-requires-clause-by_index c = (landed_round _ _ _ c.number-n.ensures c.requires.2 _ _ _ c.loop-h-test.true c.loop-h.invariant).small

pub overflow_add-i-in-loop-h : goal.overflow_add-i-in-loop-h
overflow_add-i-in-loop-h c = omega (arith, (landed_round _ _ _ c.number-n.ensures c.requires.2 _ _ _ c.loop-h-test.true c.loop-h.invariant).few)

pub loop-h-preserved : goal.loop-h-preserved
loop-h-preserved c = landed_more _ _ _ c.number-n.ensures c.requires.2 _ _ _ c.loop-h-test.true c.loop-h.invariant _ _ _ c.number-place.ensures c.pow.ensures c.double.ensures

pub returns : goal.returns
returns c = landed_all _ _ _ c.number-n.ensures c.requires.2 _ _ _ c.loop-h-test.false c.loop-h.invariant
