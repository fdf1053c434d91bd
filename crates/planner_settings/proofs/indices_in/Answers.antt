-- `planner_settings::indices_in` meets its contract. The invariant: the indices listed and those to come make the whole.
-- Assumes nothing.
use mathlib.Core.Path.{sym, ◌∙◌}
use native.Mathlib.Omega.{arith}
use Rattle.planner_settings.proofs.Ordering.{indexing_room, indexing_hit, indexing_miss, indexing_all}
use Rattle.planner_settings.proofs.indices_in.Goals as goal
use Rattle.planner_settings.proofs.indices_in.Goals.{then-from-s, else-from-s}

pub bounds-order-m : goal.bounds-order-m
bounds-order-m c = indexing_room _ _ _ _ _ _ _ _ c.loop-j-test.true c.loop-j.invariant (sym c.from.ensures ∙ c.if-from-s.true)

pub loop-j-preserved : goal.loop-j-preserved
loop-j-preserved c = let l = c.loop-j.invariant in
    let t = c.loop-j-test.true in
    elim c.if-from-s.branch [
      | then-from-s w ↦ rw (w.order-is, w.m-is) (indexing_hit _ _ _ _ _ _ _ _ t l (sym c.from.ensures ∙ w.if-from-s.true))
      | else-from-s w ↦ rw (w.order-is, w.m-is) (indexing_miss _ _ _ _ _ _ _ _ t l (λ e. w.if-from-s.false (c.from.ensures ∙ e)))
    ]

pub returns : goal.returns
returns c = indexing_all _ _ _ _ _ _ _ _ c.loop-j-test.false c.loop-j.invariant
