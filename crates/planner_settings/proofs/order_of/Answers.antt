-- `planner_settings::order_of` meets its contract. The invariant: the indices listed and those of the segments to come make the whole.
-- Assumes nothing.
use Rattle.planner_settings.proofs.Ordering.{ordering_within, ordering_room, ordering_more, ordering_all}
use Rattle.planner_settings.proofs.order_of.Goals as goal

pub indices_at-m-requires-clause-k_bound : goal.indices_at-m-requires-clause-k_bound
indices_at-m-requires-clause-k_bound c = let p = c.requires.path in
    let l = c.loop-i.invariant in
    (p.1, ordering_within _ _ p.1 _ _ _ p.0.1 _ _ _ _ c.loop-i-test.true c.from.ensures l, l.sized, l.most)

pub indices_at-m-requires-clause-room : goal.indices_at-m-requires-clause-room
indices_at-m-requires-clause-room c = let p = c.requires.path in
    ordering_room _ _ p.1 _ _ _ p.0.1 _ _ _ _ c.loop-i-test.true c.from.ensures c.loop-i.invariant

pub loop-i-preserved : goal.loop-i-preserved
loop-i-preserved c = let p = c.requires.path in
    ordering_more _ _ p.1 _ _ _ p.0.1 _ _ _ _ c.loop-i-test.true c.from.ensures c.loop-i.invariant _ _ c.indices_at-m.ensures

pub returns : goal.returns
returns c = ordering_all _ _ c.requires.path.1 _ _ _ c.requires.path.0.1 _ _ _ c.loop-i-test.false c.loop-i.invariant
