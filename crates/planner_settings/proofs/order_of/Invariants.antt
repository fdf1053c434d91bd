-- `planner_settings::order_of` meets its contract. The invariant: the indices listed and those of the segments to come make the whole.
-- Assumes nothing.
use Rattle.planner_settings.proofs.Ordering.{Ordering}
use Rattle.planner_settings.proofs.order_of.Given as goal

abbrev pub invariant-loop-i : goal.invariant-loop-i
invariant-loop-i l = Ordering l.listed l.k l.way l.n l.i l.order l.m
