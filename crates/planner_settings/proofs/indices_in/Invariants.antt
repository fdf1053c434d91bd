-- `planner_settings::indices_in` meets its contract. The invariant: the indices listed and those to come make the whole.
-- Assumes nothing.
use Rattle.planner_settings.proofs.Ordering.{Indexing}
use Rattle.planner_settings.proofs.indices_in.Given as goal

abbrev pub invariant-loop-j : goal.invariant-loop-j
invariant-loop-j l = Indexing l.listed l.k l.s l.initial.order l.n l.j l.order l.m
