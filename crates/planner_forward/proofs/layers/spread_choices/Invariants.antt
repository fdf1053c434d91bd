-- `planner_forward::layers::spread_choices` meets its contract. The loop's invariant: the sets got have gone where the first c choices lead.
-- Assumes nothing.
use Rattle.planner_forward.specs.Spreading.{Spread, Arrives}
use Rattle.planner_forward.proofs.layers.spread_choices.Given as goal

abbrev pub invariant-loop-c : goal.invariant-loop-c
invariant-loop-c l = Spread (Arrives l.lands l.c l.got) l.i l.initial.table l.initial.seen l.table l.seen
