-- `planner_settings::base_of` meets its contract. The invariant: the number of the digits from j on.
-- Assumes nothing.
use Rattle.planner_settings.proofs.Basing.{Based}
use Rattle.planner_settings.proofs.base_of.Given as goal

abbrev pub invariant-loop-j : goal.invariant-loop-j
invariant-loop-j l = Based l.marks l.listed l.k l.x l.j l.base
