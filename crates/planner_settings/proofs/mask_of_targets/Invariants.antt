-- `planner_settings::mask_of_targets` meets its contract. The invariant: the number of the targets from i on.
-- Assumes nothing.
use Rattle.planner_settings.proofs.Basing.{Masked}
use Rattle.planner_settings.proofs.mask_of_targets.Given as goal

abbrev pub invariant-loop-i : goal.invariant-loop-i
invariant-loop-i l = Masked l.marks l.t l.i l.mask
