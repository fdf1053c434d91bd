-- `planner_steering::setting_number` meets its contract. The invariant: the number of the digits from j on.
-- Assumes nothing.
use Rattle.planner_steering.proofs.Numbering.{Numbered}
use Rattle.network_path.specs.Layout.{look_in}
use Rattle.planner_steering.proofs.setting_number.Given as goal

abbrev pub invariant-loop-j : goal.invariant-loop-j
invariant-loop-j l = Numbered l.problem.steering l.problem.width (look_in l.bits l.known) l.j l.n
