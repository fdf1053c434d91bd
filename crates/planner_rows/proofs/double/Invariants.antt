-- `planner_rows::double` meets its contract. The invariant: the first h are as they were, and c of them stand again behind, with w added.
-- Assumes nothing.
use Rattle.planner_rows.proofs.LandList.{Doubling}
use Rattle.planner_rows.proofs.double.Given as goal

abbrev pub invariant-loop-c : goal.invariant-loop-c
invariant-loop-c l = Doubling l.initial.lands l.h l.w l.c l.lands
