-- `planner_rows::list_lands` meets its contract. The invariant: h is 2 to the count of places passed, and the first h choices are listed.
-- Assumes nothing.
use Prim.Native.Nat.{◌-◌}
use Rattle.planner_rows.proofs.LandList.{Landed}
use Rattle.planner_rows.proofs.list_lands.Given as goal

abbrev pub invariant-loop-h : goal.invariant-loop-h
invariant-loop-h l = Landed l.rows l.x l.n l.i l.h l.lands

abbrev pub decreases-loop-h : goal.decreases-loop-h
decreases-loop-h l = l.n - l.h
