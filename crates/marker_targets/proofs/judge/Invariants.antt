-- `marker_targets::judge` meets its contract. The invariant is the law `Judging`.
-- Assumes nothing.
use Rattle.marker_operations.specs.Operations.{marking}
use Rattle.marker_targets.proofs.Judging.{Judging}
use Rattle.marker_targets.proofs.judge.Given as goal

abbrev pub invariant-loop-i : goal.invariant-loop-i
invariant-loop-i l = Judging l.nodes l.t (marking l.bits l.known l.met) l.operations l.clocks l.gots l.i
