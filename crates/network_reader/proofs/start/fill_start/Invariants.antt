-- `network_reader::start::fill_start` meets its contract.
-- Assumes nothing.
use Prim.Native.Nat.{◌+◌, ◌≤◌}
use Rattle.network_draft.specs.Represents.{arrays}
use Rattle.network_reader.proofs.Starting.{Filling}
use Rattle.network_reader.proofs.start.fill_start.Given as goal

abbrev pub invariant-loop-s : goal.invariant-loop-s
invariant-loop-s l = (l.s ≤ l.count + 1) × Filling (arrays l.nodes l.initial.bits l.initial.known l.steering l.held) l.s l.bits l.known
