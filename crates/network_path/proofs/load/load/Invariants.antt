-- `network_path::load::load` meets its contract. The loop's invariant: the load of the segments to come gives what the whole load gives.
-- Assumes nothing.
use Rattle.network_path.proofs.LoadLaws.{Loading}
use Rattle.network_path.proofs.load.load.Given as goal

abbrev pub invariant-loop-k : goal.invariant-loop-k
invariant-loop-k l = Loading l.nodes l.way l.n l.scan l.initial.bits l.initial.known l.k-index l.p l.bits l.known
