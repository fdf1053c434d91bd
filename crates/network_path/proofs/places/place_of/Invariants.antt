-- `network_path::places::place_of` meets its contract. The loop's invariant: the bits passed and the place among the segments to come make the place.
-- Assumes nothing.
use Rattle.network_path.proofs.PathLaws.{Passed}
use Rattle.network_path.proofs.places.place_of.Given as goal

abbrev pub invariant-loop-k : goal.invariant-loop-k
invariant-loop-k l = Passed l.nodes l.way l.n l.s l.k-index l.p
