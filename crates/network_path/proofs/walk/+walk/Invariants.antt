-- The measure of `walk`: the node's number.
-- Assumes nothing.
use Rattle.network_path.proofs.walk.+walk.Given as goal

abbrev pub decreases-walk : goal.decreases-walk
decreases-walk l = l.at
