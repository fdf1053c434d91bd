-- `network_nodes::bad::first_bad` meets its contract.
-- Assumes nothing.
use mathlib.Core.Path.{◌≡◌}
use Rattle.model.specs.NetworkText.{first_bad}
use Rattle.network_path.specs.Layout.{nodes_of}
use Rattle.network_nodes.proofs.BadAddresses.{bad_from}
use Rattle.network_nodes.proofs.bad.first_bad.Given as goal

abbrev pub invariant-loop-k : goal.invariant-loop-k
invariant-loop-k l = bad_from l.nodes l.count l.k ≡ first_bad (nodes_of l.nodes l.count) 1 (nodes_of l.nodes l.count)
