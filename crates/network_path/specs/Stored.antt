-- A network that the arrays hold, its path in the lent memory, and the sums of the walk.
-- Assumes nothing.
use Rattle.std.specs.Prelude.{◌≡◌, ℕ, ◌≤◌, take}
use Rattle.std.specs.Prelude.{Result}
use mathlib.Core.List.{List, Memᴰ}
use Rattle.model.specs.Limits.{max_nodes}
use Rattle.model.specs.Network.{Network, Config}
use Rattle.model.specs.Path.{path, walk, path_in, ValidConfig, path_length}
use Rattle.model.specs.PathSum.{nodes_met, bits_up_to}
use Rattle.model.specs.Accepted.{WellFormed}
use Rattle.network_path.specs.Layout.{nodes_of, config_of, scan_path}
use Rattle.network_path.specs.Answers.{walked, Walks, HoldsPath}

-- the arrays hold the network: its nodes, and the number of the node that feeds scan-out
pub record Stored (net : Network) (ns : List ℕ) (count out : ℕ) : Type 0 where
  pub nodes : net.nodes ≡ nodes_of ns count
  pub feeds : net.out ≡ out
  pub most : count ≤ max_nodes
  pub formed : WellFormed net

-- the path of n segments in the lent memory is the network's path in the configuration, and len is its length
pub record PathFound (net : Network) (c : Config) (ns way : List ℕ) (n len : ℕ) : Type 0 where
  pub walks : walk net c ≡ path (scan_path ns (take n way))
  pub is : path_in net c ≡ scan_path ns (take n way)
  pub valid : ValidConfig net c
  pub holds : HoldsPath ns way n
  pub long : len ≡ path_length (scan_path ns (take n way))

-- ---- document 02, Change 5: "In a valid configuration its sum at each node met must be proved to be the count of path bits from scan-in
-- up to and with that node"

-- the sum that `walk` answers with at a node met, whatever was met before it
abbrev pub WalkSums : Type 0
WalkSums =
    (net : Network) (ns : List ℕ) (count out : ℕ) → Stored net ns count out → (bits known : List ℕ) → ValidConfig net (config_of ns bits known count)
    → (k : ℕ) → Memᴰ k (nodes_met net (config_of ns bits known count)) → (old : List ℕ) (met sum : ℕ) (end : Result ℕ ℕ) (way : List ℕ) → Walks ns bits known k old met (walked sum end) way
    → sum ≡ bits_up_to (path_in net (config_of ns bits known count)) k
