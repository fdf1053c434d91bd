-- What document 02, Change 5, "Add up the path from the other end", promises; proofs/Requests.antt proves it.
-- Assumes nothing.
use Rattle.std.specs.Prelude.{◌≡◌, cond, ℕ, zero, suc, ◌+◌, ◌≤◌, leb}
use Rattle.std.specs.Prelude.{Option, None as none, Some as some}
use mathlib.Core.List.{List, [], ◌∷◌, Memᴰ}
use Rattle.model.specs.Result.{ok}
use Rattle.model.specs.Text.{Bytes, Trit, bind}
use Rattle.model.specs.Network.{Node, segment, multiplexer, Config, Network}
use Rattle.model.specs.Path.{ScanPath, bit_of, address, pick, node_of, path_in, ValidConfig, path_length}
use Rattle.model.specs.NetworkText.{read_network}

-- ---- "shall add the segments as the walk returns from scan-in to scan-out"

-- at a node: a segment adds its LEN to the sum that came back, a multiplexer hands on that of the addressed input
abbrev pub sum_visit : (ℕ → ℕ → Trit) → Node → (ℕ → Option ℕ) → Option ℕ
sum_visit look (segment from len shadow) go = bind (go from) (λ back. some (len + back))
sum_visit look (multiplexer s b ins) go = bind (pick ins (address look s b ins)) go

-- the sum at node n: 0 at scan-in; none where a multiplexer stops the walk. n steps are enough
unfoldable pub sum_from : (ℕ → Node) → (ℕ → ℕ → Trit) → ℕ → ℕ → Option ℕ
sum_from node look zero n = some 0
sum_from node look (suc f) zero = some 0
sum_from node look (suc f) (suc n) = sum_visit look (node (suc n)) (λ m. sum_from node look f m)

abbrev pub sum_at : Network → Config → ℕ → Option ℕ
sum_at net c k = sum_from (node_of net.nodes) (bit_of c) k k

-- ---- "each node met"

-- "a segment leads to FROM, a multiplexer to the addressed input"
abbrev pub leads_to : (ℕ → ℕ → Trit) → Node → Option ℕ
leads_to look (segment from len shadow) = some from
leads_to look (multiplexer s b ins) = pick ins (address look s b ins)

abbrev pub met_behind : Option ℕ → (ℕ → List ℕ) → List ℕ
met_behind none go = []
met_behind (some m) go = go m

-- the nodes that the walk from node n meets, multiplexers too, from scan-out on
unfoldable pub met_from : (ℕ → Node) → (ℕ → ℕ → Trit) → ℕ → ℕ → List ℕ
met_from node look zero n = []
met_from node look (suc f) zero = []
met_from node look (suc f) (suc n) = suc n ∷ met_behind (leads_to look (node (suc n))) (λ m. met_from node look f m)

abbrev pub nodes_met : Network → Config → List ℕ
nodes_met net c = met_from (node_of net.nodes) (bit_of c) net.out net.out

-- ---- "the count of path bits from scan-in up to and with that node"

-- the part of a path from node k on to scan-in: numbers fall on the way, so it opens with the first segment whose number is at most k.
-- A multiplexer has no bits: its part opens with the segment that comes next
abbrev pub part_from : ScanPath → ℕ → ScanPath
part_from [] k = []
part_from (h ∷ p) k = cond (leb h.number k) (h ∷ p) (part_from p k)

abbrev pub bits_up_to : ScanPath → ℕ → ℕ
bits_up_to p k = path_length (part_from p k)

-- ---- the promise

pub record SumsUp (net : Network) (c : Config) : Type 0 where
  -- "In a valid configuration its sum at each node met must be proved to be the count of path bits from scan-in up to and with that node"
  pub each : (k : ℕ) → Memᴰ k (nodes_met net c) → sum_at net c k ≡ some (bits_up_to (path_in net c) k)
  -- and the last sum, at the node that feeds scan-out, is the path's length
  pub whole : sum_at net c net.out ≡ some (path_length (path_in net c))
  -- no node met is left out: not the one that feeds scan-out, and with no node the one that it leads to
  pub first : 1 ≤ net.out → Memᴰ net.out (nodes_met net c)
  pub next : (k m : ℕ) → Memᴰ k (nodes_met net c) → leads_to (bit_of c) (node_of net.nodes k) ≡ some m → 1 ≤ m → Memᴰ m (nodes_met net c)

abbrev pub PathSums : Type 0
PathSums = (t : Bytes) (net : Network) (c : Config) → read_network t ≡ ok net → ValidConfig net c → SumsUp net c
