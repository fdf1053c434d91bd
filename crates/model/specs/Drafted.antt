-- What the network has as far as it is read, between two lines. Contracts of steps ask for it; proofs/Reading.antt shows that each
-- line keeps it.
-- Assumes nothing.
use Rattle.std.specs.Prelude.{◌≡◌, false, ℕ, suc, ◌≤◌, ◌<◌, length, get_or}
use Rattle.std.specs.Prelude.{None as none, Some as some}
use mathlib.Core.List.{List, [], Memᴰ}
use Rattle.model.specs.Limits.{max_nodes, max_bits, max_len}
use Rattle.model.specs.Network.{segment, Node, multiplexer, at, no_node, len_of, total_bits, Held}
use Rattle.model.specs.NetworkText.{Draft, outside, first_bad}
use Rattle.model.specs.Accepted.{TargetsFit}

-- ---- nodes

-- 2 to 4 inputs
abbrev pub GoodForm : Node → Type 0
GoodForm (segment from len shadow) = Unit {0}
GoodForm (multiplexer s b ins) = (2 ≤ length ins) × (length ins ≤ 4)

-- a node within its bounds, with a good count of inputs
pub record Placed (k : ℕ) (x : Node) : Type 0 where
  pub within : outside max_len k x ≡ false
  pub form : GoodForm x

-- P of each node and its number
abbrev pub EachNode : (ℕ → Node → Type 0) → List Node → Type 0
EachNode P ns = (i : ℕ) → i < length ns → P (suc i) (get_or ns i no_node)

-- ---- start bits

-- as long as their segment
abbrev pub HoldsFit : List Node → List Held → Type 0
HoldsFit ns hs = (h : Held) → Memᴰ h hs → length h.bits ≡ len_of (at ns h.segment_number no_node)

-- a RESET: under the number of a node, and as long as it
pub record ResetFits (ns : List Node) (h : Held) : Type 0 where
  pub among : h.segment_number ≤ length ns
  pub as_long : length h.bits ≡ len_of (at ns h.segment_number no_node)

abbrev pub ResetsFit : List Node → List Held → Type 0
ResetsFit ns rs = (h : Held) → Memᴰ h rs → ResetFits ns h

-- ---- the draft before line n

pub data Stage (d : Draft) (n : ℕ) : Type 0 where
  no_out : d.feeds ≡ none → n ≡ suc (length d.nodes) → d.holds ≡ [] → d.targets ≡ [] → Stage d n
  behind_out : (k : ℕ) → d.feeds ≡ some k → k ≤ length d.nodes → first_bad d.nodes 1 d.nodes ≡ none
      → HoldsFit d.nodes d.holds → TargetsFit d.nodes d.targets → Stage d n

pub record Sound (d : Draft) (n : ℕ) : Type 0 where
  pub nodes_placed : EachNode Placed d.nodes
  pub few_nodes : length d.nodes ≤ max_nodes
  pub few_bits : total_bits d.nodes ≤ max_bits
  pub resets_fit : ResetsFit d.nodes d.resets
  pub stage : Stage d n
