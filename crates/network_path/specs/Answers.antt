-- What the answers of the walk, the places and the load say, in the terms of the model.
-- Assumes nothing.
use Rattle.std.specs.Prelude.{◌≡◌, cond, false, List, map, ℕ, suc, ◌+◌, ◌-◌, ◌*◌, ◌≤◌, leb, length, take, drop}
use Rattle.std.specs.Prelude.{Option, None as none, Some as some, Result, Ok, Err, option_map, IfErr}
use Rattle.model.specs.Limits.{max_nodes}
use Rattle.model.specs.Text.{Trit}
use Rattle.model.specs.Network.{Node, segment, multiplexer}
use Rattle.model.specs.Path.{Walk, path, stop, value_of, pick, address, walk_from, path_length, csu}
use Rattle.model.specs.PathSum.{sum_from}
use Rattle.network_words.specs.Words.{word_width, trit_at, byte_bit}
use Rattle.network_path.specs.Layout.{node_at, look_in, scan_path, config_of, Way, Safe, node_numbers}
use Rattle.network_path.specs.declared.walk.Step.{Step}
use Rattle.network_path.specs.declared.walk.Step.TheVariants.{Segment, Input}
use Rattle.network_path.specs.declared.walk.PathSize.{PathSize}

-- ---- one step

-- the address in a segment's two words: the model's `address`, by the count of inputs
abbrev pub address_of_words : ℕ → ℕ → ℕ → ℕ → Option ℕ
address_of_words bits known b inputs =
    cond (leb inputs 2) (value_of (trit_at bits known b) (some false)) (value_of (trit_at bits known b) (trit_at bits known (suc b)))

-- from a node: "a segment leads to FROM, a multiplexer to the addressed input"
abbrev pub step_of : (ℕ → ℕ → Trit) → Node → Option Step
step_of look (segment from len shadow) = some (Segment from)
step_of look (multiplexer s b ins) = option_map Input (pick ins (address look s b ins))

-- ---- the walk from a node, with the segments met so far at the front of the lent memory

-- what the walk asks: room for a segment for each node number
pub record Walkable (ns : List ℕ) (at : ℕ) (way : List ℕ) (met : ℕ) : Type 0 where
  pub safe : Safe ns at
  pub size : length way ≡ max_nodes
  pub room : met + at ≤ max_nodes

-- the segments that an answer adds
abbrev pub added : List ℕ → ℕ → ℕ → List ℕ
added way met n = take (n - met) (drop met way)

-- the size of a path, or the multiplexer that stops the walk
abbrev pub Walked : Type 0
Walked = Result PathSize ℕ

-- what a sum of bits and the end of a walk, a count of segments or a multiplexer, say together
abbrev pub walked : ℕ → Result ℕ ℕ → Walked
walked sum (Ok n) = Ok record { segments = n; bits = sum }
walked sum (Err m) = Err m

-- what an answer says of the walk
abbrev pub told_from : List ℕ → List ℕ → ℕ → Walked → Walk
told_from ns way met (Ok size) = path (scan_path ns (added way met size.segments))
told_from ns way met (Err m) = stop m

-- the segments added have falling numbers from this node on
abbrev pub FallsFrom : List ℕ → List ℕ → ℕ → ℕ → Walked → Type 0
FallsFrom ns way at met (Ok size) = (met ≤ size.segments) × (size.segments ≤ met + at) × Way ns (suc at) (added way met size.segments)
FallsFrom ns way at met (Err m) = Unit {0}

-- the sum that an answer gives; none where a multiplexer stops the walk
abbrev pub sum_told : Walked → Option ℕ
sum_told (Ok size) = some size.bits
sum_told (Err m) = none

-- the sum is at most a word for each node number up to this one, and the multiplexer that stops the walk has no greater number
pub record EndsWithin (at sum : ℕ) (end : Result ℕ ℕ) : Type 0 where
  pub bits : sum ≤ word_width * at
  pub stop : IfErr end (λ m. m ≤ at)

-- the answer r, with `old` in the lent memory before and `way` in it after
pub record Walks (ns bits known : List ℕ) (at : ℕ) (old : List ℕ) (met : ℕ) (r : Walked) (way : List ℕ) : Type 0 where
  pub tells : (k : ℕ) → at ≤ k → walk_from (node_at ns) (look_in bits known) k at ≡ told_from ns way met r
  pub sums : (k : ℕ) → at ≤ k → sum_from (node_at ns) (look_in bits known) k at ≡ sum_told r
  pub falls : FallsFrom ns way at met r
  pub size : length way ≡ length old
  pub kept : take met way ≡ take met old

-- ---- the whole walk

-- the first n numbers of the lent memory are a path
pub record HoldsPath (ns way : List ℕ) (n : ℕ) : Type 0 where
  pub size : length way ≡ max_nodes
  pub count : n ≤ max_nodes
  pub falls : Way ns node_numbers (take n way)

-- what an answer says of the walk, and of the lent memory
abbrev pub told : List ℕ → List ℕ → Walked → Walk
told ns way (Ok size) = path (scan_path ns (take size.segments way))
told ns way (Err m) = stop m

abbrev pub WalkHeld : List ℕ → List ℕ → Walked → Type 0
WalkHeld ns way (Ok size) = HoldsPath ns way size.segments × (size.bits ≡ path_length (scan_path ns (take size.segments way)))
WalkHeld ns way (Err m) = Unit {0}

-- the answer r, with `way` in the lent memory after
pub record FindsPath (ns bits known : List ℕ) (out : ℕ) (r : Walked) (way : List ℕ) : Type 0 where
  pub tells : walk_from (node_at ns) (look_in bits known) out out ≡ told ns way r
  pub holds : WalkHeld ns way r
  pub size : length way ≡ max_nodes

-- ---- the load

-- a word for each node number from 0 to 128
pub record ConfigSized (bits known : List ℕ) : Type 0 where
  pub words : length bits ≡ node_numbers
  pub marks : length known ≡ node_numbers

-- what the load asks: a path, and a scan-in bit for each of its places
pub record Loadable (ns way : List ℕ) (n : ℕ) (scan bits known : List ℕ) : Type 0 where
  pub holds : HoldsPath ns way n
  pub as_long : length scan ≡ path_length (scan_path ns (take n way))
  pub sized : ConfigSized bits known

-- the words after the load: the configuration of any count of nodes is the one after the operation
pub record Loads (ns way : List ℕ) (n : ℕ) (scan bits known bits' known' : List ℕ) : Type 0 where
  pub loads : (count : ℕ) → config_of ns bits' known' count ≡ csu (scan_path ns (take n way)) (map byte_bit scan) (config_of ns bits known count)
  pub sized : ConfigSized bits' known'
