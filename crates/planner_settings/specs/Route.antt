-- What the walk in a setting and the functions that look at its path ask and leave.
-- Assumes nothing.
use Rattle.std.specs.Prelude.{◌≡◌, List, ◌++◌, ℕ, ◌+◌, ◌≤◌, ◌<◌, length, get_or, take}
use Rattle.model.specs.Limits.{max_nodes, max_settings}
use Rattle.model.specs.Network.{Network, steers, steering_bits}
use Rattle.model.specs.Path.{ScanPath, bit_value, on}
use Rattle.model.specs.Accepted.{Accepted}
use Rattle.network_words.specs.Words.{word_width, word_bit}
use Rattle.network_path.specs.Layout.{scan_path, node_numbers}
use Rattle.network_path.specs.Answers.{Walked, told, WalkHeld}
use Rattle.network_path.specs.Stored.{Stored}
use Rattle.network_draft.specs.declared.store.Summary.{Summary}
use Rattle.network_draft.specs.Represents.{InLimits, stored_at, targets_of}
use Rattle.planner_theory.specs.Settings.{walk_at, indices_in, order, base_of}
use Rattle.planner_theory.specs.Moves.{mask_of, on_path}
use Rattle.planner_steering.specs.declared.Problem.{Problem}
use Rattle.planner_steering.specs.declared.SteeringBit.{SteeringBit}
use Rattle.planner_steering.specs.Steering.{segment_at, bits_of, steering_of}

-- ---- marks of the segments on a path

-- no marks
pub record Unmarked (marks : List ℕ) : Type 0 where
  pub size : length marks ≡ node_numbers
  pub none : (s : ℕ) → s ≤ max_nodes → get_or marks s 0 ≡ 0

-- 1 for each segment on the path p, 0 for each other node
abbrev pub MarksOf : List ℕ → ScanPath → Type 0
MarksOf marks p = (s : ℕ) → s ≤ max_nodes → get_or marks s 0 ≡ bit_value (on p s)

-- the marks of the path of n segments
pub record PathMarked (way : List ℕ) (n : ℕ) (marks : List ℕ) : Type 0 where
  pub size : length marks ≡ node_numbers
  pub marked : (ns : List ℕ) → MarksOf marks (scan_path ns (take n way))

-- each mark is 0 or 1
abbrev pub Flags : List ℕ → Type 0
Flags marks = (s : ℕ) → s ≤ max_nodes → get_or marks s 0 ≤ 1

-- ---- the steering bits on a path

-- room for the indices of the steering bits of segment s behind the first n
abbrev pub Room : List SteeringBit → ℕ → ℕ → ℕ → Type 0
Room listed k s n = n + length (indices_in 0 (bits_of listed k) s) ≤ 6

-- the first n, then the indices of the steering bits of segment s, are now the first r
pub record IndicesBehind (listed : List SteeringBit) (k s : ℕ) (old : List ℕ) (n : ℕ) (new : List ℕ) (r : ℕ) : Type 0 where
  pub lists : take r new ≡ take n old ++ indices_in 0 (bits_of listed k) s
  pub most : r ≤ 6
  pub sized : length new ≡ 6

-- a segment with a steering bit has a word of steering bits that is not 0
abbrev pub Steers : List ℕ → List SteeringBit → ℕ → Type 0
Steers steering listed k = (j : ℕ) → j < k → get_or steering (segment_at listed j) 0 ≡ 0 → ⊥

-- the first r are the indices of the steering bits on the path of n segments
pub record Ordered (listed : List SteeringBit) (k : ℕ) (way : List ℕ) (n : ℕ) (new : List ℕ) (r : ℕ) : Type 0 where
  pub lists : (ns : List ℕ) → take r new ≡ order (bits_of listed k) (scan_path ns (take n way))
  pub most : r ≤ 6
  pub sized : length new ≡ 6

-- ---- numbers by the marks of a path

-- the number of setting x with 0 in the steering bits on the path
pub record BaseBy (marks : List ℕ) (listed : List SteeringBit) (k x r : ℕ) : Type 0 where
  pub is : (p : ScanPath) → MarksOf marks p → r ≡ base_of (bits_of listed k) p x
  pub small : r < max_settings

-- each target's segment is the number of a node
abbrev pub TargetsWithin : Summary → Type 0
TargetsWithin t = (i : ℕ) → i < t.target_count → (stored_at t i).segment ≤ max_nodes

-- the targets on the path, a binary digit for each
abbrev pub MaskBy : List ℕ → Summary → ℕ → Type 0
MaskBy marks t r = (ns : List ℕ) (p : ScanPath) → MarksOf marks p → r ≡ mask_of (on_path p) (targets_of ns t)

-- ---- the network in the arrays, and its walk in a setting

-- the arrays hold the network and its steering bits, of which there are at most 6
pub record Prepared (net : Network) (ns steering : List ℕ) (p : Problem) : Type 0 where
  pub stored : Stored net ns p.summary.count p.summary.out
  pub accepted : Accepted net
  pub targets_are : net.targets ≡ targets_of ns p.summary
  pub in_limits : InLimits p.summary
  pub steering_is : (s b : ℕ) → s ≤ max_nodes → b < word_width → word_bit (get_or steering s 0) b ≡ steers net.nodes s b
  pub bits_are : steering_of p ≡ steering_bits net.nodes
  pub few : p.width ≤ 6

abbrev pub Plannable : List ℕ → List ℕ → Problem → Type 0
Plannable ns steering p = (net : Network) × Prepared net ns steering p

-- for each network that the arrays hold
abbrev pub Each : List ℕ → List ℕ → Problem → (Network → Type 0) → Type 0
Each ns steering p P = (net : Network) → Prepared net ns steering p → P net

-- the walk in setting x
pub record WalkIs (net : Network) (ns : List ℕ) (x : ℕ) (r : Walked) (way : List ℕ) : Type 0 where
  pub tells : walk_at net x ≡ told ns way r
  pub holds : WalkHeld ns way r
