-- What the writers of an operation's line answer and write, for any network that their words are those of.
-- Assumes nothing.
use Rattle.std.specs.Prelude.{◌≡◌, List, map, ℕ, ◌+◌, ◌≤◌, ◌<◌, length, get_or, take}
use Rattle.model.specs.Limits.{max_nodes}
use Rattle.model.specs.Network.{Network, len_of, steers, tabulate}
use Rattle.model.specs.Path.{ScanPath, path_length}
use Rattle.model.specs.Plan.{wanted}
use Rattle.model.specs.Tap.{bit_byte}
use Rattle.network_words.specs.Words.{word_width, word_bit}
use Rattle.network_path.specs.Layout.{node_at, scan_path, node_numbers}
use Rattle.network_path.specs.Answers.{HoldsPath}
use Rattle.network_draft.specs.declared.store.Summary.{Summary}
use Rattle.network_draft.specs.Represents.{targets_of}
use Rattle.plan_text.specs.Writing.{write_at, line_text}
use Rattle.planner_theory.specs.Choices.{places_of, choice_bits, left_after}

-- ---- a segment

-- the word of bits that the planner shifts to segment s where it does not steer
abbrev pub WantedWord : Summary → ℕ → ℕ → Type 0
WantedWord t s r = (ns : List ℕ) (b : ℕ) → b < len_of (node_at ns s) → word_bit r b ≡ wanted (targets_of ns t) s b

-- that word for each segment
pub record WantsOf (t : Summary) (wants : List ℕ) : Type 0 where
  pub size : length wants ≡ node_numbers
  pub are : (s : ℕ) → s ≤ max_nodes → WantedWord t s (get_or wants s 0)

-- the two words of segment s, as far as its len bits go: those that steer, and what the planner shifts to the others
pub record WordsOf (net : Network) (s len steer want : ℕ) : Type 0 where
  pub steers_are : (b : ℕ) → b < len → word_bit steer b ≡ steers net.nodes s b
  pub wants_are : (b : ℕ) → b < len → word_bit want b ≡ wanted net.targets s b

-- the places of the first len bits of segment s
abbrev pub segment_places : ℕ → ℕ → List (ℕ × ℕ)
segment_places s len = tabulate (λ b. (s, b)) 0 len

-- the bits of choice c at these places stand in the buffer from a place on, and r is what they leave of h
pub record BitsPut (net : Network) (qs : List (ℕ × ℕ)) (at h c : ℕ) (old : List ℕ) (r : ℕ) (new : List ℕ) : Type 0 where
  pub left : r ≡ left_after net qs h
  pub holds : new ≡ write_at at (map bit_byte (choice_bits net qs h c)) old

-- as many `0` stand in the buffer from a place on
abbrev pub ZerosFrom : List ℕ → ℕ → ℕ → Type 0
ZerosFrom buf at n = (k : ℕ) → k < n → get_or buf (at + k) 0 ≡ 48

-- the bytes from a place on are as they were
abbrev pub KeptFrom : ℕ → List ℕ → List ℕ → Type 0
KeptFrom at old new = (k : ℕ) → at ≤ k → get_or new k 0 ≡ get_or old k 0

abbrev pub SegmentPut : ℕ → ℕ → ℕ → ℕ → ℕ → ℕ → List ℕ → ℕ → List ℕ → Type 0
SegmentPut at len steer want h c old r new = (net : Network) (s : ℕ) → WordsOf net s len steer want → BitsPut net (segment_places s len) at h c old r new

-- ---- an operation

-- the path whose n segments way holds, with room for its bits from a place on
pub record HasRoom (ns way : List ℕ) (n at : ℕ) (old : List ℕ) : Type 0 where
  pub holds : HoldsPath ns way n
  pub room : at + path_length (scan_path ns (take n way)) ≤ length old

-- the words of steering bits and of what the planner shifts to the others are the network's
pub record Fills (net : Network) (ns steering wants : List ℕ) : Type 0 where
  pub steering_is : (s b : ℕ) → s ≤ max_nodes → b < word_width → word_bit (get_or steering s 0) b ≡ steers net.nodes s b
  pub wants_are : (s b : ℕ) → s ≤ max_nodes → b < len_of (node_at ns s) → word_bit (get_or wants s 0) b ≡ wanted net.targets s b

abbrev pub operation_bits : Network → ScanPath → ℕ → ℕ → List ℕ
operation_bits net p h c = map bit_byte (choice_bits net (places_of p) h c)

abbrev pub OperationPut : List ℕ → List ℕ → List ℕ → List ℕ → ℕ → ℕ → ℕ → ℕ → List ℕ → List ℕ → Type 0
OperationPut ns steering wants way n at h c old new =
    (net : Network) → Fills net ns steering wants → new ≡ write_at at (operation_bits net (scan_path ns (take n way)) h c) old

-- ---- its line

abbrev pub LinePut : List ℕ → List ℕ → List ℕ → List ℕ → ℕ → ℕ → ℕ → ℕ → List ℕ → List ℕ → Type 0
LinePut ns steering wants way n at h c old new =
    (net : Network) → Fills net ns steering wants → new ≡ write_at at (line_text (operation_bits net (scan_path ns (take n way)) h c)) old
