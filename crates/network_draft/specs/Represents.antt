-- The arrays and the summary represent a draft: what the reader has at each line, in the model's terms.
-- Assumes nothing.
use Rattle.std.specs.Prelude.{◌≡◌, Bool, true, false, cond, ◌&&◌, List, [], ℕ, ◌≤◌, ◌<◌, length, get_or, replicate, eqb, is_some}
use Rattle.std.specs.Bool.{beq}
use Rattle.std.specs.Prelude.{Option, None as none, Some as some, Result as Answer, Ok, Err}
use Rattle.model.specs.Limits.{max_bits, max_nodes}
use Rattle.model.specs.Result.{Result, ok, refused}
use Rattle.model.specs.Answers.{number_of}
use Rattle.model.specs.declared.refusal.Refusal.{Refusal}
use Rattle.model.specs.Text.{Trit}
use Rattle.model.specs.Network.{Target, read, write, len_of, total_bits, tabulate, steers, held_or}
use Rattle.model.specs.NetworkText.{Draft, is_held}
use Rattle.model.specs.Drafted.{GoodForm, Sound}
use Rattle.network_words.specs.Words.{word_width, word_bit, trits_of, bits_word, known_word}
use Rattle.network_path.specs.Layout.{node_at, nodes_of, node_fields, node_numbers}
use Rattle.network_draft.specs.Store.{by_hold, by_reset, Small}
use Rattle.network_draft.specs.Numbers.{no_target, stored_target, NodesStored, TargetsStored}
use Rattle.network_draft.specs.declared.store.Target.{Target as StoredTarget}
use Rattle.network_draft.specs.declared.store.Summary.{Summary}

abbrev pub feeds_of : Bool → ℕ → Option ℕ
feeds_of false k = none
feeds_of true k = some k

-- the target of segment s with this word
abbrev pub target_with : List ℕ → ℕ → Option ℕ → Target
target_with ns s none = read s
target_with ns s (some word) = write s (tabulate (word_bit word) 0 (len_of (node_at ns s)))

-- target i, counted from 0, as it is stored
abbrev pub stored_at : Summary → ℕ → StoredTarget
stored_at t i = get_or t.targets i (stored_target no_target)

-- target i
abbrev pub target_at : List ℕ → Summary → ℕ → Target
target_at ns t i = target_with ns (stored_at t i).segment (stored_at t i).write

abbrev pub targets_of : List ℕ → Summary → List Target
targets_of ns t = tabulate (target_at ns t) 0 t.target_count

-- a target by its word: `write`, or `read`
abbrev pub target_for : Bool → ℕ → List Bool → Target
target_for false s bs = read s
target_for true s bs = write s bs

-- a stored target has this segment and this word
abbrev pub same_word : StoredTarget → ℕ → Bool → Bool
same_word x s w = eqb x.segment s && beq (is_some x.write) w

-- each node has good form
abbrev pub Formed : List ℕ → ℕ → Type 0
Formed ns count = (k : ℕ) → 1 ≤ k → k ≤ count → GoodForm (node_at ns k)

-- no segment is longer than a word
abbrev pub Short : List ℕ → ℕ → Type 0
Short ns count = (k : ℕ) → 1 ≤ k → k ≤ count → len_of (node_at ns k) ≤ word_width

-- where the start bits of segment s come from: its `hold` line, else its RESET
abbrev pub start_flag : Draft → ℕ → ℕ
start_flag d s = cond (is_held d.holds s) by_hold (cond (is_held d.resets s) by_reset 0)

-- and what they are, else these
abbrev pub given_or : List Trit → Draft → ℕ → List Trit
given_or other d s = held_or (held_or other d.resets s) d.holds s

-- the counts are within the arrays
pub record InLimits (t : Summary) : Type 0 where
  pub nodes_fit : t.count ≤ max_nodes
  pub bits_fit : t.total ≤ max_bits
  pub targets_fit : t.target_count ≤ 4
  pub targets_room : length t.targets ≡ 4

-- the five arrays that the reader fills
pub record Arrays : Type 0 where
  pub nodes : List ℕ
  pub bits : List ℕ
  pub known : List ℕ
  pub steering : List ℕ
  -- where start bits come from (`start_flag`)
  pub held : List ℕ

abbrev pub arrays : List ℕ → List ℕ → List ℕ → List ℕ → List ℕ → Arrays
arrays ns bits known steering held = record { nodes = ns; bits = bits; known = known; steering = steering; held = held }

pub record Sized (a : Arrays) : Type 0 where
  pub nodes : length a.nodes ≡ node_fields
  pub bit_words : length a.bits ≡ node_numbers
  pub known_words : length a.known ≡ node_numbers
  pub steering_words : length a.steering ≡ node_numbers
  pub held_flags : length a.held ≡ node_numbers

-- before line n
pub record Represents (a : Arrays) (t : Summary) (d : Draft) (n : ℕ) : Type 0 where
  pub sized : Sized a
  pub in_limits : InLimits t
  pub nodes_are : nodes_of a.nodes t.count ≡ d.nodes
  pub numbers_are : NodesStored a.nodes d.nodes
  pub total_is : t.total ≡ total_bits d.nodes
  pub out_is : feeds_of t.has_out t.out ≡ d.feeds
  pub targets_are : targets_of a.nodes t ≡ d.targets
  pub numbers_of_targets : TargetsStored t d.targets
  -- bit b of a segment's word of steering bits
  pub steering_is : (s b : ℕ) → s ≤ max_nodes → b < word_width → word_bit (get_or a.steering s 0) b ≡ steers d.nodes s b
  pub steering_small : Small a.steering
  -- where a segment's start bits come from, and what they are
  pub flag_is : (s : ℕ) → s ≤ max_nodes → get_or a.held s 0 ≡ start_flag d s
  pub start_is : (s : ℕ) → s ≤ max_nodes → (other : List Trit)
      → given_or other d s ≡ cond (eqb (get_or a.held s 0) 0) other (trits_of (len_of (node_at a.nodes s)) (get_or a.bits s 0) (get_or a.known s 0))
  -- the words of start bits; both are 0 without RESET and `hold`
  pub bits_are : (s : ℕ) → get_or a.bits s 0 ≡ bits_word (given_or [] d s)
  pub known_are : (s : ℕ) → get_or a.known s 0 ≡ known_word (given_or [] d s)
  pub sound : Sound d n

abbrev pub empty_summary : Summary
empty_summary = record {
  count = 0;
  total = 0;
  has_out = false;
  out = 0;
  target_count = 0;
  targets = replicate 4 (stored_target no_target);
}

abbrev pub Drafted : Arrays → Summary → ℕ → Type 0
Drafted a t n = (d : Draft) × Represents a t d n

-- what adding a line answers agrees with the model's answer: P of what it gives and the new draft, or the refusal's number and place
abbrev pub Agrees : {A : Type 0} → (A → Draft → Type 0) → Result Draft → Answer A Refusal → Type 0
Agrees P (ok e) (Ok a) = P a e
Agrees P (ok e) (Err r) = ⊥
Agrees P (refused number place) (Ok a) = ⊥
Agrees P (refused number place) (Err r) = (number_of r.kind ≡ number) × (r.place ≡ place)
