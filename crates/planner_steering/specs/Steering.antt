-- The list of the steering bits, by segment and bit, and what the words hold of a setting.
-- Assumes nothing.
use Rattle.std.specs.Prelude.{◌≡◌, cond, ◌&&◌, ◌||◌, ℕ, zero, suc, ◌≤◌, ◌<◌, eqb, ltb, length, get_or}
use mathlib.Core.List.{List, [], ◌∷◌, ◌++◌, Memᴰ}
use Rattle.model.specs.Limits.{max_nodes}
use Rattle.model.specs.Network.{tabulate, steers, steering_bits}
use Rattle.network_words.specs.Words.{word_width, word_bit}
use Rattle.network_path.specs.Layout.{nodes_of, look_in}
use Rattle.network_path.specs.Answers.{ConfigSized}
use Rattle.network_draft.specs.declared.store.Summary.{Summary}
use Rattle.network_draft.specs.Represents.{Short}
use Rattle.planner_theory.specs.Settings.{Distinct, look_up}
use Rattle.planner_steering.specs.declared.Problem.{Problem}
use Rattle.planner_steering.specs.declared.SteeringBit.{SteeringBit}

-- ---- the list

abbrev pub no_bit : SteeringBit
no_bit = record { segment = 0; bit = 0 }

-- steering bit j by its segment and the bit there
abbrev pub segment_at : List SteeringBit → ℕ → ℕ
segment_at listed j = (get_or listed j no_bit).segment

abbrev pub bit_number : List SteeringBit → ℕ → ℕ
bit_number listed j = (get_or listed j no_bit).bit

abbrev pub pair_at : List SteeringBit → ℕ → ℕ × ℕ
pair_at listed j = (segment_at listed j, bit_number listed j)

-- the first k
abbrev pub bits_of : List SteeringBit → ℕ → List (ℕ × ℕ)
bits_of listed k = tabulate (pair_at listed) 0 k

-- the steering bits of a problem
abbrev pub steering_of : Problem → List (ℕ × ℕ)
steering_of p = bits_of p.steering p.width

-- the bits that are set in the word of segment s, from bit b on, among n bits
unfoldable pub marked_in : ℕ → ℕ → ℕ → ℕ → List (ℕ × ℕ)
marked_in w s b zero = []
marked_in w s b (suc n) = let later = marked_in w s (suc b) n in cond (word_bit w b) ((s, b) ∷ later) later

-- the first n, then these, are now the first r
pub record Behind (old : List SteeringBit) (n : ℕ) (more : List (ℕ × ℕ)) (new : List SteeringBit) (r : ℕ) : Type 0 where
  pub lists : bits_of new r ≡ bits_of old n ++ more
  pub sized : length new ≡ 6

-- words of steering bits of nodes 1 to count: each bit of a segment that steers is set, and there are at most 6
pub record Steered (ns steering : List ℕ) (count : ℕ) : Type 0 where
  pub most : count ≤ max_nodes
  pub short : Short ns count
  pub steering_is : (s b : ℕ) → s ≤ max_nodes → b < word_width → word_bit (get_or steering s 0) b ≡ steers (nodes_of ns count) s b
  pub few : length (steering_bits (nodes_of ns count)) ≤ 6

-- these counts and targets, with the steering bits of the nodes
pub record ProblemOf (ns : List ℕ) (t : Summary) (p : Problem) : Type 0 where
  pub summary_is : p.summary ≡ t
  pub bits_are : steering_of p ≡ steering_bits (nodes_of ns t.count)
  pub few : p.width ≤ 6

-- ---- words for a setting

-- each is the number of a node
abbrev pub Within : List SteeringBit → ℕ → Type 0
Within listed k = (j : ℕ) → j < k → segment_at listed j ≤ max_nodes

-- distinct bits within the words
pub record SteeringListed (p : Problem) : Type 0 where
  pub few : p.width ≤ 6
  pub within : Within p.steering p.width
  pub inside : (j : ℕ) → j < p.width → bit_number p.steering j < word_width
  pub distinct : Distinct (steering_of p)

pub record Cleared (listed : List SteeringBit) (k : ℕ) (bits known : List ℕ) : Type 0 where
  pub sized : ConfigSized bits known
  pub words : (j : ℕ) → j < k → get_or bits (segment_at listed j) 0 ≡ 0
  pub marks : (j : ℕ) → j < k → get_or known (segment_at listed j) 0 ≡ 0

-- bit b of segment s has the digit d besides
pub record DigitSet (bits known : List ℕ) (s b d : ℕ) (bits' known' : List ℕ) : Type 0 where
  pub sized : ConfigSized bits' known'
  pub words : (r c : ℕ) → r ≤ max_nodes → c < word_width → word_bit (get_or bits' r 0) c ≡ (word_bit (get_or bits r 0) c || (eqb d 1 && (eqb s r && eqb b c)))
  pub marks : (r c : ℕ) → r ≤ max_nodes → c < word_width → word_bit (get_or known' r 0) c ≡ (word_bit (get_or known r 0) c || (ltb d 2 && (eqb s r && eqb b c)))

-- the words hold setting x of these steering bits
pub record SetTo (sb : List (ℕ × ℕ)) (x : ℕ) (bits known : List ℕ) : Type 0 where
  pub sized : ConfigSized bits known
  pub holds : (s b : ℕ) → Memᴰ (s, b) sb → look_in bits known s b ≡ look_up sb x s b
