-- What storing a node leaves in the arrays.
-- Assumes nothing.
use Rattle.std.specs.Prelude.{◌≡◌, Bool, false, cond, not, ◌&&◌, ◌||◌, List, ℕ, ◌^◌, ◌≤◌, ◌<◌, length, get_or, set, eqb}
use Rattle.model.specs.Limits.{max_nodes}
use Rattle.model.specs.Text.{Bytes}
use Rattle.model.specs.Network.{Node, steers_at}
use Rattle.network_words.specs.Words.{word_width, word_bit, byte_bit, word_from, byte_known}
use Rattle.network_path.specs.Layout.{field_at}

-- node k has these eight numbers, and every other node its own
pub record NumbersStored (ns : List ℕ) (k : ℕ) (numbers ns' : List ℕ) : Type 0 where
  pub size : length ns' ≡ length ns
  pub here : (i : ℕ) → i < 8 → field_at ns' k i ≡ get_or numbers i 0
  pub others : (j i : ℕ) → (j ≡ k → ⊥) → i < 8 → field_at ns' j i ≡ field_at ns j i

-- a RESET of so many bits, where 0 stands for none, is no RESET of a segment of len bits
abbrev pub unfit_reset : ℕ → ℕ → Bool
unfit_reset reset len = cond (eqb reset 0) false (not (eqb reset len))

-- where a segment's start bits come from, by BY_HOLD and BY_RESET
abbrev pub by_hold : ℕ
by_hold = 1

abbrev pub by_reset : ℕ
by_reset = 2

-- behind the line of the segment, whose RESET has so many bits
abbrev pub reset_flag : ℕ → ℕ
reset_flag reset = cond (eqb reset 0) 0 by_reset

-- node s has the two words of this field, and this flag
pub record StartStored (bits known held : List ℕ) (s : ℕ) (f : Bytes) (flag : ℕ) (bits' known' held' : List ℕ) : Type 0 where
  pub bits_are : bits' ≡ set bits s (word_from byte_bit 0 f)
  pub known_are : known' ≡ set known s (word_from byte_known 0 f)
  pub flags_are : held' ≡ set held s flag

-- each number fits a word
abbrev pub Small : List ℕ → Type 0
Small ws = (r : ℕ) → get_or ws r 0 < 2 ^ word_width

-- the words of steering bits with one bit more
pub record BitMarked (old : List ℕ) (s b : ℕ) (new : List ℕ) : Type 0 where
  pub size : length new ≡ length old
  pub marks : (r c : ℕ) → r ≤ max_nodes → c < word_width → word_bit (get_or new r 0) c ≡ (word_bit (get_or old r 0) c || (eqb s r && eqb b c))
  pub small : Small old → Small new

-- and with the address bits of a node
pub record Marked (old : List ℕ) (x : Node) (new : List ℕ) : Type 0 where
  pub size : length new ≡ length old
  pub marks : (r c : ℕ) → r ≤ max_nodes → c < word_width → word_bit (get_or new r 0) c ≡ (word_bit (get_or old r 0) c || steers_at x r c)
  pub small : Small old → Small new
