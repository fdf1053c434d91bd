-- The text of the configuration that the arrays hold, and what the writer of it returns and leaves.
-- Assumes nothing.
use Rattle.std.specs.Prelude.{◌≡◌, cond, List, [], ℕ, ◌≤◌, length, get_or, Result}
use Rattle.model.specs.Answers.{count_of}
use Rattle.model.specs.Calls.{written, count_of as length_of, if_room}
use Rattle.model.specs.Limits.{max_nodes}
use Rattle.model.specs.Network.{is_segment, len_of}
use Rattle.model.specs.Text.{Bytes}
use Rattle.model.specs.declared.refusal.Refusal.{Refusal}
use Rattle.carry_model.specs.Carry.{hold_line, hold_lines}
use Rattle.network_words.specs.Words.{word_width, trits_of}
use Rattle.network_path.specs.Layout.{node_at, nodes_of, config_of}
use Rattle.network_path.specs.Answers.{ConfigSized}

-- "one `hold` line for each segment in number order": the line of node s; a multiplexer has none
unfoldable pub line_at : List ℕ → List ℕ → List ℕ → ℕ → Bytes
line_at ns bits known s = cond (is_segment (node_at ns s)) (hold_line s (trits_of (len_of (node_at ns s)) (get_or bits s 0) (get_or known s 0))) []

-- the lines of nodes 1 to count
abbrev pub text_at : List ℕ → List ℕ → List ℕ → ℕ → Bytes
text_at ns bits known count = hold_lines (config_of ns bits known count) 1 (nodes_of ns count)

-- ---- their bytes, whatever the bits are

abbrev pub LineLength : List ℕ → ℕ → ℕ → Type 0
LineLength ns s r = (bits known : List ℕ) → r ≡ length (line_at ns bits known s)

abbrev pub TextLength : List ℕ → ℕ → ℕ → Type 0
TextLength ns count r = (bits known : List ℕ) → r ≡ length (text_at ns bits known count)

-- ---- what the writer asks: no segment is longer than a word

pub record InWords (ns : List ℕ) (count : ℕ) : Type 0 where
  pub most : count ≤ max_nodes
  pub short : (s : ℕ) → 1 ≤ s → s ≤ count → len_of (node_at ns s) ≤ word_width

pub record Configured (ns bits known : List ℕ) (count : ℕ) : Type 0 where
  pub in_words : InWords ns count
  pub sized : ConfigSized bits known

-- ---- what it returns and leaves

pub record GivesText (text : Bytes) (out : List ℕ) (r : Result ℕ Refusal) (out' : List ℕ) : Type 0 where
  pub result : count_of r ≡ length_of (if_room (length out) text)
  pub left : out' ≡ written (if_room (length out) text) out
