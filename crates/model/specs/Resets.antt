-- What document 02, Change 1, "Reset bits in the segment line", promises; proofs/Requests.antt proves it.
-- Assumes nothing.
use Rattle.std.specs.Prelude.{◌≡◌, false, ◌↔◌, ℕ, suc, ◌+◌, length, replicate, leb, ltb}
use Rattle.std.specs.Prelude.{Option, None as none, Some as some}
use mathlib.Core.List.{List, [], ◌∷◌, Memᴰ}
use Rattle.model.specs.Limits.{max_nodes, max_bits, max_network_bytes, max_len}
use Rattle.model.specs.Refusals as refusal
use Rattle.model.specs.Result.{Result, ok, refused, refuse_if, and_then}
use Rattle.model.specs.Text.{Bytes, bind, parts, fields, lines_of, line_end, decimal, LineWord, Seg, Mux, Out, Hold, Write, Read, Csu, word_of, Trit, trit, bits_field}
use Rattle.model.specs.Network.{Node, segment, Config, Network, at, len_of, total_bits, map_from, is_steering, Held, held_or, start_bit, silent_bits}
use Rattle.model.specs.Path.{walk}
use Rattle.model.specs.NetworkText.{Line, node, out, hold, target, field, if_fields, kind, line_by, line_of, Draft, has_out, outside, with_node, add_line, at_end, if_starts, no_lines, read_up_to, read_network}

-- ---- "A `seg` line gets a last field RESET, LEN characters of `0`, `1` or `X`, highest bit first"

-- it is read as the BITS of a `hold` line are; in another form the line is wrong
pub record ResetRead (l : Bytes) : Type 0 where
  pub written : (x : Node) (bs : List Trit) → line_of l ≡ some (node x (some bs)) → (length (fields l) ≡ 5) × (bits_field trit (field (fields l) 4) ≡ some bs)
  pub wrong : word_of (field (fields l) 0) ≡ some Seg → length (fields l) ≡ 5 → bits_field trit (field (fields l) 4) ≡ none → line_of l ≡ none

abbrev pub ResetsRead : Type 0
ResetsRead = (l : Bytes) → ResetRead l

-- ---- "and a segment without a `hold` line starts from it"

-- no line of the text holds segment s
abbrev pub NotHeld : Bytes → ℕ → Type 0
NotHeld t s = (l : Bytes) (bs : List Trit) → Memᴰ l (lines_of t) → line_of l ≡ some (hold s bs) → ⊥

-- where the start bits of an accepted text come from; "Its number is its line number"
pub record StartBits (t : Bytes) (net : Network) : Type 0 where
  pub reset : (s : ℕ) (x : Node) (bs : List Trit) → line_of (at (lines_of t) s []) ≡ some (node x (some bs)) → NotHeld t s → at net.start s [] ≡ bs
  -- "the silent 0 or X", where there is neither
  pub silent : (s : ℕ) (x : Node) → line_of (at (lines_of t) s []) ≡ some (node x none) → NotHeld t s
      → at net.start s [] ≡ silent_bits net.nodes s (len_of x)
  -- a `hold` line replaces the whole RESET
  pub held : (l : Bytes) (s : ℕ) (bs : List Trit) → Memᴰ l (lines_of t) → line_of l ≡ some (hold s bs) → at net.start s [] ≡ bs

abbrev pub ResetStarts : Type 0
ResetStarts = (t : Bytes) (net : Network) → read_network t ≡ ok net → StartBits t net

-- ---- "the old form is still read as before"

-- the reader without RESET: `seg FROM LEN KIND` alone, no 18, and a start of 0 or X and `hold` lines; with `most` as the greatest LEN
unfoldable pub seg_line_without_reset : List Bytes → Option Line
seg_line_without_reset fs = if_fields 4 fs
    (bind (decimal (field fs 1)) (λ from. bind (decimal (field fs 2)) (λ len. bind (kind (field fs 3)) (λ shadow. some (node (segment from len shadow) none)))))

abbrev pub line_by_without_reset : List Bytes → LineWord → Option Line
line_by_without_reset fs Seg = seg_line_without_reset fs
line_by_without_reset fs Mux = line_by fs Mux
line_by_without_reset fs Out = line_by fs Out
line_by_without_reset fs Hold = line_by fs Hold
line_by_without_reset fs Write = line_by fs Write
line_by_without_reset fs Read = line_by fs Read
line_by_without_reset fs Csu = line_by fs Csu

unfoldable pub line_without_reset : Bytes → Option Line
line_without_reset l = bind (word_of (field (fields l) 0)) (line_by_without_reset (fields l))

-- 4, 2, 3
abbrev pub add_node_without_reset : ℕ → Draft → ℕ → Node → Result Draft
add_node_without_reset most d n x =
    refuse_if (has_out d) refusal.order n
    (refuse_if (outside most n x) refusal.bounds n
    (refuse_if (leb max_nodes (length d.nodes)) refusal.size n
    (refuse_if (ltb max_bits (total_bits d.nodes + len_of x)) refusal.size n
    (ok (with_node d x none)))))

abbrev pub add_line_without_reset : ℕ → Draft → ℕ → Option Line → Result Draft
add_line_without_reset most d n none = add_line most d n none
add_line_without_reset most d n (some (node x v)) = add_node_without_reset most d n x
add_line_without_reset most d n (some (out k)) = add_line most d n (some (out k))
add_line_without_reset most d n (some (hold s bs)) = add_line most d n (some (hold s bs))
add_line_without_reset most d n (some (target t)) = add_line most d n (some (target t))

unfoldable pub read_lines_without_reset : ℕ → Draft → ℕ → List Bytes → Result (ℕ × Draft)
read_lines_without_reset most d n [] = ok (n, d)
read_lines_without_reset most d n (l ∷ []) = at_end (n, d) refusal.form l n
read_lines_without_reset most d n (l ∷ m ∷ ls) = and_then (add_line_without_reset most d n (line_without_reset l)) (λ e. read_lines_without_reset most e (suc n) (m ∷ ls))

unfoldable pub start_without_reset : List Node → List Held → Config
start_without_reset ns hs = map_from 1 (λ s n. held_or (replicate (len_of n) (start_bit (is_steering ns s))) hs s) ns

abbrev pub network_without_reset : Draft → ℕ → Network
network_without_reset d k = record { nodes = d.nodes; out = k; start = start_without_reset d.nodes d.holds; targets = d.targets }

abbrev pub finish_without_reset : ℕ → Draft → Option ℕ → Result Network
finish_without_reset n d none = refused refusal.order n
finish_without_reset n d (some k) = if_starts (network_without_reset d k) (walk (network_without_reset d k) (network_without_reset d k).start)

unfoldable pub read_without_reset : ℕ → Bytes → Result Network
read_without_reset most t =
    refuse_if (ltb max_network_bytes (length t)) refusal.size 0
    (and_then (read_lines_without_reset most no_lines 1 (parts line_end t)) (λ r. finish_without_reset r.0 r.1 r.1.feeds))

-- no line that opens with `seg` has five fields
abbrev pub OldForm : Bytes → Type 0
OldForm t = (l : Bytes) → Memᴰ l (lines_of t) → word_of (field (fields l) 0) ≡ some Seg → length (fields l) ≡ 5 → ⊥

-- the same network, or the same refusal at the same place
abbrev pub ReadAsBefore : Type 0
ReadAsBefore = (most : ℕ) (t : Bytes) → OldForm t → read_up_to most t ≡ read_without_reset most t

-- so every text that was accepted is accepted, as the same network
abbrev pub AcceptedAsBefore : Type 0
AcceptedAsBefore = (most : ℕ) (t : Bytes) (net : Network) → read_without_reset most t ≡ ok net → read_up_to most t ≡ ok net

-- ---- "It refuses with 18, at the line and directly after 2, a RESET whose length is not LEN."

-- a line that 4 and 2 do not refuse, with such a RESET
pub record WrongReset (d : Draft) (n : ℕ) (line : Option Line) : Type 0 where
  pub new_node : Node
  pub its_reset : List Trit
  pub says : line ≡ some (node new_node (some its_reset))
  pub in_order : has_out d ≡ false
  pub within : outside max_len n new_node ≡ false
  pub wrong : length its_reset ≡ len_of new_node → ⊥

-- so before 3, whatever has been read, and for nothing else
abbrev pub ResetRefused : Type 0
ResetRefused = (d : Draft) (n : ℕ) (line : Option Line) (place : ℕ) → (add_line max_len d n line ≡ refused refusal.reset_length place) ↔ (WrongReset d n line × (place ≡ n))
