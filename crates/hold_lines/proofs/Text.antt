-- Laws of a line and of the lines in turn.
-- Assumes nothing.
use mathlib.Core.Path.{◌≡◌, refl, sym, ap, ◌∙◌, subst}
use mathlib.Core.Bool.{Bool, cond, true, false}
use mathlib.Core.List.{List, [], ◌∷◌, ◌++◌, map, append_assoc, append-nil, reverse}
use Prim.Native.Nat.{ℕ, zero, suc, ◌+◌, ◌-◌, ◌≤◌, ◌<◌}
use native.Mathlib.Omega.{arith}
use native.Mathlib.Nat.{add-zero}
use lib.Dec.{eqb, ltb}
use lib.ListN.{length, get_or, length-append, length-map, length-reverse}
use borrow.Author.Tests.{le-ltb}
use Rattle.std.specs.Prelude.{Ok}
use Rattle.model.specs.Network.{segment, multiplexer, Config, at, is_segment, len_of, tabulate}
use Rattle.model.specs.Printed.{number, fields_of, line}
use Rattle.model.specs.Text.{Bytes, bytes, Trit}
use Rattle.model.proofs.Lists.{length_tabulate}
use Rattle.carry_model.specs.Carry.{trit_byte, hold_line, hold_lines}
use Rattle.network_words.specs.Words.{trits_of, trit_at}
use Rattle.network_path.specs.Layout.{field_at, node_at, config_of, inputs_at}
use Rattle.network_path.proofs.ConfigLaws.{at_tabulate}
use Rattle.plan_text.specs.Writing.{write_at}
use Rattle.plan_text.proofs.Writing.{over_is}
use Rattle.program_lines.specs.Puts.{Puts}
use Rattle.program_lines.proofs.Parts.{puts_none, puts_more}
use Rattle.hold_lines.specs.Lines.{line_at, text_at, LineLength, TextLength, GivesText}

-- ---- one line

pub trits_length : (len bits known : ℕ) → length (trits_of len bits known) ≡ len
trits_length len bits known = length_tabulate (trit_at bits known) 0 len

pub bits_length : (ts : List Trit) → length (map trit_byte (reverse ts)) ≡ length ts
bits_length ts = length-map (reverse ts) trit_byte ∙ length-reverse ts

line_parts : (a b : Bytes) → (((bytes "hold\t" ++ a) ++ 9 ∷ []) ++ b) ++ 10 ∷ [] ≡ line "hold" (a ∷ b ∷ [])
unfolding fields_of
line_parts a b = simp append_assoc

pub line_length : (s : ℕ) (ts : List Trit) → length (hold_line s ts) ≡ 7 + length (number s) + length ts
unfolding fields_of
line_length s ts =
    omega (arith, bits_length ts, length-append (number s) (9 ∷ map trit_byte (reverse ts) ++ 10 ∷ []), length-append (map trit_byte (reverse ts)) (10 ∷ []))

-- its parts, each written behind the one before it
pub puts_line : {at number_at number_end start end r : ℕ} {old a b c d new : List ℕ} (s : ℕ) (ts : List Trit) → at + (7 + length (number s) + length ts) ≤ length old
    → (number_at ≡ at + 5) × (a ≡ write_at at (bytes "hold\t") old) → (number_end ≡ number_at + length (number s)) × (b ≡ write_at number_at (number s) a)
    → (start ≡ number_end + 1) × (c ≡ write_at number_end (9 ∷ []) b) → Puts start (map trit_byte (reverse ts)) c end d → (r ≡ end + 1) × (new ≡ write_at end (10 ∷ []) d)
    → Puts at (hold_line s ts) old r new
unfolding fields_of
puts_line {at} {number_at} {number_end} {start} {end} {r} {old} {a} {b} {c} {d} {new} s ts room e f g h k =
    let word : Puts at (bytes "hold\t") old number_at a = record { behind = e.0; holds = e.1 } in
    let digits : Puts number_at (number s) a number_end b = record { behind = f.0; holds = f.1 } in
    let parted : Puts number_end (9 ∷ []) b start c = record { behind = g.0; holds = g.1 } in
    let ended : Puts end (10 ∷ []) d r new = record { behind = k.0; holds = k.1 } in
    let whole = puts_more (puts_more (puts_more (puts_more word digits (omega arith)) parted (omega arith)) h (omega arith)) ended (omega (arith, h.behind, bits_length ts)) in
    rw (line_parts (number s) (map trit_byte (reverse ts))) at whole

pub is_segment_law : (ns : List ℕ) (s kind : ℕ) → kind ≡ field_at ns s 0 → ltb kind 2 ≡ is_segment (node_at ns s)
unfolding node_at
is_segment_law ns s kind is = ap (λ (k : ℕ). ltb k 2) is ∙ go (ltb (field_at ns s 0) 2)
  where
    go : (b : Bool) → b ≡ is_segment (cond b (segment (field_at ns s 1) (field_at ns s 2) (eqb (field_at ns s 0) 1)) (multiplexer (field_at ns s 1) (field_at ns s 2) (inputs_at ns s)))
    go true = refl
    go false = refl

module _ (ns : List ℕ) (s : ℕ) (bits known : List ℕ) where
  pub segment_line : is_segment (node_at ns s) ≡ true → line_at ns bits known s ≡ hold_line s (trits_of (len_of (node_at ns s)) (get_or bits s 0) (get_or known s 0))
  unfolding line_at
  segment_line e = rw e

  pub mux_line_law : is_segment (node_at ns s) ≡ false → line_at ns bits known s ≡ []
  unfolding line_at
  mux_line_law e = rw e

  pub segment_bytes : is_segment (node_at ns s) ≡ true → length (line_at ns bits known s) ≡ 7 + length (number s) + len_of (node_at ns s)
  segment_bytes e =
      let len = len_of (node_at ns s) in
      ap length (segment_line e) ∙ omega (arith, line_length s (trits_of len (get_or bits s 0) (get_or known s 0)), trits_length len (get_or bits s 0) (get_or known s 0))

-- ---- the lines in turn

module _ (ns bits known : List ℕ) where
  -- of n nodes from number k on
  unfoldable pub from : ℕ → ℕ → Bytes
  from k zero = []
  from k (suc n) = line_at ns bits known k ++ from (suc k) n

  from_snoc : (k n : ℕ) → from k (suc n) ≡ from k n ++ line_at ns bits known (k + n)
  unfolding from
  from_snoc k zero = append-nil (line_at ns bits known k) ∙ ap (line_at ns bits known) (sym (add-zero k))
  from_snoc k (suc n) =
      let m : suc k + n ≡ k + suc n = omega arith in
      let f : from (suc k) (suc n) ≡ from (suc k) n ++ line_at ns bits known (suc k + n) = from_snoc (suc k) n in
      ap (λ (l : Bytes). line_at ns bits known k ++ l) (f ∙ ap (λ (i : ℕ). from (suc k) n ++ line_at ns bits known i) m)
      ∙ sym (append_assoc (line_at ns bits known k) (from (suc k) n) (line_at ns bits known (k + suc n)))

  -- of nodes 1 to s - 1
  abbrev pub below : ℕ → Bytes
  below s = from 1 (s - 1)

  below_next : (s : ℕ) → 1 ≤ s → below (s + 1) ≡ below s ++ line_at ns bits known s
  below_next s l =
      let k : s + 1 - 1 ≡ suc (s - 1) = omega arith in
      let m : 1 + (s - 1) ≡ s = omega arith in
      rw k (from_snoc 1 (s - 1) ∙ ap (λ (i : ℕ). below s ++ line_at ns bits known i) m)

  lines_from : (c : Config) (k n : ℕ) → ((j : ℕ) → j < n → at c (k + j) [] ≡ trits_of (len_of (node_at ns (k + j))) (get_or bits (k + j) 0) (get_or known (k + j) 0))
      → hold_lines c k (tabulate (node_at ns) k n) ≡ from k n
  unfolding from hold_lines line_at
  lines_from c k zero e = refl
  lines_from c k (suc n) e =
      let here : at c k [] ≡ trits_of (len_of (node_at ns k)) (get_or bits k 0) (get_or known k 0) = rw (add-zero k) at (e 0 (omega arith)) in
      let rest : hold_lines c (suc k) (tabulate (node_at ns) (suc k) n) ≡ from (suc k) n = lines_from c (suc k) n (λ j h. let q : k + suc j ≡ suc k + j = omega arith in
      subst (λ (i : ℕ). at c i [] ≡ trits_of (len_of (node_at ns i)) (get_or bits i 0) (get_or known i 0)) q (e (suc j) (omega arith))) in
      ap (λ (ts : List Trit). cond (is_segment (node_at ns k)) (hold_line k ts) [] ++ hold_lines c (suc k) (tabulate (node_at ns) (suc k) n)) here
      ∙ ap (λ (l : Bytes). line_at ns bits known k ++ l) rest

  -- s is behind the last node
  text_is : (count s : ℕ) → count < s → s ≤ count + 1 → text_at ns bits known count ≡ below s
  unfolding config_of
  text_is count s l h =
      let k : count ≡ s - 1 = omega arith in
      lines_from (config_of ns bits known count) 1 count (λ j h. at_tabulate _ count (1 + j) [] (omega arith) (omega arith)) ∙ ap (from 1) k

-- ---- their bytes, whatever the bits are

abbrev pub BytesBelow : List ℕ → ℕ → ℕ → Type 0
BytesBelow ns s sum = (bits known : List ℕ) → sum ≡ length (below ns bits known s)

pub bytes_none : (ns : List ℕ) → BytesBelow ns 1 0
unfolding from
bytes_none ns bits known = refl

pub bytes_more : (ns : List ℕ) (s sum more : ℕ) → 1 ≤ s → BytesBelow ns s sum → LineLength ns s more → BytesBelow ns (s + 1) (sum + more)
bytes_more ns s sum more h u l bits known =
    omega (arith, u bits known, l bits known, ap length (below_next ns bits known s h), length-append (below ns bits known s) (line_at ns bits known s))

pub bytes_all : (ns : List ℕ) (count s sum : ℕ) → count < s → s ≤ count + 1 → BytesBelow ns s sum → TextLength ns count sum
bytes_all ns count s sum l h u bits known = u bits known ∙ ap length (sym (text_is ns bits known count s l h))

-- ---- the lines of nodes 1 to s - 1 are written, and the next place is behind them

pub record PutLines (ns bits known out₀ : List ℕ) (s at : ℕ) (out : List ℕ) : Type 0 where
  pub puts : Puts 0 (below ns bits known s) out₀ at out
  pub kept : length out ≡ length out₀

module _ (ns bits known out₀ : List ℕ) where
  pub written_none : PutLines ns bits known out₀ 1 0 out₀
  unfolding from
  written_none = record { puts = puts_none 0 out₀; kept = refl }

  -- the lines below s are not longer than those below a larger number
  below_longer : (s more : ℕ) → 1 ≤ s → length (below ns bits known s) ≤ length (below ns bits known (s + more))
  below_longer s zero h = rw (add-zero s) (omega arith)
  below_longer s (suc more) h =
      let k : s + suc more ≡ s + more + 1 = omega arith in
      rw k (omega (arith, below_longer s more h, ap length (below_next ns bits known (s + more) (omega arith)), length-append (below ns bits known (s + more)) (line_at ns bits known (s + more))))

  module _ (count s at : ℕ) (out : List ℕ) (w : PutLines ns bits known out₀ s at out) (least : 1 ≤ s) (more : s ≤ count) (room : length (text_at ns bits known count) ≤ length out₀) where
    -- room for the next line
    pub line_fits : at + length (line_at ns bits known s) ≤ length out
    line_fits =
        let m : s + 1 + (count - s) ≡ count + 1 = omega arith in
        let l = below_longer (s + 1) (count - s) (omega arith) in
        omega (
          arith,
          rw m at l,
          w.puts.behind,
          w.kept,
          room,
          ap length (text_is ns bits known count (count + 1) (omega arith) (omega arith)),
          ap length (below_next ns bits known s least),
          length-append (below ns bits known s) (line_at ns bits known s),
        )

    pub written_more : (at' : ℕ) (out' : List ℕ) → Puts at (line_at ns bits known s) out at' out' → length out' ≡ length out → PutLines ns bits known out₀ (s + 1) at' out'
    written_more at' out' p kept = record { puts = rw (below_next ns bits known s least) (puts_more w.puts p (omega (arith, line_fits, w.kept))); kept = kept ∙ w.kept }

  pub written_all : (count s at : ℕ) (out : List ℕ) → count < s → s ≤ count + 1 → PutLines ns bits known out₀ s at out → out ≡ write_at 0 (text_at ns bits known count) out₀
  written_all count s at out l h w = w.puts.holds ∙ ap (λ (t : Bytes). write_at 0 t out₀) (sym (text_is ns bits known count s l h))

-- ---- the answer

pub enough : (text out out' : List ℕ) (needed : ℕ) → needed ≡ length text → needed ≤ length out → out' ≡ write_at 0 text out → GivesText text out (Ok needed) out'
enough text out out' needed e h w = let b : ltb (length out) (length text) ≡ false = le-ltb (length out) (length text) (omega (arith, h)) in
    record { result = rw (b, e); left = rw b (w ∙ sym (over_is text out)) }
