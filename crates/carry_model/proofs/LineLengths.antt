-- How many bytes a line that is read has, by what it says.
-- Assumes nothing.
use mathlib.Core.Path.{◌≡◌, refl, sym, ap, ◌∙◌}
use mathlib.Core.Bool.{Bool, true, false, cond, not, ◌&&◌}
use Rattle.std.specs.Prelude.{Option, None as none, Some as some}
use mathlib.Core.List.{List, [], ◌∷◌}
use Prim.Native.Nat.{ℕ, zero, suc, ◌+◌, ◌*◌, ◌≤◌, ◌<◌}
use native.Mathlib.Omega.{arith}
use lib.ListN.{length, drop, length-append, length-drop}
use lib.Dec.{leb}
use borrow.Author.Tests.{leb-true, not-false}
use Rattle.model.specs.Network.{segment, Node, Target, read, write, len_of}
use Rattle.model.specs.NetworkText.{field, Reset, reset_field, bad_reset, Line, node, out, hold, target, kind, decimals, line_of}
use Rattle.model.specs.Text.{Bytes, bytes, tab, fields, is_empty, leading_zero, digits_from, decimal, LineWord, Seg, Mux, Out, Read, Write, word_of, same, bit, trit, bits_from, bits_field}
use Rattle.model.proofs.LineForms.{bound, if_some, SegForm, MuxForm, NumberForm, BitsForm, line_form}
use Rattle.model.proofs.Lists.{eqb_is, and_parts, none_some, some_same}
use Rattle.model.proofs.PlanTexts.{joined, parts_joined, parts_more, same_is}
use Rattle.carry_model.proofs.WordLines.{spelled, word_spelled}

-- ---- a line's bytes, by its fields: with its end, one more for each

unfoldable width : List Bytes → ℕ
width [] = 0
width (f ∷ fs) = suc (length f) + width fs

joined_width : (sep : ℕ) (f : Bytes) (fs : List Bytes) → suc (length (joined sep (f ∷ fs))) ≡ width (f ∷ fs)
unfolding joined width
joined_width sep f [] = omega arith
joined_width sep f (g ∷ fs) = let r = joined_width sep g fs in omega (arith, length-append f (sep ∷ joined sep (g ∷ fs)))

line_width : (l : Bytes) → suc (length l) ≡ width (fields l)
line_width l =
    let m = parts_more tab l in
    ap (λ (x : Bytes). suc (length x)) (sym (parts_joined tab l) ∙ ap (joined tab) m.2) ∙ joined_width tab m.0 m.1 ∙ ap width (sym m.2)

-- field k, and those behind it
width_field : (k : ℕ) (fs : List Bytes) → k < length fs → width (drop k fs) ≡ suc (length (field fs k)) + width (drop (suc k) fs)
unfolding width
width_field k [] l = absurd (omega arith)
width_field zero (f ∷ fs) l = refl
width_field (suc k) (f ∷ fs) l = width_field k fs (omega arith)

width_none : (fs : List Bytes) → length fs ≡ 0 → width fs ≡ 0
unfolding width
width_none [] e = refl
width_none (f ∷ fs) e = absurd (omega arith)

-- ---- fields

decimal_short : (f : Bytes) (v : ℕ) → decimal f ≡ some v → length f ≤ 4
unfolding decimal
decimal_short f v e =
    let a = if_some (leb 1 (length f) && leb (length f) 4 && not (leading_zero f)) (digits_from 0 f) v e in
    let b = and_parts (leb 1 (length f) && leb (length f) 4) (not (leading_zero f)) a.0 in
    leb-true (length f) 4 (and_parts (leb 1 (length f)) (leb (length f) 4) b.0).1

decimals_width : (fs : List Bytes) (ns : List ℕ) → decimals fs ≡ some ns → width fs ≤ 5 * length fs
unfolding decimals width
decimals_width [] ns e = omega arith
decimals_width (f ∷ fs) ns e =
    let a = bound (decimal f) _ ns e in
    let b = bound (decimals fs) _ ns a.then in
    omega (arith, decimal_short f a.value a.given, decimals_width fs b.value b.given)

kind_short : (f : Bytes) (s : Bool) → kind f ≡ some s → length f ≤ 1
kind_short f s e = go (same f (bytes "s")) refl (same f (bytes "p")) refl e
  where
    go : (a : Bool) → same f (bytes "s") ≡ a → (b : Bool) → same f (bytes "p") ≡ b → cond a (some true) (cond b (some false) none) ≡ some s → length f ≤ 1
    go true p b q g = let z : length f ≡ 1 = ap length (same_is f (bytes "s") p) in omega arith
    go false p true q g = let z : length f ≡ 1 = ap length (same_is f (bytes "p") q) in omega arith
    go false p false q g = absurd (none_some s g)

bits_from_law : {A : Type 0} (bit_at : ℕ → Option A) (above : List A) (f : Bytes) (bs : List A) → bits_from bit_at above f ≡ some bs → length bs ≡ length above + length f
unfolding bits_from
bits_from_law bit_at above [] bs e = ap length (sym (some_same above bs e)) ∙ omega arith
bits_from_law bit_at above (b ∷ f) bs e = let a = bound (bit_at b) _ bs e in bits_from_law bit_at (a.value ∷ above) f bs a.then ∙ omega arith

-- as many bytes as bits
bits_length : {A : Type 0} (bit_at : ℕ → Option A) (f : Bytes) (bs : List A) → bits_field bit_at f ≡ some bs → length f ≡ length bs
bits_length bit_at f bs e = let z = bits_from_law bit_at [] f bs (go (is_empty f) e) in omega arith
  where
    go : (t : Bool) → cond t none (bits_from bit_at [] f) ≡ some bs → bits_from bit_at [] f ≡ some bs
    go true q = absurd (none_some bs q)
    go false q = q

reset_width : (fs : List Bytes) (x : Node) (v : Reset) → length fs ≤ 1 → reset_field fs ≡ some v → bad_reset x v ≡ false → width fs ≤ suc (len_of x)
unfolding width
reset_width [] x v l e fit = omega arith
reset_width (f ∷ []) x v l e fit =
    let a = bound (bits_field trit f) _ v e in
    let n : length a.value ≡ len_of x = eqb_is (length a.value) (len_of x) (not-false _ (ap (bad_reset x) (some_same _ v a.then) ∙ fit)) in
    omega (arith, bits_length trit f a.value a.given)
reset_width (f ∷ g ∷ fs) x v l e fit = absurd (omega arith)

-- ---- lines

word_length : (fs : List Bytes) (w : LineWord) → word_of (field fs 0) ≡ some w → length (field fs 0) ≡ length (spelled w)
word_length fs w e = ap length (word_spelled (field fs 0) w e)

seg_width : (fs : List Bytes) (from len : ℕ) (shadow : Bool) (v : Reset) → SegForm fs from len shadow v → bad_reset (segment from len shadow) v ≡ false → width fs ≤ 34 + len
seg_width fs from len shadow v f fit =
    let lo = f.least in
    let hi = f.most in
    let w = word_length fs Seg f.word in
    let a = decimal_short (field fs 1) from f.of_from in
    let b = decimal_short (field fs 2) len f.of_len in
    let c = kind_short (field fs 3) shadow f.of_kind in
    let d = reset_width (drop 4 fs) (segment from len shadow) v (let q = length-drop 4 fs in omega arith) f.of_reset fit in
    omega (arith, width_field 0 fs (omega arith), width_field 1 fs (omega arith), width_field 2 fs (omega arith), width_field 3 fs (omega arith))

mux_width : (fs : List Bytes) (s b : ℕ) (ins : List ℕ) → MuxForm fs s b ins → width fs ≤ 34
mux_width fs s b ins f =
    let lo = f.least in
    let hi = f.most in
    let w = word_length fs Mux f.word in
    let a = decimal_short (field fs 1) s f.of_seg in
    let c = decimal_short (field fs 2) b f.of_bit in
    let d = decimals_width (drop 3 fs) ins f.of_inputs in
    omega (arith, length-drop 3 fs, width_field 0 fs (omega arith), width_field 1 fs (omega arith), width_field 2 fs (omega arith))

number_width : (fs : List Bytes) (w : LineWord) (n : ℕ) → NumberForm fs w n → width fs ≤ 6 + length (spelled w)
number_width fs w n f =
    let l = f.two in
    let q = word_length fs w f.word in
    let a = decimal_short (field fs 1) n f.of_number in
    omega (arith, width_field 0 fs (omega arith), width_field 1 fs (omega arith), width_none (drop 2 fs) (length-drop 2 fs ∙ omega arith))

bits_width : {A : Type 0} (fs : List Bytes) (w : LineWord) (bit_at : ℕ → Option A) (s : ℕ) (bs : List A) → BitsForm fs w bit_at s bs → width fs ≤ 7 + length (spelled w) + length bs
bits_width fs w bit_at s bs f =
    let l = f.three in
    let q = word_length fs w f.word in
    let a = decimal_short (field fs 1) s f.of_seg in
    let b = bits_length bit_at (field fs 2) bs f.of_bits in
    omega (arith, width_field 0 fs (omega arith), width_field 1 fs (omega arith), width_field 2 fs (omega arith), width_none (drop 3 fs) (length-drop 3 fs ∙ omega arith))

-- the bits of a target's line
abbrev pub target_bits : Target → ℕ
target_bits (read s) = 0
target_bits (write s bs) = length bs

-- the bytes of a line without its end
abbrev pub LineFits : ℕ → Line → Type 0
LineFits n (node x v) = bad_reset x v ≡ false → n ≤ 33 + len_of x
LineFits n (out k) = n ≤ 8
LineFits n (hold s bs) = Unit {0}
LineFits n (target t) = n ≤ 11 + target_bits t

pub line_bytes : (l : Bytes) (line : Line) → line_of l ≡ some line → LineFits (length l) line
line_bytes l = line_form (LineFits (length l)) l record {
  of_seg = λ from len shadow v f fit. let a = seg_width (fields l) from len shadow v f fit in omega (arith, line_width l);
  of_mux = λ s b ins f fit. let a = mux_width (fields l) s b ins f in omega (arith, line_width l);
  of_out = λ n f. let a = number_width (fields l) Out n f in omega (arith, line_width l);
  of_hold = λ s bs f. tt;
  of_write = λ s bs f. let a = bits_width (fields l) Write bit s bs f in omega (arith, line_width l);
  of_read = λ s f. let a = number_width (fields l) Read s f in omega (arith, line_width l);
}
