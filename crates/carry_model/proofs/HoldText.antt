-- The printed `hold` lines: each is read back as the segment's number and bits, and how many bytes they have.
-- Assumes nothing.
use mathlib.Core.Path.{◌≡◌, refl, sym, ap, ◌∙◌}
use mathlib.Core.Bool.{Bool, true, false, cond, ◌&&◌}
use Rattle.std.specs.Prelude.{Option, None as none, Some as some}
use mathlib.Core.List.{List, [], ◌∷◌, ◌++◌, map, reverse, reverse_aux, append-nil}
use Prim.Native.Nat.{ℕ, zero, suc, ◌+◌, ◌*◌, ◌/◌, ◌%◌, ◌≤◌, ◌<◌}
use native.Mathlib.Omega.{arith}
use native.Mathlib.Decide.{ℕ_discrete}
use native.Mathlib.Nat.{add-zero, suc-add, add-suc, not-suc-le-zero}
use lib.ListN.{length, get_or, length-append, length-map, length-reverse}
use lib.Dec.{eqb, leb, ltb}
use borrow.Author.Tests.{leb-true}
use Rattle.model.specs.Limits.{max_nodes}
use Rattle.model.specs.Network.{Node, Config, Held, at, no_node, is_segment, len_of, total_bits}
use Rattle.model.specs.NetworkText.{field, hold, bits_line, line_by, line_of}
use Rattle.model.specs.Printed.{digits_of, number}
use Rattle.model.specs.Text.{Bytes, bytes, tab, line_end, bind, is_empty, fields, lines_of, digits_from, decimal, same, word_of, Trit, trit, bits_from, bits_field}
use Rattle.model.proofs.FieldLines.{two_fields, two_fields_law, two_free, two_length, two_printed}
use Rattle.model.proofs.Lists.{eqb_below, eqb_is, and_parts, true_false, every_map}
use Rattle.model.proofs.PlanTexts.{Free}
use Rattle.carry_model.specs.Carry.{trit_byte, hold_line, hold_lines}
use Rattle.carry_model.specs.Continued.{text_of_lines, is_hold}
use Rattle.carry_model.proofs.TextLines.{text_lines}

-- ---- the bytes of numbers and bits: none is a tab or a line end

abbrev High : Bytes → Type 0
High [] = Unit {0}
High (b ∷ bs) = (48 ≤ b) × High bs

high_free : (sep : ℕ) → sep < 48 → (bs : Bytes) → High bs → Free sep bs
high_free sep l [] h = tt
high_free sep l (b ∷ bs) h = let a : 48 ≤ b = h.0 in (eqb_below b sep (omega arith), high_free sep l bs h.1)

digits_high : (f n : ℕ) (rest : Bytes) → High rest → High (digits_of f n rest)
unfolding digits_of
digits_high zero n rest h = h
digits_high (suc f) n rest h = go (ltb n 10) (digits_high f (n / 10) ((48 + n % 10) ∷ rest) (omega arith, h))
  where
    go : (t : Bool) → High (digits_of f (n / 10) ((48 + n % 10) ∷ rest)) → High (cond t ((48 + n) ∷ rest) (digits_of f (n / 10) ((48 + n % 10) ∷ rest)))
    go true r = (omega arith, h)
    go false r = r

number_free : (sep n : ℕ) → sep < 48 → Free sep (number n)
number_free sep n l = high_free sep l (number n) (digits_high (suc n) n [] tt)

bits_high : (ts : List Trit) → High (map trit_byte ts)
bits_high [] = tt
bits_high (none ∷ ts) = (omega arith, bits_high ts)
bits_high (some true ∷ ts) = (omega arith, bits_high ts)
bits_high (some false ∷ ts) = (omega arith, bits_high ts)

-- ---- numbers of nodes: each is read back, and has three digits at most

is_number : Option ℕ → ℕ → Bool
is_number none n = false
is_number (some v) n = eqb v n

all_below : ℕ → Bool
all_below zero = true
all_below (suc n) = is_number (decimal (number n)) n && leb (length (number n)) 3 && all_below n

record NodeNumber (n : ℕ) : Type 0 where
  back : decimal (number n) ≡ some n
  digits : length (number n) ≤ 3

number_is : (o : Option ℕ) (n : ℕ) → is_number o n ≡ true → o ≡ some n
unfolding is_number
number_is none n e = absurd (true_false (sym e))
number_is (some v) n e = ap some (eqb_is v n e)

below_is : (k n : ℕ) → all_below k ≡ true → n < k → NodeNumber n
unfolding all_below
below_is zero n e l = absurd (not-suc-le-zero l)
below_is (suc k) n e l =
    let a = and_parts (is_number (decimal (number k)) k && leb (length (number k)) 3) (all_below k) e in
    let b = and_parts (is_number (decimal (number k)) k) (leb (length (number k)) 3) a.0 in
    go (ℕ_discrete n k) record { back = number_is (decimal (number k)) k b.0; digits = leb-true (length (number k)) 3 b.1 } (λ h. below_is k n a.1 h)
  where
    go : Dec (n ≡ k) → NodeNumber k → (n < k → NodeNumber n) → NodeNumber n
    go (yes q) here f = rw q here
    go (no q) here f = f (omega arith)

nodes_below : all_below 129 ≡ true
unfolding all_below is_number decimal digits_from digits_of
nodes_below = refl

node_number : (n : ℕ) → n ≤ max_nodes → NodeNumber n
node_number n l = below_is 129 n nodes_below (omega arith)

-- ---- bits, highest first

trit_byte_law : (t : Trit) → trit (trit_byte t) ≡ some t
trit_byte_law none = refl
trit_byte_law (some true) = refl
trit_byte_law (some false) = refl

bits_back : (ts above r : List Trit) → bits_from trit above (map trit_byte (reverse_aux ts r)) ≡ bits_from trit (ts ++ above) (map trit_byte r)
unfolding bits_from
bits_back [] above r = refl
bits_back (t ∷ ts) above r = bits_back ts above (t ∷ r) ∙ ap (λ (o : Option Trit). bind o (λ v. bits_from trit (v ∷ (ts ++ above)) (map trit_byte r))) (trit_byte_law t)

not_empty : (ts : List Trit) (t : Trit) (r : List Trit) → is_empty (map trit_byte (reverse_aux ts (t ∷ r))) ≡ false
not_empty [] t r = refl
not_empty (u ∷ ts) t r = not_empty ts u (t ∷ r)

bits_read : (ts : List Trit) → 1 ≤ length ts → bits_field trit (map trit_byte (reverse ts)) ≡ some ts
unfolding bits_from
bits_read [] l = absurd (omega arith)
bits_read (t ∷ ts) l =
    ap (λ (e : Bool). cond e none (bits_from trit [] (map trit_byte (reverse (t ∷ ts))))) (not_empty ts t [])
    ∙ bits_back (t ∷ ts) [] [] ∙ ap some (append-nil (t ∷ ts))

-- ---- one line

abbrev bits_of : Held → Bytes
bits_of h = map trit_byte (reverse h.bits)

-- without its byte 10
abbrev pub held_line : Held → Bytes
held_line h = two_fields (bytes "hold") (number h.segment_number) (bits_of h)

held_fields : (h : Held) → fields (held_line h) ≡ bytes "hold" ∷ number h.segment_number ∷ bits_of h ∷ []
held_fields h =
    two_fields_law (bytes "hold") (number h.segment_number) (bits_of h) (refl, (refl, (refl, (refl, tt))))
    (number_free tab h.segment_number (omega arith)) (high_free tab (omega arith) (bits_of h) (bits_high (reverse h.bits)))

pub held_read : (h : Held) → h.segment_number ≤ max_nodes → 1 ≤ length h.bits → line_of (held_line h) ≡ some (hold h.segment_number h.bits)
unfolding line_of word_of same bits_line
held_read h s l =
    ap (λ (fs : List Bytes). bind (word_of (field fs 0)) (line_by fs)) (held_fields h)
    ∙ ap (λ (o : Option ℕ). bind o (λ s. bind (bits_field trit (bits_of h)) (λ bs. some (hold s bs)))) (node_number h.segment_number s).back
    ∙ ap (λ (o : Option (List Trit)). bind o (λ bs. some (hold h.segment_number bs))) (bits_read h.bits l)

pub held_hold : (h : Held) → is_hold (held_line h) ≡ true
unfolding same
held_hold h = ap (λ (fs : List Bytes). same (field fs 0) (bytes "hold")) (held_fields h)

pub held_no_end : (h : Held) → Free line_end (held_line h)
held_no_end h =
    two_free (bytes "hold") (number h.segment_number) (bits_of h) (refl, (refl, (refl, (refl, tt))))
    (number_free line_end h.segment_number (omega arith)) (high_free line_end (omega arith) (bits_of h) (bits_high (reverse h.bits)))

-- `hold`, two tabs, at most three digits; the bits
length_held : (h : Held) → h.segment_number ≤ max_nodes → length (held_line h) ≤ 9 + length h.bits
length_held h s =
    let a = (node_number h.segment_number s).digits in
    let b : length (bits_of h) ≡ length h.bits = length-map (reverse h.bits) trit_byte ∙ length-reverse h.bits in
    omega (arith, two_length (bytes "hold") (number h.segment_number) (bits_of h))

-- ---- the lines of a configuration

-- each segment from number i on, with its bits
unfoldable pub held_rows : Config → ℕ → List Node → List Held
held_rows c i [] = []
held_rows c i (n ∷ ns) = cond (is_segment n) (record { segment_number = i; bits = at c i [] } ∷ held_rows c (suc i) ns) (held_rows c (suc i) ns)

pub held_text : (c : Config) (i : ℕ) (ns : List Node) → hold_lines c i ns ≡ text_of_lines (map held_line (held_rows c i ns))
unfolding hold_lines held_rows text_of_lines
held_text c i [] = refl
held_text c i (n ∷ ns) = go (is_segment n) (held_text c (suc i) ns)
  where
    h : Held
    h = record { segment_number = i; bits = at c i [] }

    go : (t : Bool) → hold_lines c (suc i) ns ≡ text_of_lines (map held_line (held_rows c (suc i) ns))
        → cond t (hold_line i (at c i [])) [] ++ hold_lines c (suc i) ns ≡ text_of_lines (map held_line (cond t (h ∷ held_rows c (suc i) ns) (held_rows c (suc i) ns)))
    go false r = r
    go true r = two_printed (bytes "hold") (number i) (bits_of h) (hold_lines c (suc i) ns) ∙ ap (λ (t : Bytes). held_line h ++ line_end ∷ t) r

pub held_lines : (c : Config) (i : ℕ) (ns : List Node) → lines_of (hold_lines c i ns) ≡ map held_line (held_rows c i ns)
held_lines c i ns = ap lines_of (held_text c i ns) ∙ text_lines (map held_line (held_rows c i ns)) (every_map (Free line_end) held_line held_no_end (held_rows c i ns))

-- 10 bytes for each node, and the bits
pub hold_bytes : (c : Config) (i : ℕ) (ns : List Node) → ((j : ℕ) → j < length ns → length (at c (i + j) []) ≡ len_of (get_or ns j no_node)) → i + length ns ≤ suc max_nodes
    → length (hold_lines c i ns) ≤ 10 * length ns + total_bits ns
unfolding hold_lines total_bits
hold_bytes c i [] f l = omega arith
hold_bytes c i (x ∷ ns) f l = go (is_segment x) (hold_bytes c (suc i) ns (λ j h. ap (λ (k : ℕ). length (at c k [])) (suc-add i j ∙ sym (add-suc i j)) ∙ f (suc j) (omega arith)) (omega arith))
  where
    h : Held
    h = record { segment_number = i; bits = at c i [] }

    here : length (at c i []) ≡ len_of x
    here = ap (λ (k : ℕ). length (at c k [])) (sym (add-zero i)) ∙ f 0 (omega arith)

    go : (t : Bool) → length (hold_lines c (suc i) ns) ≤ 10 * length ns + total_bits ns
        → length (cond t (hold_line i (at c i [])) [] ++ hold_lines c (suc i) ns) ≤ 10 * suc (length ns) + (len_of x + total_bits ns)
    go true r =
        let a : length (hold_line i (at c i []) ++ hold_lines c (suc i) ns) ≡ length (held_line h ++ line_end ∷ hold_lines c (suc i) ns) =
        ap length (two_printed (bytes "hold") (number i) (bits_of h) (hold_lines c (suc i) ns)) in
        let b : length (held_line h) ≤ 9 + length (at c i []) = length_held h (omega arith) in
        omega (arith, a, b, length-append (held_line h) (line_end ∷ hold_lines c (suc i) ns), here)
    go false r = omega arith
