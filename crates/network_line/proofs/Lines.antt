-- What the model's line says, by what the parser finds in the line's fields.
-- Assumes nothing.
use mathlib.Core.Path.{◌≡◌, refl, sym, ◌∙◌}
use mathlib.Core.Bool.{Bool, true, false, cond}
use Rattle.std.specs.Prelude.{Option, None as none, Some as some, option_map}
use mathlib.Core.List.{List, [], ◌∷◌}
use Prim.Native.Nat.{ℕ, ◌+◌, ◌-◌, ◌≤◌, ◌<◌}
use native.Mathlib.Omega.{arith}
use lib.ListN.{length, get_or}
use lib.Dec.{eqb}
use borrow.Author.Tests.{eq-eqb, ne_eqb}
use Rattle.model.specs.Text.{Bytes, bind, in_first, parts, decimal, Hold, Write, word_of, fields, bits_from, bits_field, bit, trit}
use Rattle.model.specs.Network.{write}
use Rattle.model.specs.NetworkText.{Line, hold, target, field, number_line, bits_line, line_by, line_of, is_some}
use Rattle.text.specs.Bits.{bits_form}
use Rattle.text.specs.Places.{FieldAt}
use Rattle.text.specs.Words.{word_for}
use Rattle.text.specs.declared.LineWord.{LineWord}
use Rattle.text.proofs.Bits.{is_some_law, is_none, field_from}
use Rattle.network_line.specs.Line.{PartOf, bits_in, entry_means, GoodEntry, number_of, IsPlain, IsParsed, IsParsedLine}
use Rattle.network_line.specs.declared.Entry.{Entry}
use Rattle.network_line.specs.declared.Entry.TheVariants.{Hold as HoldEntry, Write as WriteEntry}
use Rattle.network_line.specs.declared.ParsedLine.{ParsedLine}

-- ---- what the functions find

-- a line has a first field
pub parts_some : (sep : ℕ) (t : Bytes) → 0 < length (parts sep t)
unfolding parts
parts_some sep [] = omega arith
parts_some sep (b ∷ t) = go (eqb b sep) (parts sep t)
  where
    go : (s : Bool) (ps : List Bytes) → 0 < length (cond s ([] ∷ ps) (in_first b ps))
    go true ps = omega arith
    go false [] = omega arith
    go false (p ∷ ps) = omega arith

-- no bytes, and those of a field, are a part of the line
pub no_part : (l : Bytes) → PartOf l []
no_part l = record { start = 0; end = 0; ordered = omega arith; within = omega arith; bytes = refl }

pub field_part : {l : Bytes} {starts : List ℕ} {k : ℕ} {f : Bytes} → FieldAt l starts k → f ≡ field (fields l) k → PartOf l f
field_part {starts = starts} {k = k} at e = record {
  start = get_or starts k 0;
  end = get_or starts (k + 1) 0 - 1;
  ordered = omega (arith, at.ordered);
  within = omega (arith, at.within);
  bytes = e ∙ sym at.content;
}

-- ---- whole lines

-- the line by its word, which its first field is
module _ (l f : Bytes) (is : f ≡ field (fields l) 0) where
  pub no_word : none ≡ word_of f → IsParsedLine l none
  unfolding line_of
  no_word e = record { part = tt; means = rw (← is, ← e); good = tt }

  pub by_word : (found w : LineWord) (r : Option ParsedLine) → some (word_for found) ≡ word_of f → found ≡ w → IsParsed l (line_by (fields l) (word_for w)) r → IsParsedLine l r
  unfolding line_of
  by_word found w r e q i = rw (← is, ← e, q) i

pub no_line : {l : Bytes} (o : Option Line) → none ≡ o → IsParsed l o none
no_line o e = record { part = tt; means = e; good = tt }

-- a line without BITS and RESET
pub plain_line : {l : Bytes} (o : Option Line) (e : Entry) (p : ParsedLine) → IsPlain e p → some (entry_means [] e) ≡ o → GoodEntry [] e → IsParsed l o (some p)
plain_line {l} o e p i m g = record { part = rw i.empty (no_part l); means = rw (i.says, i.empty) m; good = rw (i.says, i.empty) g }

-- ---- `out` and `read`

pub number_law : (line : ℕ → Line) (fs : List Bytes) → option_map line (number_of fs) ≡ number_line line fs
unfolding number_line
number_law line fs = go (eqb (length fs) 2) (decimal (field fs 1))
  where
    go : (t : Bool) (o : Option ℕ) → option_map line (cond t o none) ≡ cond t (bind o (λ n. some (line n))) none
    go false o = refl
    go true none = refl
    go true (some n) = refl

-- ---- `hold` and `write`

pub bits_count : (u : Bool) (fs : List Bytes) → (length fs ≡ 3 → ⊥) → none ≡ line_by fs (cond u Hold Write)
unfolding bits_line
bits_count true fs h = rw (ne_eqb (length fs) 3 h)
bits_count false fs h = rw (ne_eqb (length fs) 3 h)

abbrev pub bits_entry : Bool → ℕ → Entry
bits_entry true s = HoldEntry s
bits_entry false s = WriteEntry s

-- for any way to read a byte
module _ {A : Type 0} (one : ℕ → Option A) (line : ℕ → List A → Line) (fs : List Bytes) (h : length fs ≡ 3) where
  by_bits : (s : Option ℕ) (bs : Option (List A)) → s ≡ decimal (field fs 1) → bits_field one (field fs 2) ≡ bs
      → bind s (λ n. bind bs (λ l. some (line n l))) ≡ bits_line one line fs
  unfolding bits_line
  by_bits s bs e f = rw (eq-eqb (length fs) 3 h, ← e, f)

  bits_none : (s : ℕ) → some s ≡ decimal (field fs 1) → is_some (bits_field one (field fs 2)) ≡ false → none ≡ bits_line one line fs
  bits_none s e f = by_bits (some s) none e (is_none _ f)

  bits_some : (s : ℕ) → some s ≡ decimal (field fs 1) → is_some (bits_field one (field fs 2)) ≡ true
      → (some (line s (bits_in one (field fs 2))) ≡ bits_line one line fs) × (is_some (bits_from one [] (field fs 2)) ≡ true)
  bits_some s e f =
      let b = is_some_law _ f in
      let g : bits_from one [] (field fs 2) ≡ some b.0 = field_from one (field fs 2) b.0 b.1 in
      (rw g (by_bits (some s) (some b.0) e b.1), rw g)

module _ (fs : List Bytes) (h : length fs ≡ 3) where
  pub bits_number : (u : Bool) → none ≡ decimal (field fs 1) → none ≡ line_by fs (cond u Hold Write)
  bits_number true e = by_bits trit hold fs h none _ e refl
  bits_number false e = by_bits bit _ fs h none _ e refl

  module _ (s : ℕ) (e : some s ≡ decimal (field fs 1)) where
    pub bits_wrong : (u : Bool) → bits_form u (field fs 2) ≡ false → none ≡ line_by fs (cond u Hold Write)
    bits_wrong true f = bits_none trit hold fs h s e f
    bits_wrong false f = bits_none bit _ fs h s e f

    pub bits_line_law : (u : Bool) → s ≤ 9999 → bits_form u (field fs 2) ≡ true
        → (some (entry_means (field fs 2) (bits_entry u s)) ≡ line_by fs (cond u Hold Write)) × GoodEntry (field fs 2) (bits_entry u s)
    bits_line_law true l f = let b = bits_some trit hold fs h s e f in (b.0, (l, b.1))
    bits_line_law false l f = let b = bits_some bit (λ n bs. target (write n bs)) fs h s e f in (b.0, (l, b.1))
