-- A line written in parts, each behind the one before it.
-- Assumes nothing.
use mathlib.Core.Path.{◌≡◌, refl, sym, ◌∙◌}
use mathlib.Core.List.{List, [], ◌∷◌, ◌++◌, map, append_assoc, append-nil}
use Prim.Native.Nat.{ℕ, ◌+◌, ◌≤◌, ◌<◌}
use native.Mathlib.Omega.{arith}
use native.Mathlib.Nat.{add-zero}
use native.Mathlib.Numerals.{add-one}
use lib.ListN.{length, take, get_or, length-append}
use lib.Seq.{take-suc, take_all}
use Rattle.model.specs.Text.{tab, line_end}
use Rattle.model.specs.Printed.{number, fields_of}
use Rattle.plan_text.proofs.Writing.{write_none, write_behind}
use Rattle.program_lines.specs.Puts.{Puts, tabbed}

pub puts_none : (at : ℕ) (old : List ℕ) → Puts at [] old at old
puts_none at old = record { behind = sym (add-zero at); holds = sym (write_none at old) }

-- a write behind another
pub puts_more : {at m r : ℕ} {a b old x y : List ℕ} → Puts at a old m x → Puts m b x r y → m ≤ length old → Puts at (a ++ b) old r y
puts_more {at = at} {m = m} {a = a} {b = b} {old = old} p q fits =
    record {
      behind = omega (arith, p.behind, q.behind, length-append a b);
      holds = q.holds ∙ rw (p.behind, p.holds) (write_behind at a old (omega (arith, p.behind)) b);
    }

-- ---- fields

tabbed_more : (ns : List ℕ) (n : ℕ) → tabbed (ns ++ n ∷ []) ≡ tabbed ns ++ tab ∷ number n
unfolding tabbed
tabbed_more [] n = rw (append-nil (number n))
tabbed_more (k ∷ ns) n = rw (tabbed_more ns n, append_assoc (number k) (tabbed ns) (tab ∷ number n))

-- the fields of a line, and its end
pub tabbed_ended : (ns : List ℕ) → tabbed ns ++ line_end ∷ [] ≡ fields_of (map number ns)
unfolding tabbed fields_of
tabbed_ended [] = refl
tabbed_ended (n ∷ ns) = rw (append_assoc (number n) (tabbed ns) (line_end ∷ []), tabbed_ended ns)

-- i of the fields are written
module _ (at : ℕ) (ns old : List ℕ) where
  pub field_next : (i m r : ℕ) (x y : List ℕ) → i < length ns → Puts at (tabbed (take i ns)) old m x → m ≤ length old
      → Puts m (tab ∷ number (get_or ns i 0)) x r y → Puts at (tabbed (take (i + 1) ns)) old r y
  field_next i m r x y h p fits q = rw (add-one, take-suc ns i 0 h, tabbed_more (take i ns) (get_or ns i 0)) (puts_more p q fits)

  pub fields_done : (i r : ℕ) (y : List ℕ) → length ns ≤ i → Puts at (tabbed (take i ns)) old r y → Puts at (tabbed ns) old r y
  fields_done i r y h p = rw (take_all i ns h) at p

-- a word, fields and the line's end
pub puts_line : {at m k r : ℕ} {old x y z : List ℕ} (word ns : List ℕ) → Puts at word old m x → Puts m (tabbed ns) x k y → Puts k (line_end ∷ []) y r z
    → m ≤ length old → k ≤ length x → Puts at (word ++ fields_of (map number ns)) old r z
puts_line word ns p q w l h = let tail = puts_more q w h in puts_more p (rw (tabbed_ended ns) at tail) l
