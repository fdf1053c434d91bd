-- Laws of lists of start bits, of RESETs or of `hold` lines: the first entry for a segment decides.
-- Assumes nothing.
use mathlib.Core.Path.{◌≡◌, refl, ap, ◌∙◌}
use mathlib.Core.Bool.{Bool, true, false, cond}
use mathlib.Core.List.{List, [], ◌∷◌, ◌++◌, Memᴰ}
use Prim.Native.Nat.{ℕ}
use lib.ListN.{length}
use lib.Dec.{eqb}
use borrow.Author.Tests.{ne_eqb}
use Rattle.model.specs.Network.{Held, held_or}
use Rattle.model.specs.NetworkText.{is_held}
use Rattle.model.specs.Text.{Trit}
use Rattle.model.proofs.Lists.{eqb_same, eqb_is, or_parts}

pub held_append : (other : List Trit) (hs gs : List Held) (s : ℕ) → held_or other (hs ++ gs) s ≡ held_or (held_or other gs s) hs s
unfolding held_or
held_append other [] gs s = refl
held_append other (h ∷ hs) gs s = ap (λ (later : List Trit). cond (eqb h.segment_number s) h.bits later) (held_append other hs gs s)

-- an entry for s, and one for another segment
pub held_one : (other bs : List Trit) (s : ℕ) → held_or other (record { segment_number = s; bits = bs } ∷ []) s ≡ bs
unfolding held_or
held_one other bs s = rw (eqb_same s)

pub held_other : (other bs : List Trit) (j s : ℕ) → (j ≡ s → ⊥) → held_or other (record { segment_number = j; bits = bs } ∷ []) s ≡ other
unfolding held_or
held_other other bs j s f = ap (λ (t : Bool). cond t bs other) (ne_eqb j s f)

-- no entry for s
pub held_free : (other : List Trit) (hs : List Held) (s : ℕ) → is_held hs s ≡ false → held_or other hs s ≡ other
unfolding held_or is_held
held_free other [] s e = refl
held_free other (h ∷ hs) s e =
    let a = or_parts (eqb h.segment_number s) (is_held hs s) e in
    ap (λ (t : Bool). cond t h.bits (held_or other hs s)) a.0 ∙ held_free other hs s a.1

pub none_for : (hs : List Held) (s : ℕ) → ((h : Held) → Memᴰ h hs → h.segment_number ≡ s → ⊥) → is_held hs s ≡ false
unfolding is_held
none_for [] s f = refl
none_for (h ∷ hs) s f = rw (ne_eqb h.segment_number s (f h (Memᴰ.head refl))) (none_for hs s (λ x m. f x (Memᴰ.tail m)))

-- as long as every entry for s
pub held_length : (other : List Trit) (hs : List Held) (s n : ℕ) → length other ≡ n → ((h : Held) → Memᴰ h hs → h.segment_number ≡ s → length h.bits ≡ n)
    → length (held_or other hs s) ≡ n
unfolding held_or
held_length other [] s n e f = e
held_length other (h ∷ hs) s n e f = go (eqb h.segment_number s) refl (held_length other hs s n e (λ x m. f x (Memᴰ.tail m)))
  where
    go : (t : Bool) → eqb h.segment_number s ≡ t → length (held_or other hs s) ≡ n → length (cond t h.bits (held_or other hs s)) ≡ n
    go true q r = f h (Memᴰ.head refl) (eqb_is h.segment_number s q)
    go false q r = r
