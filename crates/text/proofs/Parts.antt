-- The parts of a text by the place of the first separator.
-- Assumes nothing.
use mathlib.Core.Path.{◌≡◌, refl, sym, ap, ◌∙◌}
use mathlib.Core.Bool.{Bool, true, false}
use mathlib.Core.List.{List, [], ◌∷◌}
use Prim.Native.Nat.{ℕ, suc, ◌+◌, ◌-◌, ◌≤◌, ◌<◌}
use native.Mathlib.Omega.{arith}
use native.Mathlib.Numerals.{add-one}
use lib.ListN.{length, take, drop, get_or, drop_of_length-le, length-drop}
use lib.Seq.{drop-cons, drop-drop}
use lib.Dec.{eqb}
use borrow.Author.Tests.{eq-eqb, ne_eqb, eqb-true}
use Rattle.model.specs.Text.{Bytes, in_first, parts}
use Rattle.text.specs.Places.{bytes_before, IsEnd}

-- ---- a separator, and any other byte, at the front

parts_hit : (sep b : ℕ) (t : Bytes) → eqb b sep ≡ true → parts sep (b ∷ t) ≡ [] ∷ parts sep t
unfolding parts
parts_hit sep b t e = rw e

parts_miss : (sep b : ℕ) (t : Bytes) → eqb b sep ≡ false → parts sep (b ∷ t) ≡ in_first b (parts sep t)
unfolding parts
parts_miss sep b t e = rw e

first_in_first : (b : ℕ) (ps : List Bytes) → get_or (in_first b ps) 0 [] ≡ b ∷ get_or ps 0 []
first_in_first b [] = refl
first_in_first b (p ∷ ps) = refl

before_hit : (sep b : ℕ) (t : Bytes) → eqb b sep ≡ true → bytes_before sep (b ∷ t) ≡ 0
unfolding bytes_before
before_hit sep b t e = rw (parts_hit sep b t e)

before_miss : (sep b : ℕ) (t : Bytes) → eqb b sep ≡ false → bytes_before sep (b ∷ t) ≡ suc (bytes_before sep t)
unfolding bytes_before
before_miss sep b t e = rw (parts_miss sep b t e, first_in_first b (parts sep t))

before_nil : (sep : ℕ) → bytes_before sep [] ≡ 0
unfolding bytes_before parts
before_nil sep = refl

-- ---- a whole text, by the place of its first separator

-- no separator: one part
pub parts_alone : (sep : ℕ) (t : Bytes) → bytes_before sep t ≡ length t → parts sep t ≡ t ∷ []
unfolding parts
parts_alone sep [] h = refl
parts_alone sep (b ∷ t) h = go (eqb b sep) refl (parts_alone sep t)
  where
    go : (s : Bool) → eqb b sep ≡ s → (bytes_before sep t ≡ length t → parts sep t ≡ t ∷ []) → parts sep (b ∷ t) ≡ (b ∷ t) ∷ []
    go true e ih = let q = before_hit sep b t e in absurd (omega arith)
    go false e ih = let q = before_miss sep b t e in rw (parts_miss sep b t e, ih (omega arith))

-- a separator: the part before it, and the parts behind it
abbrev pub Ended : ℕ → Bytes → Type 0
Ended sep t = (get_or t (bytes_before sep t) 0 ≡ sep) × (parts sep t ≡ take (bytes_before sep t) t ∷ parts sep (drop (suc (bytes_before sep t)) t))

pub parts_ended : (sep : ℕ) (t : Bytes) → bytes_before sep t < length t → Ended sep t
parts_ended sep [] h = absurd (omega arith)
parts_ended sep (b ∷ t) h = go (eqb b sep) refl (parts_ended sep t)
  where
    go : (s : Bool) → eqb b sep ≡ s → (bytes_before sep t < length t → Ended sep t) → Ended sep (b ∷ t)
    go true e ih = rw (before_hit sep b t e) (eqb-true b sep e, parts_hit sep b t e)
    go false e ih =
        let q = before_miss sep b t e in
        let r = ih (omega arith) in
        rw q (r.0, parts_miss sep b t e ∙ ap (in_first b) r.1)

pub parts_first : (sep : ℕ) (t : Bytes) → get_or (parts sep t) 0 [] ≡ take (bytes_before sep t) t
unfolding parts
parts_first sep [] = rw (before_nil sep)
parts_first sep (b ∷ t) = go (eqb b sep) refl (parts_first sep t)
  where
    go : (s : Bool) → eqb b sep ≡ s → get_or (parts sep t) 0 [] ≡ take (bytes_before sep t) t → get_or (parts sep (b ∷ t)) 0 [] ≡ take (bytes_before sep (b ∷ t)) (b ∷ t)
    go true e ih = rw (before_hit sep b t e, parts_hit sep b t e)
    go false e ih = rw (before_miss sep b t e, parts_miss sep b t e, first_in_first b (parts sep t), ih)

-- ---- the rest of a text from a place on: what a scan finds, byte by byte

pub before_end : (sep : ℕ) (t : Bytes) (i : ℕ) → length t ≤ i → bytes_before sep (drop i t) ≡ 0
before_end sep t i h = rw (drop_of_length-le t h) (before_nil sep)

pub before_here : (sep : ℕ) (t : Bytes) (i : ℕ) → i < length t → get_or t i 0 ≡ sep → bytes_before sep (drop i t) ≡ 0
before_here sep t i h e = rw (drop-cons t i 0 h) (before_hit sep _ _ (eq-eqb _ _ e))

pub before_next : (sep : ℕ) (t : Bytes) (i : ℕ) → i < length t → (get_or t i 0 ≡ sep → ⊥) → bytes_before sep (drop i t) ≡ 1 + bytes_before sep (drop (i + 1) t)
before_next sep t i h e = rw (drop-cons t i 0 h, add-one i) (omega (arith, before_miss sep (get_or t i 0) (drop (suc i) t) (ne_eqb _ _ e)))

pub ruleset scanning = (before_end, before_here, before_next)

-- ---- the rest of a text from a place on, by the place `end` of its first separator

module _ (sep : ℕ) (t : Bytes) (at end : ℕ) (e : IsEnd sep t at end) where
  -- the first part, with a separator behind it or not
  pub rest_first : get_or (parts sep (drop at t)) 0 [] ≡ take (end - at) (drop at t)
  rest_first =
      let n : end - at ≡ bytes_before sep (drop at t) = omega arith in
      parts_first sep (drop at t) ∙ ap (λ (m : ℕ). take m (drop at t)) (sym n)

  -- no separator: the rest is the last part
  pub rest_alone : end ≡ length t → parts sep (drop at t) ≡ drop at t ∷ []
  rest_alone h = parts_alone sep (drop at t) (omega (arith, length-drop at t))

  -- a separator: the part before it, and the parts behind it
  pub rest_ended : end < length t → parts sep (drop at t) ≡ take (end - at) (drop at t) ∷ parts sep (drop (end + 1) t)
  rest_ended h =
      let n : end - at ≡ bytes_before sep (drop at t) = omega arith in
      let w : end + 1 ≡ at + suc (bytes_before sep (drop at t)) = omega arith in
      rw (n, w, ← (drop-drop (suc (bytes_before sep (drop at t))) at t)) (parts_ended sep (drop at t) (omega (arith, length-drop at t))).1
