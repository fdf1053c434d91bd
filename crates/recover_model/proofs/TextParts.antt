-- A text that comes in two parts: its lines are those of the first part, then those of what stands behind them with the second part.
-- Assumes nothing.
use mathlib.Core.Path.{◌≡◌, refl, ap}
use mathlib.Core.Bool.{Bool, true, false, cond}
use mathlib.Core.List.{List, [], ◌∷◌, ◌++◌}
use Prim.Native.Nat.{ℕ, ◌+◌, ◌≤◌}
use native.Mathlib.Omega.{arith}
use lib.ListN.{length}
use lib.Dec.{eqb}
use Rattle.model.specs.Text.{Bytes, in_first, parts, ended}
use Rattle.model.proofs.PlanTexts.{parts_more, Free}
use Rattle.recover_model.specs.RecoverCalls.{behind}

module _ (sep : ℕ) where
  -- ---- what stands behind the last separator

  abbrev Behind : Bytes → List Bytes → Type 0
  Behind t ls = Free sep (behind ls) × (length (ended ls) + length (behind ls) ≤ length t)

  behind_byte : (b : ℕ) (t : Bytes) (s : Bool) → eqb b sep ≡ s → (p : Bytes) (ps : List Bytes) → Behind t (p ∷ ps) → Behind (b ∷ t) (cond s ([] ∷ p ∷ ps) (in_first b (p ∷ ps)))
  behind_byte b t true e p ps h = (h.0, omega (arith, h.1))
  behind_byte b t false e p [] h = ((e, h.0), omega (arith, h.1))
  behind_byte b t false e p (q ∷ ps) h = (h.0, omega (arith, h.1))

  behind_parts : (t : Bytes) → Behind t (parts sep t)
  unfolding parts
  behind_parts [] = (tt, omega arith)
  behind_parts (b ∷ t) = let q = parts_more sep t in rw q.2 (behind_byte b t (eqb b sep) refl q.0 q.1 (rw q.2 at (behind_parts t)))

  -- it has no separator
  pub behind_free : (t : Bytes) → Free sep (behind (parts sep t))
  behind_free t = (behind_parts t).0

  -- and the lines before it have a byte each, at least
  pub behind_short : (t : Bytes) → length (ended (parts sep t)) + length (behind (parts sep t)) ≤ length t
  behind_short t = (behind_parts t).1

  -- ---- two parts

  abbrev Joined : Bytes → List Bytes → List Bytes → Type 0
  Joined v ls all = all ≡ ended ls ++ parts sep (behind ls ++ v)

  joined_byte : (b : ℕ) (v : Bytes) (s : Bool) → eqb b sep ≡ s → (p : Bytes) (ps all : List Bytes) → Joined v (p ∷ ps) all
      → Joined v (cond s ([] ∷ p ∷ ps) (in_first b (p ∷ ps))) (cond s ([] ∷ all) (in_first b all))
  unfolding parts
  joined_byte b v true e p ps all h = ap (λ (x : List Bytes). [] ∷ x) h
  joined_byte b v false e p [] all h = rw (e, h)
  joined_byte b v false e p (q ∷ ps) all h = ap (in_first b) h

  pub parts_append : (u v : Bytes) → parts sep (u ++ v) ≡ ended (parts sep u) ++ parts sep (behind (parts sep u) ++ v)
  unfolding parts
  parts_append [] v = refl
  parts_append (b ∷ u) v = let q = parts_more sep u in rw q.2 (joined_byte b v (eqb b sep) refl q.0 q.1 (parts sep (u ++ v)) (rw q.2 at (parts_append u v)))

  -- a part without a separator begins the first line
  pub parts_begun : (u v p : Bytes) (ps : List Bytes) → Free sep u → parts sep v ≡ p ∷ ps → parts sep (u ++ v) ≡ (u ++ p) ∷ ps
  unfolding parts
  parts_begun [] v p ps f e = e
  parts_begun (b ∷ u) v p ps f e = rw (f.0, parts_begun u v p ps f.1 e)

-- ---- lines before others

pub behind_append : (before : List Bytes) (l : Bytes) (ls : List Bytes) → behind (before ++ l ∷ ls) ≡ behind (l ∷ ls)
behind_append [] l ls = refl
behind_append (k ∷ []) l ls = refl
behind_append (k ∷ j ∷ before) l ls = behind_append (j ∷ before) l ls
