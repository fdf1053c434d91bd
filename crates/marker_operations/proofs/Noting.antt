-- Laws of the first operations noted: they are the model's `first_on`.
-- Assumes nothing.
use mathlib.Core.Path.{◌≡◌, refl, sym, ap, ◌∙◌}
use Rattle.std.specs.Prelude.{Option, None as none, Some as some}
use mathlib.Core.List.{List, [], ◌∷◌, ◌++◌}
use Prim.Native.Nat.{ℕ, suc, ◌+◌, ◌<◌}
use native.Mathlib.Omega.{arith}
use lib.ListN.{length, get_or, take, length-take}
use Rattle.std.proofs.Common.{get_or-take}
use Rattle.model.specs.Path.{ScanPath, place}
use Rattle.model.specs.Mark.{or_later, first_on}
use Rattle.network_draft.specs.declared.store.Summary.{Summary}
use Rattle.network_draft.specs.declared.store.Target.{Target}
use Rattle.network_draft.specs.Numbers.{no_target, stored_target}
use Rattle.network_draft.specs.Represents.{InLimits}
use Rattle.marker_operations.specs.declared.Met.{Met}
use Rattle.marker_operations.specs.Operations.{access_at, segment_at, Reached, access_after, Noted}

-- one operation more
first_more : (k : ℕ) (ps : List ScanPath) (p : ScanPath) (s : ℕ) → first_on k (ps ++ p ∷ []) s ≡ access_after p s (k + length ps) (first_on k ps s)
unfolding first_on
first_more k [] p s = let e : k + 0 ≡ k = omega arith in rw e
first_more k (q ∷ ps) p s = go (place q s) (first_more (suc k) ps p s)
  where
    go : (o : Option ℕ) → first_on (suc k) (ps ++ p ∷ []) s ≡ access_after p s (suc k + length ps) (first_on (suc k) ps s)
        → or_later k o (first_on (suc k) (ps ++ p ∷ []) s) ≡ access_after p s (k + suc (length ps)) (or_later k o (first_on (suc k) ps s))
    go (some q) e = refl
    go none e = let z : k + suc (length ps) ≡ suc k + length ps = omega arith in rw z e

module _ (t : Summary) where
  pub reached_none : (f : List (Option Met)) → ((i : ℕ) → i < t.target_count → get_or f i none ≡ none) → Reached t f []
  unfolding first_on
  reached_none f z i lt = rw (z i lt)

  pub reached_more : (ps : List ScanPath) (p : ScanPath) (k : ℕ) (old new : List (Option Met)) → InLimits t → k ≡ suc (length ps) → Reached t old ps
      → Noted p (take t.target_count t.targets) k old new → Reached t new (ps ++ p ∷ [])
  reached_more ps p k old new limits e r n i lt =
      let z : k ≡ 1 + length ps = omega arith in
      n.each i (simp length-take (omega (arith, limits.targets_fit, limits.targets_room)))
      ∙ ap (λ (x : Target). access_after p x.segment k (access_at old i)) (get_or-take t.target_count t.targets i (stored_target no_target) lt)
      ∙ rw (r i lt, z) (sym (first_more 1 ps p (segment_at t.targets i)))
