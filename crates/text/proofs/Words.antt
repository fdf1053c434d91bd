-- Equal byte strings, and the words by a field's length and bytes.
-- Assumes nothing.
use mathlib.Core.Path.{◌≡◌, refl}
use mathlib.Core.Bool.{Bool, true, cond, ◌&&◌}
use Rattle.std.specs.Prelude.{None as none, Some as some}
use Rattle.std.specs.Cmp.Lexicographic.{pointwise}
use mathlib.Core.List.{[], ◌∷◌}
use Prim.Native.Nat.{ℕ, suc}
use native.Mathlib.Omega.{arith}
use lib.ListN.{length, get_or}
use lib.Dec.{eqb}
use Rattle.std.proofs.lemmas.Bool.Decides.{nat_tests}
use Rattle.model.specs.Text.{Bytes, bytes, Seg, Mux, Out, Hold, Write, Read, Csu, same, word_of}

-- ---- what `==` and `starts_with` say of two byte strings

pub same_pointwise : (a b : Bytes) → pointwise eqb a b ≡ same a b
unfolding same
same_pointwise [] [] = refl
same_pointwise [] (y ∷ b) = refl
same_pointwise (x ∷ a) [] = refl
same_pointwise (x ∷ a) (y ∷ b) = rw (same_pointwise a b)

pub same_turned : (a b : Bytes) → same a b ≡ pointwise eqb b a
unfolding same
same_turned [] [] = refl
same_turned [] (y ∷ b) = refl
same_turned (x ∷ a) [] = refl
same_turned (x ∷ a) (y ∷ b) = rw (same_turned a b) (grind (arith, nat_tests))

-- ---- a byte string by its length and its bytes

abbrev pub reads : Bytes → ℕ → Bytes → Bool
reads f i [] = true
reads f i (b ∷ s) = eqb (get_or f i 0) b && reads f (suc i) s

abbrev pub has_bytes : Bytes → Bytes → Bool
has_bytes f s = eqb (length f) (length s) && reads f 0 s

behind : (a : ℕ) (f s : Bytes) (i : ℕ) → reads (a ∷ f) (suc i) s ≡ reads f i s
behind a f [] i = refl
behind a f (b ∷ s) i = rw (behind a f s (suc i))

pub same_by_bytes : (f s : Bytes) → same f s ≡ has_bytes f s
unfolding same
same_by_bytes [] [] = refl
same_by_bytes [] (b ∷ s) = grind (arith, nat_tests)
same_by_bytes (a ∷ f) [] = grind (arith, nat_tests)
same_by_bytes (a ∷ f) (b ∷ s) = rw (same_by_bytes f s, behind a f s 0) (grind (arith, nat_tests))

pub word_by_bytes : (f : Bytes) → word_of f ≡
    cond (has_bytes f (bytes "seg")) (some Seg)
    (cond (has_bytes f (bytes "mux")) (some Mux)
    (cond (has_bytes f (bytes "out")) (some Out)
    (cond (has_bytes f (bytes "hold")) (some Hold)
    (cond (has_bytes f (bytes "write")) (some Write)
    (cond (has_bytes f (bytes "read")) (some Read)
    (cond (has_bytes f (bytes "csu")) (some Csu) none))))))
unfolding word_of
word_by_bytes f = simp same_by_bytes

pub ruleset words = (nat_tests, word_by_bytes)
