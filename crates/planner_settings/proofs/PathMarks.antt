-- Laws of the loop that marks the segments on a path.
-- Assumes nothing.
use mathlib.Core.Path.{◌≡◌, refl, sym, ap, ◌∙◌}
use mathlib.Core.Bool.{Bool, true, false, ◌||◌}
use mathlib.Core.List.{List, [], ◌∷◌, ◌++◌}
use Prim.Native.Nat.{ℕ, ◌+◌, ◌≤◌, ◌<◌}
use native.Mathlib.Numerals.{add-one}
use native.Mathlib.Omega.{arith}
use lib.Dec.{eqb}
use lib.ListN.{length, get_or, set, take, replicate, length-set, length-replicate, get_or-replicate}
use lib.Seq.{get_or-set_same, get_or-set_other, take-suc}
use borrow.Author.Tests.{eqb-false}
use Rattle.model.specs.Path.{bit_value, on}
use Rattle.model.proofs.Lists.{eqb_is}
use Rattle.network_path.specs.Layout.{scan_path}
use Rattle.network_path.specs.Answers.{HoldsPath}
use Rattle.network_path.proofs.PathLaws.{segment_on}
use Rattle.network_words.proofs.WordLaws.{value_small}
use Rattle.planner_settings.specs.Route.{Unmarked, MarksOf, PathMarked, Flags}

-- ---- one segment more

on_more : (ns ks : List ℕ) (k s : ℕ) → on (scan_path ns (ks ++ k ∷ [])) s ≡ (on (scan_path ns ks) s || eqb k s)
on_more ns [] k s = by (eqb k s)
  where
    by : (t : Bool) → (t || false) ≡ (false || t)
    by true = refl
    by false = refl
on_more ns (j ∷ ks) k s = by (eqb j s) (on_more ns ks k s)
  where
    by : (t : Bool) → on (scan_path ns (ks ++ k ∷ [])) s ≡ (on (scan_path ns ks) s || eqb k s) → (t || on (scan_path ns (ks ++ k ∷ [])) s) ≡ ((t || on (scan_path ns ks) s) || eqb k s)
    by true e = refl
    by false e = e

marks_more : (marks ns ks : List ℕ) (k : ℕ) → length marks ≡ 129 → k < 129 → MarksOf marks (scan_path ns ks) → MarksOf (set marks k 1) (scan_path ns (ks ++ k ∷ []))
marks_more marks ns ks k sized small m s l = by (eqb k s) refl (on (scan_path ns ks) s) (m s l) ∙ ap bit_value (sym (on_more ns ks k s))
  where
    by : (t : Bool) → eqb k s ≡ t → (u : Bool) → get_or marks s 0 ≡ bit_value u → get_or (set marks k 1) s 0 ≡ bit_value (u || eqb k s)
    by true e true f = let z : k ≡ s = eqb_is k s e in rw (← z) (get_or-set_same marks k 1 0 (omega arith))
    by true e false f = let z : k ≡ s = eqb_is k s e in rw (e, ← z) (get_or-set_same marks k 1 0 (omega arith))
    by false e true f = get_or-set_other marks k s 1 0 (λ z. eqb-false k s e (sym z)) ∙ f
    by false e false f = rw e (get_or-set_other marks k s 1 0 (λ z. eqb-false k s e (sym z)) ∙ f)

-- ---- the loop: the first i segments are marked

-- an array of 0
pub no_marks : Unmarked (replicate 129 0)
no_marks = record { size = length-replicate {A = ℕ} 129 0; none = λ s l. get_or-replicate {A = ℕ} 129 s 0 0 (omega arith) }

pub record MarkedTo (way : List ℕ) (n i : ℕ) (marks : List ℕ) : Type 0 where
  pub passed : i ≤ n
  pub size : length marks ≡ 129
  pub marked : (ns : List ℕ) → MarksOf marks (scan_path ns (take i way))

module _ (held way : List ℕ) (n : ℕ) (h : HoldsPath held way n) (i : ℕ) (marks : List ℕ) where
  pub marked_within : (s : ℕ) → i < n → s ≡ get_or way i 0 → s < 129
  marked_within s lt is = (segment_on held way n h i s lt is).below

  pub marked_more : (s : ℕ) → i < n → s ≡ get_or way i 0 → MarkedTo way n i marks → MarkedTo way n (i + 1) (set marks s 1)
  marked_more s lt is p = record {
    passed = omega arith;
    size = length-set marks s 1 ∙ p.size;
    marked = λ ns.
        let front : take (i + 1) way ≡ take i way ++ s ∷ [] = rw (add-one i, is) (take-suc way i 0 (omega (arith, h.size, h.count))) in
        rw front (marks_more marks ns (take i way) s p.size (marked_within s lt is) (p.marked ns));
  }

-- ---- the marks are 0 or 1

pub marks_flags : (way : List ℕ) (n : ℕ) (marks : List ℕ) → PathMarked way n marks → Flags marks
marks_flags way n marks p s l = omega (arith, p.marked [] s l, value_small (on (scan_path [] (take n way)) s))
