-- Laws of a path that the lent memory holds: its length, its segments one after the other, and their places.
-- Assumes nothing.
use mathlib.Core.Path.{◌≡◌, refl, sym, ap, subst, ◌∙◌}
use mathlib.Core.Bool.{Bool, true, false, cond, ◌||◌}
use Rattle.std.specs.Prelude.{Option, None as none, Some as some, Ok, Err}
use mathlib.Core.List.{List, [], ◌∷◌}
use Prim.Native.Nat.{ℕ, zero, suc, ◌+◌, ◌*◌, ◌<◌, ◌≤◌}
use native.Mathlib.Nat.{le_refl, sub-zero, add_assoc}
use native.Mathlib.Numerals.{add-one}
use native.Mathlib.Omega.{arith}
use borrow.Author.Tests.{ne_eqb}
use lib.Dec.{eqb}
use lib.ListN.{length, get_or, take, drop, drop_of_length-le}
use lib.Seq.{drop-cons, get_or-take, length-take-le}
use Rattle.model.specs.Network.{len_of}
use Rattle.model.specs.Path.{ScanPath, path, walk_from, path_length, place, on}
use Rattle.model.specs.PathSum.{sum_from}
use Rattle.model.specs.Text.{bind}
use Rattle.model.proofs.Lists.{some_same}
use Rattle.model.proofs.PathSums.{sum_of, walk_sum}
use Rattle.network_words.specs.Words.{word_width}
use Rattle.network_path.specs.Layout.{node_at, look_in, scan_path, Way}
use Rattle.network_path.specs.Answers.{Walked, Walkable, Walks, told_from, FallsFrom, sum_told, HoldsPath, told, WalkHeld, FindsPath}
use Rattle.network_path.proofs.WalkLaws.{way_up}

-- ---- the whole walk

module _ (ns bits known : List ℕ) (out : ℕ) (old : List ℕ) (r : Walked) (way : List ℕ) (asked : Walkable ns out old 0) (w : Walks ns bits known out old 0 r way) where
  pub found : FindsPath ns bits known out r way
  found = record { tells = tells; holds = holds r w.falls tells (w.sums out (le_refl out)); size = size }
    where
      size : length way ≡ 128
      size = w.size ∙ asked.size

      from_none : (r : Walked) → told_from ns way 0 r ≡ told ns way r
      from_none (Ok size) = ap (λ (m : ℕ). path (scan_path ns (take m way))) (sub-zero size.segments)
      from_none (Err m) = refl

      tells : walk_from (node_at ns) (look_in bits known) out out ≡ told ns way r
      tells = w.tells out (le_refl out) ∙ from_none r

      -- the sum is the length of the path that was found
      holds : (r : Walked) → FallsFrom ns way out 0 r → walk_from (node_at ns) (look_in bits known) out out ≡ told ns way r
          → sum_from (node_at ns) (look_in bits known) out out ≡ sum_told r → WalkHeld ns way r
      holds (Ok found) f t s =
          let a = asked.room in
          let falls : Way ns (suc out) (take found.segments way) = subst (λ (m : ℕ). Way ns (suc out) (take m way)) (sub-zero found.segments) f.2 in
          let length-of : some found.bits ≡ some (path_length (scan_path ns (take found.segments way))) = sym s ∙ walk_sum (node_at ns) (look_in bits known) out out ∙ ap sum_of t in
          (record { size = size; count = omega (arith, f.1); falls = way_up ns (suc out) 129 (take found.segments way) (omega arith) falls }, some_same _ _ length-of)
      holds (Err m) f t s = tt

-- ---- segment i of a path

way_drop : (ns : List ℕ) (m : ℕ) (ks : List ℕ) (i : ℕ) → Way ns m ks → Way ns m (drop i ks)
way_drop ns m ks zero w = w
way_drop ns m [] (suc i) w = tt
way_drop ns m (k ∷ ks) (suc i) w = way_up ns k m (drop i ks) (let a : k < m = w.1 in omega arith) (way_drop ns k ks i w.4)

-- segment i has the number k: what is known of it, and the segments behind it
pub record SegmentOn (ns way : List ℕ) (n i k : ℕ) : Type 0 where
  pub within : i < n
  pub splits : drop i (take n way) ≡ k ∷ drop (i + 1) (take n way)
  pub number : 1 ≤ k
  pub below : k < 129
  pub least : 1 ≤ len_of (node_at ns k)
  pub most : len_of (node_at ns k) ≤ word_width
  pub later : Way ns k (drop (i + 1) (take n way))

module _ (ns way : List ℕ) (n : ℕ) (h : HoldsPath ns way n) where
  long : length (take n way) ≡ n
  long = length-take-le n way (omega (arith, h.size, h.count))

  pub segment_in : (i k : ℕ) → i < length (take n way) → k ≡ get_or (take n way) i 0 → SegmentOn ns way n i k
  segment_in i k l e =
      let splits : drop i (take n way) ≡ k ∷ drop (i + 1) (take n way) =
      drop-cons (take n way) i 0 (omega arith) ∙ ap (λ (k : ℕ). k ∷ drop (suc i) (take n way)) (sym e) ∙ rw (add-one i) in
      let w = subst (Way ns 129) splits (way_drop ns 129 (take n way) i h.falls) in
      record { within = omega (arith, long); splits = splits; number = w.0; below = w.1; least = w.2; most = w.3; later = w.4 }

  pub segment_on : (i k : ℕ) → i < n → k ≡ get_or way i 0 → SegmentOn ns way n i k
  segment_on i k l e = segment_in i k (omega (arith, long)) (e ∙ sym (get_or-take n way i 0 l))

  pub path_end : (i : ℕ) → n ≤ i → drop i (take n way) ≡ []
  path_end i l = drop_of_length-le (take n way) {i = i} (omega (arith, long))

-- ---- a segment's place: p bits are passed, and the place among the rest makes the whole

pub record Passed (ns way : List ℕ) (n s i p : ℕ) : Type 0 where
  pub bound : p ≤ word_width * i
  pub whole : bind (place (scan_path ns (drop i (take n way))) s) (λ q. some (p + q)) ≡ place (scan_path ns (take n way)) s

more_before : (o : Option ℕ) (p len : ℕ) → bind o (λ q. some (p + len + q)) ≡ bind (bind o (λ q. some (len + q))) (λ q. some (p + q))
more_before none p len = refl
more_before (some q) p len = ap some (add_assoc p len q)

module _ (ns way : List ℕ) (n s : ℕ) where
  -- the place, by segment i
  by_segment : (i k : ℕ) → SegmentOn ns way n i k → place (scan_path ns (drop i (take n way))) s
      ≡ cond (eqb k s) (some 0) (bind (place (scan_path ns (drop (i + 1) (take n way))) s) (λ q. some (len_of (node_at ns k) + q)))
  by_segment i k on = ap (λ (ks : List ℕ). place (scan_path ns ks) s) on.splits

  pub passed_more : (i p k len : ℕ) → SegmentOn ns way n i k → (k ≡ s → ⊥) → len ≡ len_of (node_at ns k) → Passed ns way n s i p → Passed ns way n s (i + 1) (p + len)
  passed_more i p k len on ne e w =
      let there : place (scan_path ns (drop i (take n way))) s ≡ bind (place (scan_path ns (drop (i + 1) (take n way))) s) (λ q. some (len + q)) =
      by_segment i k on ∙ rw (ne_eqb k s ne, ← e) in
      record { bound = omega arith; whole = more_before (place (scan_path ns (drop (i + 1) (take n way))) s) p len ∙ (rw there at w.whole) }

-- ---- a segment has a place exactly where it is on the path

abbrev pub is_place : Option ℕ → Bool
is_place none = false
is_place (some p) = true

pub on_place : (p : ScanPath) (s : ℕ) → on p s ≡ is_place (place p s)
on_place [] s = refl
on_place (h ∷ p) s = go (eqb h.number s) (place p s) (on_place p s)
  where
    go : (t : Bool) (o : Option ℕ) → on p s ≡ is_place o → (t || on p s) ≡ is_place (cond t (some 0) (bind o (λ q. some (h.len + q))))
    go true o e = refl
    go false none e = e
    go false (some q) e = e
