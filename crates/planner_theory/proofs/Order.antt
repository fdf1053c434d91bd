-- The steering bits on a path: by segments, as the planner lists them, and by places, as the choices go.
-- Assumes nothing.
use mathlib.Core.Path.{◌≡◌, refl, sym, ap, ◌∙◌}
use mathlib.Core.Bool.{Bool, true, false, cond, ◌&&◌, ◌||◌}
use mathlib.Core.Logic.{◌⊎◌, inl, inr}
use mathlib.Core.List.Memᴰ
use mathlib.Core.List.{List, [], ◌∷◌, ◌++◌, append_assoc, append-nil, Memᴰ}
use Prim.Native.Nat.{ℕ, zero, suc, ◌≤◌, ◌<◌, ◌+◌}
use native.Mathlib.Nat.{le_of_suc-le-suc, not-suc-le-zero}
use native.Mathlib.Omega.{arith}
use lib.Dec.{eqb}
use lib.ListN.{length, get_or, take, drop, length-append}
use lib.Seq.{length-take-le}
use borrow.Author.Tests.{eq-eqb, ne_eqb, eqb-false}
use Rattle.model.specs.Network.{Node, at, no_node, len_of, steers, steering_in, steering_from, steering_bits, tabulate}
use Rattle.model.specs.Path.{PathSegment, ScanPath, bit_value, on}
use Rattle.model.proofs.Lists.{eqb_same, eqb_is}
use Rattle.model.proofs.Walking.{Falls}
use Rattle.planner_theory.specs.Settings.{indices_in, order}
use Rattle.planner_theory.specs.Choices.{places_of}
use Rattle.planner_theory.proofs.Choices.{steering_count}
use Rattle.planner_theory.proofs.Steering.{bit_from, get_d_in}
use Rattle.planner_theory.proofs.SettingNumbers.{place_same, place_other}

-- ---- by places

unfoldable pub index_of : ℕ × ℕ → List (ℕ × ℕ) → ℕ
index_of q [] = 0
index_of q (r ∷ sb) = let later = index_of q sb in cond (eqb r.0 q.0 && eqb r.1 q.1) 0 (suc later)

abbrev pub cons_if : Bool → ℕ → List ℕ → List ℕ
cons_if true j js = j ∷ js
cons_if false j js = js

-- the index of each place that steers
unfoldable pub order_at : List Node → List (ℕ × ℕ) → List (ℕ × ℕ) → List ℕ
order_at ns sb [] = []
order_at ns sb (q ∷ qs) = cons_if (steers ns q.0 q.1) (index_of q sb) (order_at ns sb qs)

pub length_order_at : (ns : List Node) (sb qs : List (ℕ × ℕ)) → length (order_at ns sb qs) ≡ steering_count ns qs
unfolding order_at steering_count
length_order_at ns sb [] = refl
length_order_at ns sb (q ∷ qs) = by (steers ns q.0 q.1) (length_order_at ns sb qs)
  where
    by : (t : Bool) → length (order_at ns sb qs) ≡ steering_count ns qs → length (cons_if t (index_of q sb) (order_at ns sb qs)) ≡ bit_value t + steering_count ns qs
    by true e = let z : suc (length (order_at ns sb qs)) ≡ 1 + steering_count ns qs = omega arith in z
    by false e = omega arith

index_append : (q : ℕ × ℕ) (A B : List (ℕ × ℕ)) → (Memᴰ q A → ⊥) → index_of q (A ++ B) ≡ length A + index_of q B
unfolding index_of
index_append q [] B ne = omega arith
index_append q (r ∷ A) B ne =
    let e : index_of q (A ++ B) ≡ length A + index_of q B = index_append q A B (λ m. ne (Memᴰ.tail m)) in
    rw (place_other r q.0 q.1 (λ z. ne (Memᴰ.head (sym z)))) (let z : suc (index_of q (A ++ B)) ≡ suc (length A) + index_of q B = omega arith in z)

-- ---- by segments

indices_append : (j : ℕ) (A B : List (ℕ × ℕ)) (s : ℕ) → indices_in j (A ++ B) s ≡ indices_in j A s ++ indices_in (j + length A) B s
unfolding indices_in
indices_append j [] B s = ap (λ (k : ℕ). indices_in k B s) (let z : j ≡ j + 0 = omega arith in z)
indices_append j (q ∷ A) B s =
    by (eqb q.0 s) (indices_append (suc j) A B s ∙ ap (λ (k : ℕ). indices_in (suc j) A s ++ indices_in k B s) (let z : suc j + length A ≡ j + suc (length A) = omega arith in z))
  where
    by : (t : Bool) → indices_in (suc j) (A ++ B) s ≡ indices_in (suc j) A s ++ indices_in (j + suc (length A)) B s
        → cond t (j ∷ indices_in (suc j) (A ++ B) s) (indices_in (suc j) (A ++ B) s) ≡ cond t (j ∷ indices_in (suc j) A s) (indices_in (suc j) A s) ++ indices_in (j + suc (length A)) B s
    by true e = ap (λ (l : List ℕ). j ∷ l) e
    by false e = e

pub indices_none : (j : ℕ) (A : List (ℕ × ℕ)) (s : ℕ) → ((q : ℕ × ℕ) → Memᴰ q A → q.0 ≡ s → ⊥) → indices_in j A s ≡ []
unfolding indices_in
indices_none j [] s ne = refl
indices_none j (q ∷ A) s ne = rw (ne_eqb q.0 s (ne q (Memᴰ.head refl))) (indices_none (suc j) A s (λ r m. ne r (Memᴰ.tail m)))

-- ---- one segment's bits: sb is A, then its steering bits from bit b on, then B

module _ (ns : List Node) (s : ℕ) (sb B qs : List (ℕ × ℕ)) where
  segment_order : (b n : ℕ) (A : List (ℕ × ℕ)) → sb ≡ A ++ (steering_in ns s b n ++ B) → ((i : ℕ) → Memᴰ (s, i) A → i < b)
      → order_at ns sb (tabulate (λ i. (s, i)) b n ++ qs) ≡ indices_in (length A) (steering_in ns s b n) s ++ order_at ns sb qs
  unfolding order_at indices_in steering_in index_of
  segment_order b zero A e below = refl
  segment_order b (suc n) A e below = by (steers ns s b) e (λ A' f g. segment_order (suc b) n A' f g)
    where
      by : (t : Bool) → sb ≡ A ++ (cond t ((s, b) ∷ steering_in ns s (suc b) n) (steering_in ns s (suc b) n) ++ B)
          → ((A' : List (ℕ × ℕ)) → sb ≡ A' ++ (steering_in ns s (suc b) n ++ B) → ((i : ℕ) → Memᴰ (s, i) A' → i < suc b)
          → order_at ns sb (tabulate (λ i. (s, i)) (suc b) n ++ qs) ≡ indices_in (length A') (steering_in ns s (suc b) n) s ++ order_at ns sb qs)
          → cons_if t (index_of (s, b) sb) (order_at ns sb (tabulate (λ i. (s, i)) (suc b) n ++ qs)) ≡ indices_in (length A) (cond t ((s, b) ∷ steering_in ns s (suc b) n) (steering_in ns s (suc b) n)) s ++ order_at ns sb qs
      by false f ih = ih A f (λ i m. omega (arith, below i m))
      by true f ih =
          let l : length (A ++ ((s, b) ∷ [])) ≡ suc (length A) = length-append A ((s, b) ∷ []) ∙ (let z : length A + 1 ≡ suc (length A) = omega arith in z) in
          let here : index_of (s, b) sb ≡ length A =
          ap (index_of (s, b)) f ∙ index_append (s, b) A _ (λ m. omega (arith, below b m)) ∙ rw (place_same (s, b)) (omega arith) in
          let rest = ih (A ++ ((s, b) ∷ [])) (f ∙ sym (append_assoc A ((s, b) ∷ []) _)) (λ i m. above i (Memᴰ.append_cases A m)) in
          rw (here, rest, l, eqb_same s)
        where
          above : (i : ℕ) → Memᴰ (s, i) A ⊎ Memᴰ {A = ℕ × ℕ} (s, i) ((s, b) ∷ []) → i < suc b
          above i (inl m) = omega (arith, below i m)
          above i (inr m) = let z : i ≡ b = ap (λ (q : ℕ × ℕ). q.1) (Memᴰ.eq_of_singleton m) in omega arith

-- ---- all segments

split_from : (all : List Node) (s : ℕ) (ns : List Node) (k : ℕ) → k < length ns
    → steering_from all s ns ≡ steering_from all s (take k ns) ++ (steering_in all (s + k) 0 (len_of (get_or ns k no_node)) ++ steering_from all (suc (s + k)) (drop (suc k) ns))
unfolding steering_from
split_from all s [] k l = absurd (not-suc-le-zero l)
split_from all s (n ∷ ns) zero l = let z : s + 0 ≡ s = omega arith in rw z
split_from all s (n ∷ ns) (suc k) l =
    let z : s + suc k ≡ suc s + k = omega arith in
    rw z (ap (λ (r : List (ℕ × ℕ)). steering_in all s 0 (len_of n) ++ r) (split_from all (suc s) ns k (le_of_suc-le-suc l)) ∙ sym (append_assoc (steering_in all s 0 (len_of n)) _ _))

module _ (ns : List Node) where
  -- the steering bits of node k + 1, and those before and behind them
  one_segment : (k : ℕ) (qs : List (ℕ × ℕ)) → k < length ns
      → order_at ns (steering_bits ns) (tabulate (λ i. (suc k, i)) 0 (len_of (get_or ns k no_node)) ++ qs) ≡ indices_in 0 (steering_bits ns) (suc k) ++ order_at ns (steering_bits ns) qs
  one_segment k qs lt =
      let e : steering_bits ns ≡ A ++ (C ++ B) = split_from ns 1 ns k lt ∙ rw s_is in
      let here : indices_in 0 (steering_bits ns) (suc k) ≡ indices_in (length A) C (suc k) =
      ap (λ (r : List (ℕ × ℕ)). indices_in 0 r (suc k)) e ∙ indices_append 0 A (C ++ B) (suc k)
      ∙ rw (indices_none 0 A (suc k) before, indices_append (0 + length A) C B (suc k), indices_none (0 + length A + length C) B (suc k) behind, append-nil (indices_in (0 + length A) C (suc k)))
      (ap (λ (j : ℕ). indices_in j C (suc k)) (let z : 0 + length A ≡ length A = omega arith in z)) in
      segment_order ns (suc k) (steering_bits ns) B qs 0 (len_of (get_or ns k no_node)) A e (λ i m. absurd (before (suc k, i) m refl))
      ∙ ap (λ (l : List ℕ). l ++ order_at ns (steering_bits ns) qs) (sym here)
    where
      s_is : 1 + k ≡ suc k
      s_is = omega arith

      A : List (ℕ × ℕ)
      A = steering_from ns 1 (take k ns)

      C : List (ℕ × ℕ)
      C = steering_in ns (suc k) 0 (len_of (get_or ns k no_node))

      B : List (ℕ × ℕ)
      B = steering_from ns (suc (suc k)) (drop (suc k) ns)

      before : (q : ℕ × ℕ) → Memᴰ q A → q.0 ≡ suc k → ⊥
      before q m e = let r = bit_from ns 1 (take k ns) q m in omega (arith, r.seg, r.within, length-take-le k ns (omega arith))

      behind : (q : ℕ × ℕ) → Memᴰ q B → q.0 ≡ suc k → ⊥
      behind q m e = omega (arith, (bit_from ns (suc (suc k)) (drop (suc k) ns) q m).seg)

  -- the two lists are the same
  pub order_places : (m : ℕ) (p : ScanPath) → m ≤ suc (length ns) → Falls ns m p → order_at ns (steering_bits ns) (places_of p) ≡ order (steering_bits ns) p
  unfolding places_of order order_at
  order_places m [] le f = refl
  order_places m (h ∷ p) le f = by h.number refl f.0 f.1 (order_places h.number p (let l : h.number < m = f.1 in omega arith) f.3)
    where
      by : (s : ℕ) → h.number ≡ s → 1 ≤ s → s < m → order_at ns (steering_bits ns) (places_of p) ≡ order (steering_bits ns) p
          → order_at ns (steering_bits ns) (tabulate (λ b. (h.number, b)) 0 h.len ++ places_of p) ≡ indices_in 0 (steering_bits ns) h.number ++ order (steering_bits ns) p
      by zero e a b rest = absurd (not-suc-le-zero a)
      by (suc k) e a b rest =
          let l : h.len ≡ len_of (get_or ns k no_node) = f.2 ∙ ap (λ (n : ℕ). len_of (at ns n no_node)) e in
          rw (e, l) (one_segment k (places_of p) (omega arith) ∙ ap (λ (r : List ℕ). indices_in 0 (steering_bits ns) (suc k) ++ r) rest)

-- ---- its bounds

indices_within : (j : ℕ) (sb : List (ℕ × ℕ)) (s k : ℕ) → Memᴰ k (indices_in j sb s) → k < j + length sb
unfolding indices_in
indices_within j [] s k m = absurd (Memᴰ.not-nil m)
indices_within j (q ∷ sb) s k m = by (eqb q.0 s) m (λ n. indices_within (suc j) sb s k n)
  where
    by : (t : Bool) → Memᴰ k (cond t (j ∷ indices_in (suc j) sb s) (indices_in (suc j) sb s)) → (Memᴰ k (indices_in (suc j) sb s) → k < suc j + length sb) → k < j + suc (length sb)
    by true (Memᴰ.head e) f = omega arith
    by true (Memᴰ.tail n) f = omega (arith, f n)
    by false n f = omega (arith, f n)

in_order : (sb : List (ℕ × ℕ)) (p : ScanPath) (k : ℕ) → Memᴰ k (order sb p) → k < length sb
unfolding order
in_order sb [] k m = absurd (Memᴰ.not-nil m)
in_order sb (h ∷ p) k m = by (Memᴰ.append_cases (indices_in 0 sb h.number) m) (λ n. in_order sb p k n)
  where
    by : Memᴰ k (indices_in 0 sb h.number) ⊎ Memᴰ k (order sb p) → (Memᴰ k (order sb p) → k < length sb) → k < length sb
    by (inl n) f = omega (arith, indices_within 0 sb h.number k n)
    by (inr n) f = f n

pub order_within : (sb : List (ℕ × ℕ)) (p : ScanPath) (i : ℕ) → i < length (order sb p) → get_or (order sb p) i 0 < length sb
order_within sb p i l = in_order sb p (get_or (order sb p) i 0) (get_d_in (order sb p) i 0 l)

-- how many steering bits are on a path
unfoldable on_count : ScanPath → List (ℕ × ℕ) → ℕ
on_count p [] = 0
on_count p (q ∷ sb) = bit_value (on p q.0) + on_count p sb

on_count_short : (p : ScanPath) (sb : List (ℕ × ℕ)) → on_count p sb ≤ length sb
unfolding on_count
on_count_short p [] = omega arith
on_count_short p (q ∷ sb) = by (on p q.0) (on_count_short p sb)
  where
    by : (t : Bool) → on_count p sb ≤ length sb → bit_value t + on_count p sb ≤ suc (length sb)
    by true h = omega arith
    by false h = omega arith

pub falls_off : (ns : List Node) (m : ℕ) (p : ScanPath) (s : ℕ) → Falls ns m p → m ≤ s → on p s ≡ false
falls_off ns m [] s f le = refl
falls_off ns m (h ∷ p) s f le =
    let l : h.number < m = f.1 in
    rw (ne_eqb h.number s (λ e. omega arith)) (falls_off ns h.number p s f.3 (omega arith))

on_count_law : (j s : ℕ) (p : ScanPath) → on p s ≡ false → (sb : List (ℕ × ℕ)) (h : PathSegment) → h.number ≡ s → length (indices_in j sb s) + on_count p sb ≡ on_count (h ∷ p) sb
unfolding indices_in on_count
on_count_law j s p off [] h e = refl
on_count_law j s p off (q ∷ sb) h e = by (eqb q.0 s) refl (on_count_law (suc j) s p off sb h e)
  where
    by : (t : Bool) → eqb q.0 s ≡ t → length (indices_in (suc j) sb s) + on_count p sb ≡ on_count (h ∷ p) sb
        → length (cond t (j ∷ indices_in (suc j) sb s) (indices_in (suc j) sb s)) + (bit_value (on p q.0) + on_count p sb) ≡ bit_value (eqb h.number q.0 || on p q.0) + on_count (h ∷ p) sb
    by true t ih =
        let z : q.0 ≡ s = eqb_is q.0 s t in
        rw (eq-eqb h.number q.0 (e ∙ sym z), ap (on p) z ∙ off) (omega arith)
    by false t ih = rw (ne_eqb h.number q.0 (λ z. eqb-false q.0 s t (sym z ∙ e))) (omega arith)

none_on : (sb : List (ℕ × ℕ)) → 0 ≡ on_count [] sb
unfolding on_count
none_on [] = refl
none_on (q ∷ sb) = omega (arith, none_on sb)

on_order : (ns : List Node) (sb : List (ℕ × ℕ)) (m : ℕ) (p : ScanPath) → Falls ns m p → length (order sb p) ≡ on_count p sb
unfolding order
on_order ns sb m [] f = none_on sb
on_order ns sb m (h ∷ p) f =
    length-append (indices_in 0 sb h.number) (order sb p)
    ∙ rw (on_order ns sb h.number p f.3) (on_count_law 0 h.number p (falls_off ns h.number p h.number f.3 (omega arith)) sb h refl)

pub order_short : (ns : List Node) (sb : List (ℕ × ℕ)) (m : ℕ) (p : ScanPath) → Falls ns m p → length (order sb p) ≤ length sb
order_short ns sb m p f = omega (arith, on_order ns sb m p f, on_count_short p sb)
