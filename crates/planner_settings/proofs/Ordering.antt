-- Laws of the loops that list the steering bits on a path.
-- Assumes nothing.
use mathlib.Core.Path.{◌≡◌, refl, sym, ap, ◌∙◌}
use mathlib.Core.Bool.{cond}
use mathlib.Core.List.{List, [], ◌∷◌, ◌++◌, append_assoc, append-nil, Memᴰ}
use Prim.Native.Nat.{ℕ, suc, ◌+◌, ◌-◌, ◌≤◌, ◌<◌}
use native.Mathlib.Numerals.{add-one}
use native.Mathlib.Omega.{arith}
use lib.Dec.{eqb}
use lib.ListN.{length, get_or, set, take, drop, length-set, length-append}
use lib.Seq.{take-suc-set, length-take-le}
use borrow.Author.Tests.{eq-eqb, ne_eqb}
use Rattle.model.specs.Network.{len_of, no_node, tabulate}
use Rattle.model.proofs.Walking.{Falls}
use Rattle.network_path.specs.Layout.{node_at, nodes_of, scan_path, Way}
use Rattle.network_path.specs.Answers.{HoldsPath}
use Rattle.network_path.proofs.ConfigLaws.{at_tabulate}
use Rattle.network_path.proofs.PathLaws.{segment_on, path_end}
use Rattle.planner_theory.specs.Settings.{indices_in, order}
use Rattle.planner_theory.proofs.Order.{indices_none, order_short}
use Rattle.planner_steering.specs.declared.SteeringBit.{SteeringBit}
use Rattle.planner_steering.specs.Steering.{segment_at, pair_at, bits_of}
use Rattle.planner_settings.specs.Route.{Room, IndicesBehind, Steers, Ordered}
use Rattle.planner_steering.proofs.Listing.{length_bits}
use Rattle.planner_steering.proofs.Wording.{pair_at_law, index_in}

-- ---- the indices of one segment: those listed and those to come make the whole

abbrev indices_from : List SteeringBit → ℕ → ℕ → ℕ → List ℕ
indices_from listed k s j = indices_in j (tabulate (pair_at listed) j (k - j)) s

pub record Indexing (listed : List SteeringBit) (k s : ℕ) (old : List ℕ) (n j : ℕ) (new : List ℕ) (m : ℕ) : Type 0 where
  pub passed : j ≤ k
  pub whole : take m new ++ indices_from listed k s j ≡ take n old ++ indices_in 0 (bits_of listed k) s
  pub sized : length new ≡ 6
  pub room : m + length (indices_from listed k s j) ≤ 6

module _ (listed : List SteeringBit) (k s : ℕ) (old : List ℕ) (n : ℕ) where
  module _ (j : ℕ) (new : List ℕ) (m : ℕ) (lt : j < k) (p : Indexing listed k s old n j new m) where
    step : indices_from listed k s j ≡ cond (eqb (segment_at listed j) s) (j ∷ indices_from listed k s (j + 1)) (indices_from listed k s (j + 1))
    unfolding indices_in
    step = let e : k - j ≡ suc (k - (j + 1)) = omega arith in rw (e, add-one j) refl

    here : segment_at listed j ≡ s → indices_from listed k s j ≡ j ∷ indices_from listed k s (j + 1)
    here e = step ∙ rw (eq-eqb (segment_at listed j) s e)

    pub indexing_room : segment_at listed j ≡ s → m < 6
    indexing_room e = omega (arith, p.room, ap length (here e))

    pub indexing_hit : segment_at listed j ≡ s → Indexing listed k s old n (j + 1) (set new m j) (m + 1)
    indexing_hit e = record {
      passed = omega arith;
      whole =
          ap (λ (l : List ℕ). l ++ indices_from listed k s (j + 1))
          (ap (λ (i : ℕ). take i (set new m j)) (add-one m) ∙ take-suc-set new m j (omega (arith, indexing_room e, p.sized)))
          ∙ append_assoc (take m new) (j ∷ []) (indices_from listed k s (j + 1)) ∙ ap (λ (l : List ℕ). take m new ++ l) (sym (here e)) ∙ p.whole;
      sized = length-set new m j ∙ p.sized;
      room = omega (arith, p.room, ap length (here e));
    }

    pub indexing_miss : (segment_at listed j ≡ s → ⊥) → Indexing listed k s old n (j + 1) new m
    indexing_miss ne =
        let on : indices_from listed k s j ≡ indices_from listed k s (j + 1) = step ∙ rw (ne_eqb (segment_at listed j) s ne) in
        record {
          passed = omega arith;
          whole = ap (λ (l : List ℕ). take m new ++ l) (sym on) ∙ p.whole;
          sized = p.sized;
          room = omega (arith, p.room, ap length on);
        }

  pub indexing_all : (j : ℕ) (new : List ℕ) (m : ℕ) → k ≤ j → Indexing listed k s old n j new m → IndicesBehind listed k s old n new m
  unfolding indices_in
  indexing_all j new m l p =
      let e : k - j ≡ 0 = omega arith in
      record { lists = sym (append-nil (take m new)) ∙ (rw e at (p.whole)); most = omega (arith, p.room); sized = p.sized }

-- a segment without steering bits, as its word of them tells
pub indexing_clear : (steering : List ℕ) (listed : List SteeringBit) (k s : ℕ) (old : List ℕ) (n : ℕ) → Steers steering listed k → length old ≡ 6 → n ≤ 6 → get_or steering s 0 ≡ 0
    → IndicesBehind listed k s old n old n
indexing_clear steering listed k s old n steers sized most clear = record {
  lists = sym (append-nil (take n old)) ∙ ap (λ (l : List ℕ). take n old ++ l) (sym (indices_none 0 (bits_of listed k) s (λ q m e. other q m e)));
  most = most;
  sized = sized;
}
  where
    other : (q : ℕ × ℕ) → Memᴰ q (bits_of listed k) → q.0 ≡ s → ⊥
    other q m e =
        let r = index_in (bits_of listed k) (0, 0) q m in
        let small : r.0 < k = omega (arith, r.1, length_bits listed k) in
        let here : segment_at listed r.0 ≡ s = ap (λ (p : ℕ × ℕ). p.0) (sym (pair_at_law listed k r.0 small) ∙ r.2) ∙ e in
        steers r.0 small (ap (λ (i : ℕ). get_or steering i 0) here ∙ clear)

-- ---- the order of a path: its bounds

falls_of : (ns : List ℕ) (count m : ℕ) (ks : List ℕ) → m ≤ suc count → Way ns m ks → Falls (nodes_of ns count) m (scan_path ns ks)
falls_of ns count m [] l w = tt
falls_of ns count m (k ∷ ks) l w =
    let lt : k < m = w.1 in
    (w.0, lt, ap len_of (sym (at_tabulate (node_at ns) count k no_node w.0 (omega arith))), falls_of ns count k ks (omega arith) w.4)

-- the order goes by the numbers of the segments alone
order_numbers : (sb : List (ℕ × ℕ)) (ns ns' ks : List ℕ) → order sb (scan_path ns ks) ≡ order sb (scan_path ns' ks)
unfolding order
order_numbers sb ns ns' [] = refl
order_numbers sb ns ns' (k ∷ ks) = ap (λ (l : List ℕ). indices_in 0 sb k ++ l) (order_numbers sb ns ns' ks)

order_few : (sb : List (ℕ × ℕ)) (ns ns' way : List ℕ) (n count : ℕ) → 128 ≤ count → HoldsPath ns way n → length (order sb (scan_path ns' (take n way))) ≤ length sb
order_few sb ns ns' way n count l h =
    omega (arith, ap length (order_numbers sb ns' ns (take n way)), order_short (nodes_of ns count) sb 129 (scan_path ns (take n way)) (falls_of ns count 129 (take n way) (omega arith) h.falls))

-- ---- the segments of the path in turn

pub record Ordering (listed : List SteeringBit) (k : ℕ) (way : List ℕ) (n i : ℕ) (new : List ℕ) (m : ℕ) : Type 0 where
  pub passed : i ≤ n
  pub whole : (ns : List ℕ) → take m new ++ order (bits_of listed k) (scan_path ns (drop i (take n way))) ≡ order (bits_of listed k) (scan_path ns (take n way))
  pub sized : length new ≡ 6
  pub most : m ≤ 6

module _ (listed : List SteeringBit) (k : ℕ) (few : k ≤ 6) (way : List ℕ) (n : ℕ) (held : List ℕ) (h : HoldsPath held way n) where
  path_few : (ns : List ℕ) → length (order (bits_of listed k) (scan_path ns (take n way))) ≤ 6
  path_few ns = omega (arith, order_few (bits_of listed k) held ns way n 128 (omega arith) h, length_bits listed k)

  module _ (i : ℕ) (new : List ℕ) (m : ℕ) (s : ℕ) (lt : i < n) (is : s ≡ get_or way i 0) (p : Ordering listed k way n i new m) where
    order_step : (ns : List ℕ) → order (bits_of listed k) (scan_path ns (drop i (take n way)))
        ≡ indices_in 0 (bits_of listed k) s ++ order (bits_of listed k) (scan_path ns (drop (i + 1) (take n way)))
    unfolding order
    order_step ns = ap (λ (ks : List ℕ). order (bits_of listed k) (scan_path ns ks)) (segment_on held way n h i s lt is).splits

    -- what `indices_at` asks
    pub ordering_within : s ≤ 128
    ordering_within = omega (arith, (segment_on held way n h i s lt is).below)

    pub ordering_room : Room listed k s m
    ordering_room =
        let rest = order (bits_of listed k) (scan_path held (drop (i + 1) (take n way))) in
        let whole : take m new ++ (indices_in 0 (bits_of listed k) s ++ rest) ≡ order (bits_of listed k) (scan_path held (take n way)) =
        ap (λ (l : List ℕ). take m new ++ l) (sym (order_step held)) ∙ p.whole held in
        omega (
          arith,
          ap length whole,
          length-append (take m new) (indices_in 0 (bits_of listed k) s ++ rest),
          length-append (indices_in 0 (bits_of listed k) s) rest,
          length-take-le m new (omega (arith, p.most, p.sized)),
          path_few held,
        )

    pub ordering_more : (new' : List ℕ) (r : ℕ) → IndicesBehind listed k s new m new' r → Ordering listed k way n (i + 1) new' r
    ordering_more new' r q = record {
      passed = omega arith;
      whole = λ ns.
          ap (λ (l : List ℕ). l ++ order (bits_of listed k) (scan_path ns (drop (i + 1) (take n way)))) (q.lists)
          ∙ append_assoc (take m new) (indices_in 0 (bits_of listed k) s) (order (bits_of listed k) (scan_path ns (drop (i + 1) (take n way))))
          ∙ ap (λ (l : List ℕ). take m new ++ l) (sym (order_step ns)) ∙ p.whole ns;
      sized = q.sized;
      most = q.most;
    }

  pub ordering_all : (i : ℕ) (new : List ℕ) (m : ℕ) → n ≤ i → Ordering listed k way n i new m → Ordered listed k way n new m
  unfolding order
  ordering_all i new m l p = record {
    lists = λ ns. sym (append-nil (take m new)) ∙ (rw (path_end held way n h i l) at (p.whole ns));
    most = p.most;
    sized = p.sized;
  }
