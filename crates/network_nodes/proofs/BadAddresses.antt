-- Laws of refusal 5: whether a node's address is outside a segment with shadow, and the first such node.
-- Assumes nothing.
use mathlib.Core.Path.{◌≡◌, refl, sym, ap, ◌∙◌}
use mathlib.Core.Bool.{Bool, true, false, cond, not}
use Rattle.std.specs.Prelude.{Option, None as none, Some as some}
use mathlib.Core.List.{List, ◌∷◌}
use Prim.Native.Nat.{ℕ, zero, suc, ◌+◌, ◌-◌, ◌≤◌, ◌<◌}
use native.Mathlib.Omega.{arith}
use native.Mathlib.Decide.{dec_le, dec_lt}
use native.Mathlib.Numerals.{add-one}
use lib.ListN.{length}
use lib.Dec.{leb}
use borrow.Author.Tests.{le-leb, lt-leb, eq-eqb, ne_eqb}
use Rattle.model.specs.Network.{segment, has_shadow, address_bits, tabulate}
use Rattle.model.specs.NetworkText.{bad_address, first_bad}
use Rattle.model.proofs.Lists.{length_tabulate}
use Rattle.network_path.specs.Layout.{field_at, inputs_at, node_at, nodes_of}
use Rattle.network_path.proofs.NodeLaws.{segment_at_law, mux_at, node_in, node_zero, node_beyond}

no_shadow : (ns : List ℕ) (k : ℕ) → (field_at ns k 0 ≡ 1 → ⊥) → has_shadow (node_at ns k) ≡ false
no_shadow ns k ne = go (dec_lt (field_at ns k 0) 2)
  where
    go : Dec (field_at ns k 0 < 2) → has_shadow (node_at ns k) ≡ false
    go (yes h) = ap has_shadow (segment_at_law ns k (field_at ns k 0) refl h) ∙ ne_eqb (field_at ns k 0) 1 ne
    go (no h) = ap has_shadow (mux_at ns k (field_at ns k 0) refl (omega arith))

shadow_segment : (ns : List ℕ) (k : ℕ) → field_at ns k 0 ≡ 1 → node_at ns k ≡ segment (field_at ns k 1) (field_at ns k 2) true
shadow_segment ns k e = segment_at_law ns k (field_at ns k 0) refl (omega arith) ∙ ap (segment (field_at ns k 1) (field_at ns k 2)) (eq-eqb (field_at ns k 0) 1 e)

-- ---- the tests

turned : (l m : ℕ) → leb l m ≡ not (leb (suc m) l)
turned l m = go (dec_le l m)
  where
    go : Dec (l ≤ m) → leb l m ≡ not (leb (suc m) l)
    go (yes h) = rw (le-leb l m h, lt-leb (suc m) l (omega arith))
    go (no h) = rw (lt-leb l m (omega arith), le-leb (suc m) l (omega arith))

module _ (ns : List ℕ) (count k : ℕ) where
  abbrev Bad : Bool → Type 0
  Bad r = r ≡ bad_address (nodes_of ns count) (node_at ns k)

  pub bad_segment : field_at ns k 0 < 2 → Bad false
  bad_segment h = rw (segment_at_law ns k (field_at ns k 0) refl h)

  module _ (mux : 2 ≤ field_at ns k 0) where
    pub bad_zero : field_at ns k 1 < 1 → Bad true
    bad_zero h = rw (mux_at ns k (field_at ns k 0) refl mux, node_zero ns count (field_at ns k 1) h)

    pub bad_beyond : count < field_at ns k 1 → Bad true
    bad_beyond h = rw (mux_at ns k (field_at ns k 0) refl mux, node_beyond ns count (field_at ns k 1) h)

    module _ (lo : 1 ≤ field_at ns k 1) (hi : field_at ns k 1 ≤ count) where
      pub bad_plain : (field_at ns (field_at ns k 1) 0 ≡ 1 → ⊥) → Bad true
      bad_plain h = rw (mux_at ns k (field_at ns k 0) refl mux, node_in ns count (field_at ns k 1) lo hi, no_shadow ns (field_at ns k 1) h)

      module _ (s : field_at ns (field_at ns k 1) 0 ≡ 1) where
        abbrev L : ℕ
        L = field_at ns (field_at ns k 1) 2

        abbrev T : ℕ
        T = field_at ns k 2

        by_bits : (n : ℕ) → address_bits (inputs_at ns k) ≡ n → bad_address (nodes_of ns count) (node_at ns k) ≡ not (leb (T + n) L)
        by_bits n e = rw (mux_at ns k (field_at ns k 0) refl mux, node_in ns count (field_at ns k 1) lo hi, shadow_segment ns (field_at ns k 1) s, e)

        inputs : length (inputs_at ns k) ≡ field_at ns k 0
        inputs = length_tabulate _ 0 (field_at ns k 0)

        pub bad_one : field_at ns k 0 ≡ 2 → Bad (leb L T)
        bad_one h = turned L T ∙ ap (λ (x : ℕ). not (leb x L)) (sym (add-one T)) ∙ sym (by_bits 1 (ap (λ (x : ℕ). cond (leb x 2) 1 2) (inputs ∙ h)))

        two : (field_at ns k 0 ≡ 2 → ⊥) → address_bits (inputs_at ns k) ≡ 2
        two h = rw (inputs, lt-leb (field_at ns k 0) 2 (omega arith))

        pub bad_empty : (field_at ns k 0 ≡ 2 → ⊥) → L ≡ 0 → Bad true
        bad_empty h e = sym (by_bits 2 (two h) ∙ ap not (lt-leb (T + 2) L (omega arith)))

        pub bad_two : (field_at ns k 0 ≡ 2 → ⊥) → (L ≡ 0 → ⊥) → Bad (leb (L - 1) T)
        bad_two h e = go (dec_le (L - 1) T) ∙ sym (by_bits 2 (two h))
          where
            go : Dec (L - 1 ≤ T) → leb (L - 1) T ≡ not (leb (T + 2) L)
            go (yes q) = rw (le-leb (L - 1) T q, lt-leb (T + 2) L (omega arith))
            go (no q) = rw (lt-leb (L - 1) T (omega arith), le-leb (T + 2) L (omega arith))

-- ---- the first

-- from node k on
unfoldable pub bad_from : List ℕ → ℕ → ℕ → Option ℕ
bad_from ns count k = first_bad (nodes_of ns count) k (tabulate (node_at ns) k (count + 1 - k))

module _ (ns : List ℕ) (count k : ℕ) where
  split : k ≤ count → tabulate (node_at ns) k (count + 1 - k) ≡ node_at ns k ∷ tabulate (node_at ns) (k + 1) (count + 1 - (k + 1))
  split h =
      let e : count + 1 - k ≡ suc (count + 1 - (k + 1)) = omega arith in
      ap (tabulate (node_at ns) k) e ∙ ap (λ (x : ℕ). node_at ns k ∷ tabulate (node_at ns) x (count + 1 - (k + 1))) (sym (add-one k))

  pub bad_start : k ≡ 1 → bad_from ns count k ≡ first_bad (nodes_of ns count) 1 (nodes_of ns count)
  unfolding bad_from
  bad_start e = let f : count + 1 - 1 ≡ count = omega arith in rw (e, f)

  pub bad_hit : k ≤ count → bad_address (nodes_of ns count) (node_at ns k) ≡ true → some k ≡ bad_from ns count k
  unfolding bad_from first_bad
  bad_hit h e = sym (ap (first_bad (nodes_of ns count) k) (split h) ∙ rw e)

  pub bad_miss : k ≤ count → bad_address (nodes_of ns count) (node_at ns k) ≡ false → bad_from ns count (k + 1) ≡ bad_from ns count k
  unfolding bad_from first_bad
  bad_miss h e = ap (λ (x : ℕ). first_bad (nodes_of ns count) x (tabulate (node_at ns) (k + 1) (count + 1 - (k + 1)))) (add-one k) ∙ sym (ap (first_bad (nodes_of ns count) k) (split h) ∙ rw e)

  pub bad_end : count < k → none ≡ bad_from ns count k
  unfolding bad_from first_bad
  bad_end h = let e : count + 1 - k ≡ 0 = omega arith in rw e
