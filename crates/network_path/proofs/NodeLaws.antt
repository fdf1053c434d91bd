-- Laws of a node's numbers: what kind of node they are, and what is safe of it.
-- Assumes nothing.
use mathlib.Core.Path.{◌≡◌, refl, ap, ◌∙◌, subst}
use mathlib.Core.Bool.{Bool, true, false, cond}
use Rattle.std.specs.Prelude.{None as none, Some as some}
use mathlib.Core.List.{List, [], ◌∷◌}
use Prim.Native.Nat.{ℕ, zero, suc, ◌+◌, ◌<◌, ◌≤◌}
use native.Mathlib.Nat.{suc-add, add-suc, add-zero, not-suc-le-zero, le_of_suc-le-suc}
use native.Mathlib.Omega.{arith}
use borrow.Author.Tests.{lt-ltb, le-ltb}
use lib.Dec.{eqb, leb}
use lib.ListN.{length, get_or-eq_default}
use Rattle.std.specs.Prelude.{slice_get}
use Rattle.model.specs.Network.{segment, multiplexer, at, no_node, tabulate}
use Rattle.model.proofs.Lists.{length_tabulate, get_d_tabulate}
use Rattle.network_words.specs.Words.{word_width}
use Rattle.network_path.specs.Layout.{field_at, inputs_at, node_at, nodes_of, SafeNode}

pub get_elem_tabulate : {A : Type 0} (f : ℕ → A) (i n x : ℕ) → x < n → slice_get (tabulate f i n) x ≡ some (f (i + x))
get_elem_tabulate f i zero x h = absurd (not-suc-le-zero h)
get_elem_tabulate f i (suc n) zero h = rw add-zero
get_elem_tabulate f i (suc n) (suc x) h = rw (add-suc, ← (suc-add i x)) (get_elem_tabulate f (suc i) n x (le_of_suc-le-suc h))

pub get_elem_beyond : {A : Type 0} (l : List A) (x : ℕ) → length l ≤ x → slice_get l x ≡ none
get_elem_beyond [] x h = refl
get_elem_beyond (a ∷ l) zero h = absurd (not-suc-le-zero h)
get_elem_beyond (a ∷ l) (suc x) h = get_elem_beyond l x (le_of_suc-le-suc h)

at_least_one : (t : Bool) → 1 ≤ cond t 1 2
at_least_one true = omega arith
at_least_one false = omega arith

module _ (ns : List ℕ) (k kind : ℕ) (is : kind ≡ field_at ns k 0) where
  pub segment_at_law : kind < 2 → node_at ns k ≡ segment (field_at ns k 1) (field_at ns k 2) (eqb (field_at ns k 0) 1)
  unfolding node_at
  segment_at_law h = simp (lt-ltb (field_at ns k 0) 2 (omega arith))

  pub mux_at : 2 ≤ kind → node_at ns k ≡ multiplexer (field_at ns k 1) (field_at ns k 2) (inputs_at ns k)
  unfolding node_at
  mux_at h = simp (le-ltb (field_at ns k 0) 2 (omega arith))

  -- SEG, BIT and the count of inputs of a safe multiplexer
  pub safe_mux : 2 ≤ kind → SafeNode k (node_at ns k) → (field_at ns k 1 < 129) × (field_at ns k 2 < word_width) × (kind ≤ 4)
  safe_mux h s =
      let q = subst (SafeNode k) (mux_at h) s in
      let one = at_least_one (leb (length (inputs_at ns k)) 2) in
      (q.1, omega (arith, q.2), omega (arith, q.4, length_tabulate (λ i. field_at ns k (4 + i)) 0 (field_at ns k 0)))

-- ---- a node by its number, among so many

pub node_in : (ns : List ℕ) (count k : ℕ) → 1 ≤ k → k ≤ count → at (nodes_of ns count) k no_node ≡ node_at ns k
node_in ns count zero lo hi = absurd (omega arith)
node_in ns count (suc k) lo hi = get_d_tabulate (node_at ns) 1 count k no_node (omega arith) ∙ ap (node_at ns) (let z : 1 + k ≡ suc k = omega arith in z)

pub node_zero : (ns : List ℕ) (count k : ℕ) → k < 1 → at (nodes_of ns count) k no_node ≡ no_node
node_zero ns count zero l = refl
node_zero ns count (suc k) l = absurd (omega arith)

pub node_beyond : (ns : List ℕ) (count k : ℕ) → count < k → at (nodes_of ns count) k no_node ≡ no_node
node_beyond ns count zero l = absurd (omega arith)
node_beyond ns count (suc k) l = get_or-eq_default (nodes_of ns count) no_node (omega (arith, length_tabulate (node_at ns) 1 count))
