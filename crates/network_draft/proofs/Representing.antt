-- Laws of the arrays that represent a draft.
-- Assumes nothing.
use mathlib.Core.Path.{◌≡◌, refl, sym, ap, ◌∙◌, subst}
use mathlib.Core.Bool.{Bool, true, false, ◌||◌}
use mathlib.Core.List.{List, [], ◌∷◌, ◌++◌}
use Prim.Native.Nat.{ℕ, zero, suc, ◌+◌, ◌≤◌, ◌<◌}
use native.Mathlib.Omega.{arith}
use native.Mathlib.Decide.{dec_lt}
use lib.ListN.{length, get_or, get_or-eq_default}
use lib.Dec.{leb, ltb}
use borrow.Author.Tests.{ltb-false}
use Rattle.model.specs.Limits.{max_len}
use Rattle.model.specs.Network.{Node, segment, multiplexer, no_node, len_of, steers, steers_at, at}
use Rattle.model.specs.Path.{node_of}
use Rattle.model.specs.NetworkText.{Draft, has_out, is_some, outside}
use Rattle.model.specs.Drafted.{GoodForm}
use Rattle.model.proofs.Lists.{or_parts, length_tabulate, get_d_tabulate, or_false_right, or_assoc}
use Rattle.network_words.specs.Words.{word_width}
use Rattle.network_path.specs.Layout.{field_at, node_at, nodes_of}
use Rattle.network_draft.specs.declared.store.Summary.{Summary}
use Rattle.network_draft.specs.Store.{NumbersStored}
use Rattle.network_draft.specs.Numbers.{numbers_for}
use Rattle.network_draft.specs.Represents.{feeds_of, Formed, Short, Arrays, Represents}
use Rattle.network_draft.proofs.Nodes.{node_by_fields, node_numbers_law}

-- ---- one element more

pub snoc_last : {A : Type 0} (l : List A) (x d : A) → get_or (l ++ x ∷ []) (length l) d ≡ x
snoc_last [] x d = refl
snoc_last (y ∷ l) x d = snoc_last l x d

pub snoc_other : {A : Type 0} (l : List A) (x d : A) (n : ℕ) → (n ≡ length l → ⊥) → get_or (l ++ x ∷ []) n d ≡ get_or l n d
snoc_other [] x d zero ne = absurd (ne refl)
snoc_other [] x d (suc n) ne = refl
snoc_other (y ∷ l) x d zero ne = refl
snoc_other (y ∷ l) x d (suc n) ne = snoc_other l x d n (λ z. ne (ap suc z))

-- ---- nodes

-- steering bits of one node more
pub steers_more : (ns : List Node) (x : Node) (s b : ℕ) → steers (ns ++ x ∷ []) s b ≡ (steers ns s b || steers_at x s b)
unfolding steers
steers_more [] x s b = or_false_right (steers_at x s b)
steers_more (n ∷ ns) x s b = ap (λ (t : Bool). steers_at n s b || t) (steers_more ns x s b) ∙ or_assoc (steers_at n s b) (steers ns s b) (steers_at x s b)

-- no segment is longer than a word
pub len_small : (k : ℕ) (x : Node) → outside max_len k x ≡ false → len_of x ≤ word_width
len_small k (segment from len sh) e = let l = ltb-false max_len len (or_parts (leb k from || ltb len 1) (ltb max_len len) e).1 in omega arith
len_small k (multiplexer s b ins) e = omega arith

-- ---- what a representation says

module _ {a : Arrays} {t : Summary} {d : Draft} {n : ℕ} (w : Represents a t d n) where
  pub represented_out : has_out d ≡ t.has_out
  represented_out = ap is_some (sym w.out_is) ∙ go t.has_out t.out
    where
      go : (b : Bool) (k : ℕ) → is_some (feeds_of b k) ≡ b
      go true k = refl
      go false k = refl

  pub represented_count : length d.nodes ≡ t.count
  represented_count = ap length (sym w.nodes_are) ∙ length_tabulate (node_at a.nodes) 1 t.count

  pub represented_targets : length d.targets ≡ t.target_count
  represented_targets = ap length (sym w.targets_are) ∙ length_tabulate _ 0 t.target_count

  -- node k of the draft
  pub represented_node : (k : ℕ) → 1 ≤ k → k ≤ t.count → at d.nodes k no_node ≡ node_at a.nodes k
  represented_node zero lo hi = absurd (omega arith)
  represented_node (suc k) lo hi =
      ap (λ (l : List Node). get_or l k no_node) (sym w.nodes_are) ∙ get_d_tabulate (node_at a.nodes) 1 t.count k no_node (omega arith)
      ∙ ap (node_at a.nodes) (let z : 1 + k ≡ suc k = omega arith in z)

  -- the number of its kind
  kind_small : (k : ℕ) → field_at a.nodes k 0 ≤ 4
  kind_small k = subst (λ (x : ℕ). x ≤ 4) (sym (w.numbers_are k 0 (omega arith))) (go k)
    where
      go : (k : ℕ) → get_or (numbers_for (at d.nodes k no_node)) 0 0 ≤ 4
      go zero = omega arith
      go (suc k) = by (dec_lt k (length d.nodes))
        where
          by : Dec (k < length d.nodes) → get_or (numbers_for (get_or d.nodes k no_node)) 0 0 ≤ 4
          by (yes l) = (node_numbers_law (get_or d.nodes k no_node) (w.sound.nodes_placed k l).form).kind
          by (no l) = let e = ap (λ (x : Node). get_or (numbers_for x) 0 0) (get_or-eq_default d.nodes no_node {n = k} (omega arith)) in omega arith

  -- where a node is stored, the others stay
  pub kept_node : (numbers ns' : List ℕ) (j : ℕ) → NumbersStored a.nodes j numbers ns' → (k : ℕ) → (k ≡ j → ⊥) → node_at ns' k ≡ node_at a.nodes k
  kept_node numbers ns' j s k ne = node_by_fields ns' a.nodes k k (λ i h. s.others k i ne h) (kind_small k)

  -- a LEN that was looked up
  pub represented_len : (r s : ℕ) → r ≡ len_of (node_of (nodes_of a.nodes t.count) s) → len_of (at d.nodes s no_node) ≡ r
  represented_len r s e = ap (λ (l : List Node). len_of (at l s no_node)) (sym w.nodes_are) ∙ sym e

  pub represented_short : (s : ℕ) → len_of (at d.nodes s no_node) ≤ word_width
  represented_short zero = omega arith
  represented_short (suc k) = go (dec_lt k (length d.nodes))
    where
      go : Dec (k < length d.nodes) → len_of (get_or d.nodes k no_node) ≤ word_width
      go (yes l) = len_small (suc k) (get_or d.nodes k no_node) (w.sound.nodes_placed k l).within
      go (no l) = let e = ap len_of (get_or-eq_default d.nodes no_node {n = k} (omega arith)) in omega arith

  pub represented_formed : Formed a.nodes t.count
  represented_formed zero lo hi = absurd (omega arith)
  represented_formed (suc k) lo hi = subst GoodForm (represented_node (suc k) lo hi) (w.sound.nodes_placed k (omega (arith, represented_count))).form

  pub represented_words : Short a.nodes t.count
  represented_words k lo hi = let e = ap len_of (represented_node k lo hi) in omega (arith, represented_short k)
