-- Laws for the callers: the nodes and the configuration of the arrays, and that the walk over the arrays is the model's walk.
-- Assumes nothing.
use mathlib.Core.Path.{◌≡◌, refl, sym, ap, subst, ◌∙◌}
use mathlib.Core.Bool.{Bool, true, false, cond}
use Rattle.std.specs.Prelude.{Option, None as none, Some as some, option_map}
use mathlib.Core.List.{List, [], ◌∷◌}
use Prim.Native.Nat.{ℕ, zero, suc, ◌+◌, ◌<◌, ◌≤◌}
use native.Mathlib.Nat.{zero-add, not-suc-le-zero, le_of_suc-le-suc}
use native.Mathlib.Omega.{arith}
use borrow.Author.Tests.{leb-true, leb-false}
use lib.Dec.{leb}
use lib.ListN.{length, get_or, get_or-eq_default}
use Rattle.std.specs.Prelude.{slice_get}
use Rattle.model.specs.Network.{Node, segment, multiplexer, at, no_node, has_shadow, len_of, address_bits, tabulate}
use Rattle.model.specs.Path.{Walk, bit_of, value_of, address, pick, walk_from, node_of}
use Rattle.model.specs.Text.{Trit}
use Rattle.model.specs.Accepted.{GoodNode, GoodMux}
use Rattle.model.proofs.Lists.{length_tabulate, get_d_tabulate, true_false}
use Rattle.network_words.specs.Words.{word_width, trit_at, trits_of}
use Rattle.network_path.specs.Layout.{node_at, nodes_of, config_of, look_in, SafeNode, Safe}
use Rattle.network_path.specs.Answers.{step_of, Walked, told, FindsPath}
use Rattle.network_path.specs.declared.walk.Step.{Step}
use Rattle.network_path.specs.declared.walk.Step.TheVariants.{Segment, Input}
use Rattle.network_path.proofs.WalkLaws.{followed, visit_step, Below, step_below}

-- ---- the walk goes by the step and the LEN of each node up to its first

pub record SameStep (look look' : ℕ → ℕ → Trit) (k : ℕ) (nd nd' : Node) : Type 0 where
  pub as_long : len_of nd ≡ len_of nd'
  pub step : step_of look nd ≡ step_of look' nd'
  pub below : Below k (step_of look nd)

followed_cong : (k len : ℕ) (s : Option Step) (go go' : ℕ → Walk) → Below k s → ((m : ℕ) → m < k → go m ≡ go' m) → followed k len s go ≡ followed k len s go'
followed_cong k len (some (Segment m)) go go' b e = rw (e m b)
followed_cong k len (some (Input m)) go go' b e = e m b
followed_cong k len none go go' b e = refl

module _ (node node' : ℕ → Node) (look look' : ℕ → ℕ → Trit) (n : ℕ) (same : (m : ℕ) → 1 ≤ m → m ≤ n → SameStep look look' m (node m) (node' m)) where
  pub walk_cong : (f m : ℕ) → m ≤ n → walk_from node look f m ≡ walk_from node' look' f m
  unfolding walk_from
  walk_cong zero m l = refl
  walk_cong (suc f) zero l = refl
  walk_cong (suc f) (suc m) l =
      let go : ℕ → Walk = λ i. walk_from node look f i in
      let go' : ℕ → Walk = λ i. walk_from node' look' f i in
      let s = same (suc m) (omega arith) l in
      visit_step look (suc m) (node (suc m)) go
      ∙ followed_cong (suc m) (len_of (node (suc m))) (step_of look (node (suc m))) go go' s.below (λ i b. walk_cong f i (omega arith))
      ∙ ap (λ (x : Option Step). followed (suc m) (len_of (node (suc m))) x go') s.step ∙ ap (λ (len : ℕ). followed (suc m) len (step_of look' (node' (suc m))) go') s.as_long
      ∙ sym (visit_step look' (suc m) (node' (suc m)) go')

-- ---- looking up a list that is tabulated from number 1 on

pub at_tabulate : {A : Type 0} (f : ℕ → A) (count k : ℕ) (d : A) → 1 ≤ k → k ≤ count → at (tabulate f 1 count) k d ≡ f k
at_tabulate f count zero d a b = absurd (not-suc-le-zero a)
at_tabulate f count (suc n) d a b = get_d_tabulate f 1 count n d b ∙ ap f (let z : 1 + n ≡ suc n = omega arith in z)

-- a node's bits
pub config_row : (ns bits known : List ℕ) (count s : ℕ) → 1 ≤ s → s ≤ count → at (config_of ns bits known count) s [] ≡ trits_of (len_of (node_at ns s)) (get_or bits s 0) (get_or known s 0)
unfolding config_of
config_row ns bits known count s a b = at_tabulate (λ k. trits_of (len_of (node_at ns k)) (get_or bits k 0) (get_or known k 0)) count s [] a b

pub config_bit : (ns bits known : List ℕ) (count s b : ℕ) → 1 ≤ s → s ≤ count → b < len_of (node_at ns s) → bit_of (config_of ns bits known count) s b ≡ look_in bits known s b
config_bit ns bits known count s b h l m =
    ap (λ (ts : List Trit). get_or ts b none) (config_row ns bits known count s h l)
    ∙ get_d_tabulate (trit_at (get_or bits s 0) (get_or known s 0)) 0 (len_of (node_at ns s)) b none m ∙ ap (trit_at (get_or bits s 0) (get_or known s 0)) (zero-add b)

-- ---- good nodes are safe, and their addresses are the same in the arrays

get_elem_get_d : (l : List ℕ) (i : ℕ) → i < length l → slice_get l i ≡ some (get_or l i 0)
get_elem_get_d [] i h = absurd (not-suc-le-zero h)
get_elem_get_d (x ∷ l) zero h = refl
get_elem_get_d (x ∷ l) (suc i) h = get_elem_get_d l i (le_of_suc-le-suc h)

-- a segment with shadow has a number in the list
shadow_number : (nodes : List Node) (s : ℕ) → has_shadow (at nodes s no_node) ≡ true → (1 ≤ s) × (s ≤ length nodes)
shadow_number nodes zero e = absurd (true_false (sym e))
shadow_number nodes (suc n) e = (omega arith, go (leb (length nodes) n) refl)
  where
    go : (t : Bool) → leb (length nodes) n ≡ t → suc n ≤ length nodes
    go true q = absurd (true_false (sym e ∙ ap has_shadow (get_or-eq_default nodes no_node {n = n} (leb-true (length nodes) n q))))
    go false q = leb-false (length nodes) n q

pub good_most : (nodes : List Node) (k : ℕ) (nd : Node) → GoodNode nodes k nd → len_of nd ≤ word_width
good_most nodes k (segment from len sh) g = omega (arith, g.most)
good_most nodes k (multiplexer s b ins) g = omega arith

-- the bits of an address that lies within a segment of so many bits
address_same : (look look' : ℕ → ℕ → Trit) (s b len : ℕ) (ins : List ℕ) → b + address_bits ins ≤ len → ((j : ℕ) → j < len → look s j ≡ look' s j)
    → address look s b ins ≡ address look' s b ins
address_same look look' s b len ins within same = go (leb (length ins) 2) within
  where
    go : (t : Bool) → b + cond t 1 2 ≤ len
        → cond t (value_of (look s b) (some false)) (value_of (look s b) (look s (suc b))) ≡ cond t (value_of (look' s b) (some false)) (value_of (look' s b) (look' s (suc b)))
    go true w = rw (same b (omega arith))
    go false w = rw (same b (omega arith), same (suc b) (omega arith))

module _ (ns : List ℕ) (count : ℕ) (most : count ≤ 128)
    (good : (n : ℕ) → n < length (nodes_of ns count) → GoodNode (nodes_of ns count) (suc n) (get_or (nodes_of ns count) n no_node)) where
  long : length (nodes_of ns count) ≡ count
  long = length_tabulate (node_at ns) 1 count

  node_at_law : (k : ℕ) → 1 ≤ k → k ≤ count → at (nodes_of ns count) k no_node ≡ node_at ns k
  node_at_law k a b = at_tabulate (node_at ns) count k no_node a b

  pub good_at : (k : ℕ) → 1 ≤ k → k ≤ count → GoodNode (nodes_of ns count) k (node_at ns k)
  good_at zero a b = absurd (not-suc-le-zero a)
  good_at (suc n) a b = subst (GoodNode (nodes_of ns count) (suc n)) (node_at_law (suc n) a b) (good n (omega (arith, long)))

  -- SEG of a good multiplexer: its number, and that the address lies within it
  record Address (s b : ℕ) (ins : List ℕ) : Type 0 where
    first : 1 ≤ s
    last : s ≤ count
    within : b + address_bits ins ≤ len_of (node_at ns s)

  address_at : (k s b : ℕ) (ins : List ℕ) → GoodMux (nodes_of ns count) k s b ins → Address s b ins
  address_at k s b ins g =
      let r = shadow_number (nodes_of ns count) s g.shadow in
      let l : s ≤ count = omega (arith, r.1, long) in
      record { first = r.0; last = l; within = subst (λ (nd : Node). b + address_bits ins ≤ len_of nd) (node_at_law s r.0 l) g.within }

  safe_node : (k : ℕ) (nd : Node) → GoodNode (nodes_of ns count) k nd → SafeNode k nd
  safe_node k (segment from len sh) g = (g.before, g.least, omega (arith, g.most))
  safe_node k (multiplexer s b ins) g =
      let a = address_at k s b ins g in
      let m = good_most (nodes_of ns count) s (node_at ns s) (good_at s a.first a.last) in
      (λ i l. g.inputs i (get_or ins i 0) (get_elem_get_d ins i l), omega (arith, a.last), omega (arith, a.within), g.least, g.most)

  pub good_safe : Safe ns count
  good_safe k a b = safe_node k (node_at ns k) (good_at k a b)

  module _ (bits known : List ℕ) where
    same_step : (k : ℕ) (nd : Node) → GoodNode (nodes_of ns count) k nd → step_of (bit_of (config_of ns bits known count)) nd ≡ step_of (look_in bits known) nd
    same_step k (segment from len sh) g = refl
    same_step k (multiplexer s b ins) g =
        let a = address_at k s b ins g in
        ap (λ (o : Option ℕ). option_map Input (pick ins o))
        (address_same (bit_of (config_of ns bits known count)) (look_in bits known) s b (len_of (node_at ns s)) ins a.within
        (λ j l. config_bit ns bits known count s j a.first a.last l))

    -- the model's walk is the walk over the arrays
    pub walk_config : (f n : ℕ) → n ≤ count → walk_from (node_of (nodes_of ns count)) (bit_of (config_of ns bits known count)) f n ≡ walk_from (node_at ns) (look_in bits known) f n
    walk_config =
        walk_cong (node_of (nodes_of ns count)) (node_at ns) (bit_of (config_of ns bits known count)) (look_in bits known) count (λ m a b. record {
          as_long = ap len_of (node_at_law m a b);
          step = ap (step_of (bit_of (config_of ns bits known count))) (node_at_law m a b) ∙ same_step m (node_at ns m) (good_at m a b);
          below = subst (λ (nd : Node). Below m (step_of (bit_of (config_of ns bits known count)) nd)) (sym (node_at_law m a b))
              (step_below (bit_of (config_of ns bits known count)) m (node_at ns m) (good_safe m a b));
        })

    -- what `find_path` answers
    pub found_config : (out : ℕ) (r : Walked) (way : List ℕ) → out ≤ count → FindsPath ns bits known out r way
        → walk_from (node_of (nodes_of ns count)) (bit_of (config_of ns bits known count)) out out ≡ told ns way r
    found_config out r way l f = walk_config out out l ∙ f.tells
