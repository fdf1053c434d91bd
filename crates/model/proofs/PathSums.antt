-- The sum at each node met is the count of path bits from scan-in up to and with that node.
-- Assumes nothing.
use mathlib.Core.Path.{◌≡◌, refl, sym, ap, ◌∙◌, subst}
use Rattle.std.specs.Prelude.{Option, None as none, Some as some}
use mathlib.Core.List.Memᴰ
use mathlib.Core.List.{List, [], ◌∷◌, Memᴰ}
use Prim.Native.Nat.{ℕ, zero, suc, ◌+◌, ◌≤◌, ◌<◌}
use native.Mathlib.Omega.{arith}
use native.Mathlib.Nat.{le_refl, not-suc-le-zero}
use lib.ListN.{length, get_or}
use borrow.Author.Tests.{le-leb, lt-leb}
use Rattle.model.specs.Accepted.{GoodNode, WellFormed}
use Rattle.model.specs.Drawn.{A}
use Rattle.model.specs.Network.{segment, Node, multiplexer, Config, Network, no_node}
use Rattle.model.specs.NetworkText.{read_network}
use Rattle.model.specs.Path.{ScanPath, Walk, path, stop, PathSegment, on_way, enter, visit, walk_from, node_of, address, pick, bit_of, path_in, ValidConfig, path_length}
use Rattle.model.specs.PathSum.{sum_visit, sum_from, sum_at, leads_to, met_behind, met_from, nodes_met, part_from, SumsUp, PathSums}
use Rattle.model.specs.Result.{ok}
use Rattle.model.specs.Text.{Trit, bind, bytes}
use Rattle.model.proofs.Accepted.{accepted}
use Rattle.model.proofs.EarlierTexts.{earlier_texts, earlier_met}
use Rattle.model.proofs.Lists.{some_same}
use Rattle.model.proofs.Walking.{Falls, WalkFalls, walk_falls, pick_below}

-- ---- the sum, by the walk

abbrev pub sum_of : Walk → Option ℕ
sum_of (path p) = some (path_length p)
sum_of (stop m) = none

sum_on : (h : PathSegment) (w : Walk) → bind (sum_of w) (λ back. some (h.len + back)) ≡ sum_of (on_way h w)
sum_on h (path p) = refl
sum_on h (stop m) = refl

module _ (node : ℕ → Node) (look : ℕ → ℕ → Trit) where
  pub walk_sum : (f n : ℕ) → sum_from node look f n ≡ sum_of (walk_from node look f n)
  unfolding walk_from sum_from
  walk_sum zero n = refl
  walk_sum (suc f) zero = refl
  walk_sum (suc f) (suc n) = at_node (node (suc n)) (λ m. walk_sum f m)
    where
      at_node : (nd : Node) → ((m : ℕ) → sum_from node look f m ≡ sum_of (walk_from node look f m))
          → sum_visit look nd (λ m. sum_from node look f m) ≡ sum_of (visit look (suc n) nd (λ m. walk_from node look f m))
      at_node (segment from len sh) e = ap (λ (o : Option ℕ). bind o (λ back. some (len + back))) (e from) ∙ sum_on record { number = suc n; len = len } (walk_from node look f from)
      at_node (multiplexer s b ins) e = by (pick ins (address look s b ins))
        where
          by : (o : Option ℕ) → bind o (λ m. sum_from node look f m) ≡ sum_of (enter (suc n) o (λ m. walk_from node look f m))
          by none = refl
          by (some m) = e m

-- ---- the part of a path from a node on

-- of a path below number k + 1 it is the whole
part_all : (ns : List Node) (k : ℕ) (p : ScanPath) → Falls ns (suc k) p → part_from p k ≡ p
part_all ns k [] f = refl
part_all ns k (h ∷ p) f = let b : h.number < suc k = f.1 in rw (le-leb h.number k (omega arith))

-- a segment nearer scan-out than node k is not in it
part_behind : (h : PathSegment) (p : ScanPath) (k : ℕ) → k < h.number → part_from (h ∷ p) k ≡ part_from p k
part_behind h p k l = rw (lt-leb h.number k l)

module _ (ns : List Node) (good : (n : ℕ) → n < length ns → GoodNode ns (suc n) (get_or ns n no_node)) (look : ℕ → ℕ → Trit) where
  abbrev walks : ℕ → ℕ → Walk
  walks f n = walk_from (node_of ns) look f n

  abbrev met : ℕ → ℕ → List ℕ
  met f n = met_from (node_of ns) look f n

  -- a node leads to a smaller number
  leads_below : (k : ℕ) (nd : Node) → GoodNode ns k nd → (m : ℕ) → leads_to look nd ≡ some m → m < k
  leads_below k (segment from len sh) g m q = let e : from ≡ m = some_same from m q in let b = g.before in omega arith
  leads_below k (multiplexer s b ins) g m q = pick_below ins k g.inputs (address look s b ins) m q

  -- ---- any count of steps that is enough gives the same walk

  visit_enough : (k : ℕ) (nd : Node) → GoodNode ns k nd → (go go' : ℕ → Walk) → ((m : ℕ) → m < k → go m ≡ go' m) → visit look k nd go ≡ visit look k nd go'
  visit_enough k (segment from len sh) g go go' e = ap (on_way record { number = k; len = len }) (e from g.before)
  visit_enough k (multiplexer s b ins) g go go' e = by (pick ins (address look s b ins)) (leads_below k (multiplexer s b ins) g)
    where
      by : (o : Option ℕ) → ((m : ℕ) → o ≡ some m → m < k) → enter k o go ≡ enter k o go'
      by none f = refl
      by (some m) f = e m (f m refl)

  enough : (f f' n : ℕ) → n ≤ f → n ≤ f' → n ≤ length ns → walks f n ≡ walks f' n
  unfolding walk_from
  enough zero zero n a b l = refl
  enough zero (suc f') zero a b l = refl
  enough zero (suc f') (suc n) a b l = absurd (not-suc-le-zero a)
  enough (suc f) zero zero a b l = refl
  enough (suc f) zero (suc n) a b l = absurd (not-suc-le-zero b)
  enough (suc f) (suc f') zero a b l = refl
  enough (suc f) (suc f') (suc n) a b l =
      visit_enough (suc n) (get_or ns n no_node) (good n l) (λ m. walks f m) (λ m. walks f' m) (λ m h. enough f f' m (omega arith) (omega arith) (omega arith))

  -- ---- the nodes met

  -- from node n they are not beyond it
  behind_below : (f k : ℕ) (o : Option ℕ) → ((m : ℕ) → o ≡ some m → m < k) → ((m : ℕ) → m < k → (j : ℕ) → Memᴰ j (met f m) → j ≤ m)
      → (j : ℕ) → Memᴰ j (met_behind o (λ m. met f m)) → j ≤ k
  behind_below f k none b r j m = absurd (Memᴰ.not-nil m)
  behind_below f k (some i) b r j m = omega (arith, r i (b i refl) j m, b i refl)

  met_below : (f n : ℕ) → n ≤ length ns → (j : ℕ) → Memᴰ j (met f n) → j ≤ n
  unfolding met_from
  met_below zero n l j m = absurd (Memᴰ.not-nil m)
  met_below (suc f) zero l j m = absurd (Memᴰ.not-nil m)
  met_below (suc f) (suc n) l j (Memᴰ.head e) = omega arith
  met_below (suc f) (suc n) l j (Memᴰ.tail m) =
      behind_below f (suc n) (leads_to look (get_or ns n no_node)) (leads_below (suc n) (get_or ns n no_node) (good n l)) (λ i h j x. met_below f i (omega arith) j x) j m

  -- node n is the first of them
  met_first : (f n : ℕ) → n ≤ f → 1 ≤ n → Memᴰ n (met f n)
  unfolding met_from
  met_first zero n a b = absurd (omega arith)
  met_first (suc f) zero a b = absurd (omega arith)
  met_first (suc f) (suc n) a b = Memᴰ.head refl

  -- and with each of them the one that it leads to is among them
  met_next : (f n : ℕ) → n ≤ f → n ≤ length ns → (k m : ℕ) → Memᴰ k (met f n) → leads_to look (node_of ns k) ≡ some m → 1 ≤ m → Memᴰ m (met f n)
  unfolding met_from
  met_next zero n a l k m i e b = absurd (Memᴰ.not-nil i)
  met_next (suc f) zero a l k m i e b = absurd (Memᴰ.not-nil i)
  met_next (suc f) (suc n) a l k m (Memᴰ.head q) e b =
      let here : leads_to look (get_or ns n no_node) ≡ some m = subst (λ (j : ℕ). leads_to look (node_of ns j) ≡ some m) q e in
      let low = leads_below (suc n) (get_or ns n no_node) (good n l) m here in
      Memᴰ.tail (subst (λ (o : Option ℕ). Memᴰ m (met_behind o (λ i. met f i))) (sym here) (met_first f m (omega arith) b))
  met_next (suc f) (suc n) a l k m (Memᴰ.tail i) e b =
      Memᴰ.tail (by (leads_to look (get_or ns n no_node)) (leads_below (suc n) (get_or ns n no_node) (good n l)) (λ j h x. met_next f j (omega arith) (omega arith) k m x e b) i)
    where
      by : (o : Option ℕ) → ((j : ℕ) → o ≡ some j → j < suc n) → ((j : ℕ) → j < suc n → Memᴰ k (met f j) → Memᴰ m (met f j))
          → Memᴰ k (met_behind o (λ i. met f i)) → Memᴰ m (met_behind o (λ i. met f i))
      by none x r y = absurd (Memᴰ.not-nil y)
      by (some j) x r y = r j (x j refl) y

  -- ---- the walk from each of them is the part of the path from there

  -- what holds of the walk from node m
  abbrev Each : (ℕ → Walk) → (ℕ → List ℕ) → ℕ → Type 0
  Each walked list m = (q : ScanPath) → walked m ≡ path q → (j : ℕ) → Memᴰ j (list m) → walks j j ≡ path (part_from q j)

  each_walk : (f n : ℕ) → n ≤ f → n ≤ length ns → Each (walks f) (met f) n
  unfolding walk_from met_from
  each_walk zero n a l p e j m = absurd (Memᴰ.not-nil m)
  each_walk (suc f) zero a l p e j m = absurd (Memᴰ.not-nil m)
  each_walk (suc f) (suc n) a l p e j m = by_node (get_or ns n no_node) (good n l) (λ i h. each_walk f i (omega arith) (omega arith)) e m
    where
      -- from node n + 1 itself
      here : walks (suc n) (suc n) ≡ path (part_from p (suc n))
      here =
          let w : WalkFalls ns (suc (suc n)) (walks (suc f) (suc n)) = walk_falls ns good look (suc f) (suc n) l in
          let g : walks (suc f) (suc n) ≡ path p = e in
          let falls : Falls ns (suc (suc n)) p = subst (WalkFalls ns (suc (suc n))) g w in
          enough (suc n) (suc f) (suc n) (le_refl (suc n)) a l ∙ g ∙ ap path (sym (part_all ns (suc n) p falls))

      by_node : (nd : Node) → GoodNode ns (suc n) nd → ((i : ℕ) → i < suc n → Each (walks f) (met f) i) → visit look (suc n) nd (λ i. walks f i) ≡ path p
          → Memᴰ j (suc n ∷ met_behind (leads_to look nd) (λ i. met f i)) → walks j j ≡ path (part_from p j)
      by_node (segment from len sh) g r v (Memᴰ.head q) = subst (λ (k : ℕ). walks k k ≡ path (part_from p k)) (sym q) here
      by_node (segment from len sh) g r v (Memᴰ.tail i) = by (walks f from) refl v
        where
          by : (w : Walk) → walks f from ≡ w → on_way record { number = suc n; len = len } w ≡ path p → walks j j ≡ path (part_from p j)
          by (stop m) x y = let z : ◌≡◌ {A = ℕ} 0 1 = cc in absurd (omega arith)
          by (path q) x y =
              let h : PathSegment = record { number = suc n; len = len } in
              let same : h ∷ q ≡ p = cc in
              let b : from < suc n = g.before in
              let low : j ≤ from = met_below f from (omega arith) j i in
              r from b q x j i ∙ ap path (sym (part_behind h q j (omega arith)) ∙ ap (λ (z : ScanPath). part_from z j) same)
      by_node (multiplexer s b ins) g r v (Memᴰ.head q) = subst (λ (k : ℕ). walks k k ≡ path (part_from p k)) (sym q) here
      by_node (multiplexer s b ins) g r v (Memᴰ.tail i) = by (pick ins (address look s b ins)) (leads_below (suc n) (multiplexer s b ins) g) v i
        where
          by : (o : Option ℕ) → ((m : ℕ) → o ≡ some m → m < suc n) → enter (suc n) o (λ i. walks f i) ≡ path p → Memᴰ j (met_behind o (λ i. met f i)) → walks j j ≡ path (part_from p j)
          by none x y k = absurd (Memᴰ.not-nil k)
          by (some m) x y k = r m (x m refl) p y j k

-- ---- the promise

module _ (net : Network) (wf : WellFormed net) (c : Config) where
  pub met_within : (k : ℕ) → Memᴰ k (nodes_met net c) → k ≤ net.out
  met_within k m = met_below net.nodes wf.backwards (bit_of c) net.out net.out wf.ends k m

  pub sums_up : ValidConfig net c → SumsUp net c
  sums_up v = record {
    each = λ k m. by k ∙ ap sum_of (each_walk net.nodes wf.backwards (bit_of c) net.out net.out (le_refl net.out) wf.ends (path_in net c) v k m);
    whole = by net.out ∙ ap sum_of v;
    first = met_first net.nodes wf.backwards (bit_of c) net.out net.out (le_refl net.out);
    next = met_next net.nodes wf.backwards (bit_of c) net.out net.out (le_refl net.out) wf.ends;
  }
    where
      by : (k : ℕ) → sum_at net c k ≡ sum_of (walk_from (node_of net.nodes) (bit_of c) k k)
      by k = walk_sum (node_of net.nodes) (bit_of c) k k

pub path_sums : PathSums
path_sums t net c is v = sums_up net (accepted t net is).wf c v

-- what it asks for is met
pub sums_met : (net : Network) × (read_network (bytes A) ≡ ok net) × ValidConfig net net.start
sums_met =
    let net = earlier_met.0 in
    let read = (earlier_texts (bytes A) net earlier_met.1).network ∙ earlier_met.1 in
    (net, read, (accepted (bytes A) net read).starts)
