-- The walk depends on the steering bits alone.
-- Assumes nothing.
use mathlib.Core.Path.{◌≡◌, refl, sym, ap, ◌∙◌}
use mathlib.Core.Bool.{true}
use Rattle.std.specs.Prelude.{Option, None as none, Some as some}
use mathlib.Core.List.{List, []}
use Prim.Native.Nat.{ℕ, zero, suc, ◌≤◌, ◌<◌}
use native.Mathlib.Omega.{arith}
use native.Mathlib.Decide.{dec_lt}
use lib.ListN.{length, get_or, get_or-eq_default}
use Rattle.model.specs.Network.{Node, segment, multiplexer, no_node, steers_at, steers}
use Rattle.model.specs.Path.{Walk, address, pick, on_way, enter, visit, walk_from, node_of}
use Rattle.model.proofs.SameSteering.{steers_in, address_same}
use Rattle.planner_theory.specs.Settings.{Look}

module _ (look look' : Look) where
  enter_same : (k : ℕ) (o : Option ℕ) (go go' : ℕ → Walk) → ((m : ℕ) → go m ≡ go' m) → enter k o go ≡ enter k o go'
  enter_same k none go go' e = refl
  enter_same k (some m) go go' e = e m

  visit_same : (k : ℕ) (nd : Node) (go go' : ℕ → Walk) → ((s b : ℕ) → steers_at nd s b ≡ true → look s b ≡ look' s b) → ((m : ℕ) → go m ≡ go' m) → visit look k nd go ≡ visit look' k nd go'
  visit_same k (segment from len sh) go go' f e = ap (on_way record { number = k; len = len }) (e from)
  visit_same k (multiplexer s b ins) go go' f e =
      ap (λ (a : Option ℕ). enter k (pick ins a) go) (address_same look look' s b ins (f s)) ∙ enter_same k (pick ins (address look' s b ins)) go go' e

  -- a number that no node has stops every walk
  no_input : (o : Option ℕ) → pick [] o ≡ none
  no_input none = refl
  no_input (some a) = refl

  stops_same : (k : ℕ) (go go' : ℕ → Walk) → visit look k no_node go ≡ visit look' k no_node go'
  stops_same k go go' =
      ap (λ (o : Option ℕ). enter k o go) (no_input (address look 0 0 [])) ∙ sym (ap (λ (o : Option ℕ). enter k o go') (no_input (address look' 0 0 [])))

  pub walk_same : (ns : List Node) → ((s b : ℕ) → steers ns s b ≡ true → look s b ≡ look' s b) → (f n : ℕ) → walk_from (node_of ns) look f n ≡ walk_from (node_of ns) look' f n
  unfolding walk_from
  walk_same ns e zero n = refl
  walk_same ns e (suc f) zero = refl
  walk_same ns e (suc f) (suc n) = by (dec_lt n (length ns)) (λ m. walk_same ns e f m)
    where
      by : Dec (n < length ns) → ((m : ℕ) → walk_from (node_of ns) look f m ≡ walk_from (node_of ns) look' f m)
          → visit look (suc n) (get_or ns n no_node) (λ m. walk_from (node_of ns) look f m) ≡ visit look' (suc n) (get_or ns n no_node) (λ m. walk_from (node_of ns) look' f m)
      by (yes l) r = visit_same (suc n) (get_or ns n no_node) _ _ (λ s b y. e s b (steers_in ns n s b l y)) r
      by (no l) r = rw (get_or-eq_default ns no_node (let z : length ns ≤ n = omega arith in z)) (stops_same (suc n) _ _)
