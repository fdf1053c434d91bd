-- Laws for the callers of a network that the arrays hold: their lengths, what `find_path` asks and answers, and the sums of the walk.
-- Assumes nothing.
use mathlib.Core.Path.{◌≡◌, sym, ap, subst, ◌∙◌}
use Rattle.std.specs.Prelude.{Some as some, Result, Ok, Err}
use mathlib.Core.List.{List}
use Prim.Native.Nat.{ℕ, suc, ◌<◌, ◌≤◌}
use native.Mathlib.Nat.{le_refl}
use native.Mathlib.Omega.{arith}
use lib.ListN.{length, get_or, take}
use Rattle.model.specs.Network.{Node, Network, no_node, len_of}
use Rattle.model.specs.Path.{path, stop, bit_of, walk, walk_from, node_of, path_of, path_in}
use Rattle.model.specs.PathSum.{sum_from, sum_at, bits_up_to}
use Rattle.model.specs.Accepted.{GoodNode}
use Rattle.model.proofs.Lists.{length_tabulate, none_some, some_same}
use Rattle.model.proofs.PathSums.{sum_of, walk_sum, met_within, sums_up}
use Rattle.model.proofs.Walking.{valid_by}
use Rattle.network_words.specs.Words.{word_width}
use Rattle.network_path.specs.Layout.{node_at, nodes_of, look_in, config_of, scan_path}
use Rattle.network_path.specs.Stored.{Stored, PathFound, WalkSums}
use Rattle.network_path.specs.Answers.{Walked, Walkable, sum_told, walked, told, WalkHeld, FindsPath}
use Rattle.network_path.specs.declared.walk.PathSize.{PathSize}
use Rattle.network_path.proofs.ConfigLaws.{good_at, good_most, good_safe, walk_config, found_config}

module _ (net : Network) (ns : List ℕ) (count out : ℕ) (st : Stored net ns count out) where
  stored_good : (n : ℕ) → n < length (nodes_of ns count) → GoodNode (nodes_of ns count) (suc n) (get_or (nodes_of ns count) n no_node)
  stored_good = subst (λ (l : List Node). (n : ℕ) → n < length l → GoodNode l (suc n) (get_or l n no_node)) st.nodes st.formed.backwards

  stored_out : out ≤ count
  stored_out = omega (arith, st.feeds, st.formed.ends, ap length st.nodes, length_tabulate (node_at ns) 1 count)

  pub stored_short : (s : ℕ) → 1 ≤ s → s ≤ count → len_of (node_at ns s) ≤ word_width
  stored_short s a b = good_most (nodes_of ns count) s (node_at ns s) (good_at ns count st.most stored_good s a b)

  -- what `find_path` asks
  pub stored_walkable : (way : List ℕ) → length way ≡ 128 → Walkable ns out way 0
  stored_walkable way e = record { safe = λ k a b. good_safe ns count st.most stored_good k a (omega (arith, stored_out)); size = e; room = omega (arith, stored_out, st.most) }

  -- what it answers
  module _ (bits known : List ℕ) (r : Walked) (way : List ℕ) (f : FindsPath ns bits known out r way) where
    pub found_walk : walk net (config_of ns bits known count) ≡ told ns way r
    found_walk =
        ap (λ (l : List Node). walk_from (node_of l) (bit_of (config_of ns bits known count)) net.out net.out) st.nodes
        ∙ ap (λ (n : ℕ). walk_from (node_of (nodes_of ns count)) (bit_of (config_of ns bits known count)) n n) st.feeds
        ∙ found_config ns count st.most stored_good bits known out r way stored_out f

    pub found_stop : (m : ℕ) → r ≡ Err m → walk net (config_of ns bits known count) ≡ stop m
    found_stop m e = found_walk ∙ ap (told ns way) e

    pub found_path : (size : PathSize) → r ≡ Ok size → PathFound net (config_of ns bits known count) ns way size.segments size.bits
    found_path size e =
        let w : walk net (config_of ns bits known count) ≡ path (scan_path ns (take size.segments way)) = found_walk ∙ ap (told ns way) e in
        let h : WalkHeld ns way (Ok size) = subst (WalkHeld ns way) e f.holds in
        record { walks = w; is = ap path_of w; valid = valid_by net (config_of ns bits known count) (scan_path ns (take size.segments way)) w; holds = h.0; long = h.1 }

-- ---- document 02, Change 5

-- a walk that has a sum has this one
sum_is : (sum s : ℕ) (end : Result ℕ ℕ) → sum_told (walked sum end) ≡ some s → sum ≡ s
sum_is sum s (Ok n) e = some_same sum s e
sum_is sum s (Err m) e = absurd (none_some s e)

pub walk_sums : WalkSums
walk_sums net ns count out st bits known v k m old met sum end way w =
    let c = config_of ns bits known count in
    let low = met_within net st.formed c k m in
    -- the model's walk from the node is the walk over the arrays, so the sums are the same
    let same : sum_at net c k ≡ sum_from (node_at ns) (look_in bits known) k k =
    ap (λ (l : List Node). sum_from (node_of l) (bit_of c) k k) st.nodes
    ∙ walk_sum (node_of (nodes_of ns count)) (bit_of c) k k
    ∙ ap sum_of (walk_config ns count st.most (stored_good net ns count out st) bits known k k (omega (arith, stored_out net ns count out st, st.feeds)))
    ∙ sym (walk_sum (node_at ns) (look_in bits known) k k) in
    sum_is sum (bits_up_to (path_in net c) k) end (sym (w.sums k (le_refl k)) ∙ sym same ∙ (sums_up net st.formed c v).each k m)
