-- Laws of a network that the arrays hold: its steering bits and targets in the lists, what the walk in a setting asks, and what it tells.
-- Assumes nothing.
use mathlib.Core.Path.{◌≡◌, sym, ap, ◌∙◌, subst}
use mathlib.Core.Bool.{true}
use mathlib.Core.List.{List, Memᴰ}
use Prim.Native.Nat.{ℕ, zero, suc, ◌^◌, ◌≤◌, ◌<◌}
use native.Mathlib.Nat.{not-suc-le-zero, zero-add}
use native.Mathlib.Omega.{arith}
use native.Mathlib.Decide.{dec_lt}
use lib.ListN.{length, get_or}
use Rattle.model.specs.Network.{Node, Target, read, Network, at, no_node, is_segment, len_of, steers, steering_bits}
use Rattle.model.specs.NetworkText.{target_segment}
use Rattle.model.specs.Path.{bit_of}
use Rattle.model.proofs.Lists.{length_tabulate, get_d_tabulate, true_false}
use Rattle.network_words.specs.Words.{word_width, word_bit}
use Rattle.network_path.specs.Layout.{node_at, config_of}
use Rattle.network_path.specs.Answers.{Walked, Walkable, told, FindsPath}
use Rattle.network_path.proofs.ConfigLaws.{config_bit, at_tabulate, good_most}
use Rattle.network_path.proofs.StoredLaws.{found_walk, stored_walkable}
use Rattle.network_words.proofs.WordLaws.{zero_bit}
use Rattle.network_draft.specs.Represents.{stored_at, target_at, targets_of}
use Rattle.network_path.proofs.NodeLaws.{node_beyond}
use Rattle.network_draft.proofs.TargetLaws.{fits_segment, target_names}
use Rattle.planner_theory.specs.Settings.{Distinct, look_up, walk_at}
use Rattle.planner_theory.proofs.Steering.{distinct_bits, SteeringBit, steering_bit, bit_listed, get_d_in}
use Rattle.planner_theory.proofs.SameWalk.{walk_same}
use Rattle.planner_steering.specs.declared.Problem.{Problem}
use Rattle.planner_steering.specs.Steering.{steering_of, segment_at, bit_number, pair_at, SteeringListed, SetTo}
use Rattle.planner_settings.specs.Route.{Steers, TargetsWithin, Prepared, Each, WalkIs}
use Rattle.planner_steering.proofs.Listing.{length_bits}
use Rattle.planner_steering.proofs.Wording.{pair_at_law}

module _ (net : Network) (ns steering : List ℕ) (pb : Problem) (p : Prepared net ns steering pb) where
  bits_count : length (steering_bits net.nodes) ≡ pb.width
  bits_count = ap length (sym p.bits_are) ∙ length_bits pb.steering pb.width

  pub planned_few : length (steering_bits net.nodes) ≤ 6
  planned_few = omega (arith, bits_count, p.few)

  pub settings_count : 3 ^ length (steering_bits net.nodes) ≡ 3 ^ pb.width
  settings_count = ap (λ (n : ℕ). 3 ^ n) bits_count

  as_many : length net.nodes ≡ pb.summary.count
  as_many = ap length p.stored.nodes ∙ length_tabulate (node_at ns) 1 pb.summary.count

  -- ---- the steering bits

  len_most : (s : ℕ) → 1 ≤ s → s ≤ length net.nodes → len_of (at net.nodes s no_node) ≤ word_width
  len_most zero a b = absurd (not-suc-le-zero a)
  len_most (suc n) a b = good_most net.nodes (suc n) (get_or net.nodes n no_node) (p.accepted.wf.backwards n b)

  bit_of_law : (j : ℕ) → j < pb.width → SteeringBit net.nodes (pair_at pb.steering j)
  bit_of_law j l =
      steering_bit net.nodes (pair_at pb.steering j)
      (subst (Memᴰ (pair_at pb.steering j)) p.bits_are
      (subst (λ (q : ℕ × ℕ). Memᴰ q (steering_of pb)) (pair_at_law pb.steering pb.width j l) (get_d_in (steering_of pb) j (0, 0) (omega (arith, length_bits pb.steering pb.width)))))

  -- what `set_words` asks
  pub planned_listed : SteeringListed pb
  planned_listed = record {
    few = p.few;
    within = λ j l. omega (arith, (bit_of_law j l).most, as_many, p.stored.most);
    inside = λ j l. let q = bit_of_law j l in omega (arith, q.inside, len_most (segment_at pb.steering j) q.least q.most);
    distinct = subst Distinct (sym p.bits_are) (distinct_bits net.nodes);
  }

  -- the word of a steering bit has that bit, so it is not 0
  pub planned_steers : Steers steering pb.steering pb.width
  planned_steers j l e =
      let q = planned_listed in
      let bit : word_bit (get_or steering (segment_at pb.steering j) 0) (bit_number pb.steering j) ≡ true =
      p.steering_is (segment_at pb.steering j) (bit_number pb.steering j) (q.within j l) (q.inside j l) ∙ (bit_of_law j l).steering in
      true_false (sym bit ∙ ap (λ (w : ℕ). word_bit w (bit_number pb.steering j)) e ∙ zero_bit (bit_number pb.steering j))

  -- ---- the targets

  target_in : (i : ℕ) → i < pb.summary.target_count → Memᴰ (target_at ns pb.summary i) net.targets
  target_in i l =
      let e : get_or (targets_of ns pb.summary) i (read 0) ≡ target_at ns pb.summary i = get_d_tabulate (target_at ns pb.summary) 0 pb.summary.target_count i (read 0) l ∙ ap (target_at ns pb.summary) (zero-add i) in
      let m = get_d_in (targets_of ns pb.summary) i (read 0) (omega (arith, length_tabulate (target_at ns pb.summary) 0 pb.summary.target_count)) in
      subst (Memᴰ (target_at ns pb.summary i)) (sym p.targets_are) (subst (λ (x : Target). Memᴰ x (targets_of ns pb.summary)) e m)

  pub planned_targets : TargetsWithin pb.summary
  planned_targets i l = by (stored_at pb.summary i).segment (sym (target_names ns pb.summary i)) (dec_lt 128 (stored_at pb.summary i).segment)
    where
      fits : is_segment (at net.nodes (target_segment (target_at ns pb.summary i)) no_node) ≡ true
      fits = fits_segment net.nodes (target_at ns pb.summary i) (p.accepted.targets_fit.fits (target_at ns pb.summary i) (target_in i l))

      by : (s : ℕ) → s ≡ target_segment (target_at ns pb.summary i) → Dec (128 < s) → s ≤ 128
      by s e (no g) = omega arith
      by s e (yes g) =
          let beyond : at net.nodes s no_node ≡ no_node =
          ap (λ (l : List Node). at l s no_node) p.stored.nodes ∙ node_beyond ns pb.summary.count s (omega (arith, p.stored.most)) in
          absurd (true_false (sym fits ∙ ap (λ (r : ℕ). is_segment (at net.nodes r no_node)) (sym e) ∙ ap is_segment beyond))

  -- ---- what `find_path` asks and tells

  pub planned_walkable : (way : List ℕ) → length way ≡ 128 → Walkable ns pb.summary.out way 0
  planned_walkable way e = stored_walkable net ns pb.summary.count pb.summary.out p.stored way e

  node_is : (s : ℕ) → 1 ≤ s → s ≤ pb.summary.count → at net.nodes s no_node ≡ node_at ns s
  node_is s a b = ap (λ (l : List Node). at l s no_node) p.stored.nodes ∙ at_tabulate (node_at ns) pb.summary.count s no_node a b

  module _ (x : ℕ) (bits known : List ℕ) (set_to : SetTo (steering_of pb) x bits known) where
    -- the words have each steering bit as the setting has it
    same_bit : (s b : ℕ) → steers net.nodes s b ≡ true → look_up (steering_bits net.nodes) x s b ≡ bit_of (config_of ns bits known pb.summary.count) s b
    same_bit s b e =
        let m = bit_listed net.nodes p.accepted.wf.backwards s b e in
        let q = steering_bit net.nodes (s, b) m in
        let most : s ≤ pb.summary.count = omega (arith, q.most, as_many) in
        let inside : b < len_of (node_at ns s) = subst (λ (nd : Node). b < len_of nd) (node_is s q.least most) q.inside in
        ap (λ (l : List (ℕ × ℕ)). look_up l x s b) (sym p.bits_are) ∙ sym (set_to.holds s b (subst (Memᴰ (s, b)) (sym p.bits_are) m))
        ∙ sym (config_bit ns bits known pb.summary.count s b q.least most inside)

    pub setting_walk : (r : Walked) (way : List ℕ) → FindsPath ns bits known pb.summary.out r way → walk_at net x ≡ told ns way r
    setting_walk r way f =
        walk_same (look_up (steering_bits net.nodes) x) (bit_of (config_of ns bits known pb.summary.count)) net.nodes same_bit net.out net.out
        ∙ found_walk net ns pb.summary.count pb.summary.out p.stored bits known r way f

-- for every network that the arrays hold: the walk, by the words of setting x
pub setting_walked : (ns steering : List ℕ) (pb : Problem) (x : ℕ) (bits known : List ℕ) → SetTo (steering_of pb) x bits known
    → (r : Walked) (way : List ℕ) → FindsPath ns bits known pb.summary.out r way → Each ns steering pb (λ net. WalkIs net ns x r way)
setting_walked ns steering pb x bits known set_to r way f net p =
    record { tells = setting_walk net ns steering pb p x bits known set_to r way f; holds = f.holds }
