-- Laws for the caller that has a record: what the record gives to the calls on the settings, and what they give for its network.
-- Assumes nothing.
use mathlib.Core.Path.{◌≡◌, refl, sym, ap, ◌∙◌, subst}
use mathlib.Core.List.{List, Memᴰ}
use Prim.Native.Nat.{ℕ, zero, suc, ◌≤◌, ◌<◌}
use native.Mathlib.Nat.{not-suc-le-zero}
use native.Mathlib.Omega.{arith}
use lib.ListN.{length, get_or}
use Rattle.model.specs.Network.{Node, at, no_node, len_of, steering_bits}
use Rattle.model.specs.Path.{bit_of}
use Rattle.model.specs.Accepted.{Accepted}
use Rattle.model.proofs.Lists.{length_tabulate}
use Rattle.network_words.specs.Words.{word_width}
use Rattle.network_path.specs.Layout.{node_at, nodes_of, config_of, look_in}
use Rattle.network_path.proofs.ConfigLaws.{config_bit, at_tabulate, good_most}
use Rattle.network_reader.specs.declared.reader.Network.{Network}
use Rattle.network_draft.specs.Represents.{Short, targets_of}
use Rattle.network_reader.specs.Reads.{recorded_network, RecordComplete}
use Rattle.planner_theory.specs.Settings.{setting_of, number_of}
use Rattle.planner_theory.proofs.Steering.{steering_bit}
use Rattle.planner_theory.proofs.SettingNumbers.{setting_same}
use Rattle.planner_steering.specs.declared.Problem.{Problem}
use Rattle.planner_steering.specs.Steering.{steering_of, Steered, ProblemOf}
use Rattle.planner_settings.specs.Route.{Prepared}

module _ (r : Network) (filled : RecordComplete r) (accepted : Accepted (recorded_network r)) (few : r.steering_count ≤ 6) where
  record_length : length (nodes_of r.nodes r.summary.count) ≡ r.summary.count
  record_length = length_tabulate (node_at r.nodes) 1 r.summary.count

  record_node : (s : ℕ) → 1 ≤ s → s ≤ r.summary.count → at (nodes_of r.nodes r.summary.count) s no_node ≡ node_at r.nodes s
  record_node s a b = at_tabulate (node_at r.nodes) r.summary.count s no_node a b

  record_short : Short r.nodes r.summary.count
  record_short zero a b = absurd (not-suc-le-zero a)
  record_short (suc n) a b =
      subst (λ (nd : Node). len_of nd ≤ word_width) (record_node (suc n) a b)
      (good_most (nodes_of r.nodes r.summary.count) (suc n) (get_or (nodes_of r.nodes r.summary.count) n no_node) (accepted.wf.backwards n (omega (arith, record_length))))

  -- what `problem_of` asks
  pub record_steered : Steered r.nodes r.steering r.summary.count
  record_steered = record { most = filled.in_limits.nodes_fit; short = record_short; steering_is = filled.steering_is; few = omega (arith, filled.counted) }

  module _ (pb : Problem) (h : ProblemOf r.nodes r.summary pb) where
    -- what the other calls ask, with what `problem_of` tells
    pub record_planned : Prepared (recorded_network r) r.nodes r.steering pb
    record_planned = record {
      stored = rw h.summary_is (record { nodes = refl; feeds = refl; most = filled.in_limits.nodes_fit; formed = accepted.wf });
      accepted = accepted;
      targets_are = ap (targets_of r.nodes) (sym h.summary_is);
      in_limits = rw h.summary_is filled.in_limits;
      steering_is = filled.steering_is;
      bits_are = h.bits_are;
      few = h.few;
    }

    -- the start's setting, as `setting_number` tells it
    pub record_number : (n : ℕ) → n ≡ setting_of (steering_of pb) (look_in r.bits r.known) → n ≡ number_of (recorded_network r) (recorded_network r).start
    record_number n e =
        e ∙ ap (λ (l : List (ℕ × ℕ)). setting_of l (look_in r.bits r.known)) h.bits_are
        ∙ sym (setting_same (steering_bits (nodes_of r.nodes r.summary.count)) (bit_of (config_of r.nodes r.bits r.known r.summary.count)) (look_in r.bits r.known) same)
      where
        same : (q : ℕ × ℕ) → Memᴰ q (steering_bits (nodes_of r.nodes r.summary.count))
            → bit_of (config_of r.nodes r.bits r.known r.summary.count) q.0 q.1 ≡ look_in r.bits r.known q.0 q.1
        same q m =
            let b = steering_bit (nodes_of r.nodes r.summary.count) q m in
            let most : q.0 ≤ r.summary.count = omega (arith, b.most, record_length) in
            config_bit r.nodes r.bits r.known r.summary.count q.0 q.1 b.least most (subst (λ (nd : Node). q.1 < len_of nd) (record_node q.0 b.least most) b.inside)
