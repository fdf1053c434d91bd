-- The contract of `read_network` fixes the reading of a text: a network fixes its record.
-- Assumes nothing.
use mathlib.Core.Path.{◌≡◌, refl, sym, ap, ◌∙◌}
use mathlib.Core.List.{List, [], ◌∷◌}
use Rattle.std.specs.Prelude.{Result as Answer, Ok, Err}
use Prim.Native.Nat.{ℕ, ◌/◌, ◌%◌, ◌<◌}
use native.Mathlib.Omega.{arith}
use native.Mathlib.Nat.{div-add-mod'}
use lib.ListN.{length, get_or}
use lib.Seq.{ext_get_or}
use Rattle.model.specs.Answers.{number_of}
use Rattle.model.specs.declared.refusal.Kind.{Kind}
use Rattle.model.specs.declared.refusal.Kind.TheVariants.{Form, Bounds, Size, Order, Address, Entry, SteeringTarget, TargetCount, Start, SteeringCount, NoPlan, SearchSpace, Buffer, PlanForm, BitCount, Configuration, Target as TargetKind, ResetLength, ClockLine}
use Rattle.model.specs.Network.{Node, Target, Network as ModelNetwork, at, no_node, total_bits, steers, steering_bits}
use Rattle.model.specs.NetworkText.{read_network}
use Rattle.model.specs.Path.{path_in, path_length}
use Rattle.model.proofs.Lists.{length_tabulate, not_ok, ok_is, refusal_number, refusal_place}
use Rattle.network_words.specs.Words.{word_width, bits_word, known_word}
use Rattle.network_path.specs.Layout.{field_at, node_at}
use Rattle.network_draft.specs.Numbers.{numbers_for, no_target, stored_target}
use Rattle.network_draft.specs.Represents.{target_at}
use Rattle.network_draft.proofs.SteeringWords.{word_same}
use Rattle.network_reader.specs.declared.reader.Network.{Network}
use Rattle.network_reader.specs.Reads.{recorded_network, RecordComplete, IsReading}
use Rattle.network_reader.specs.Demand.{OneReading}

module _ (r q : Network) (c : RecordComplete r) (e : RecordComplete q) (same : recorded_network r ≡ recorded_network q) where
  nodes_same : (recorded_network r).nodes ≡ (recorded_network q).nodes
  nodes_same = ap (λ (n : ModelNetwork). n.nodes) same

  targets_same : (recorded_network r).targets ≡ (recorded_network q).targets
  targets_same = ap (λ (n : ModelNetwork). n.targets) same

  field_same : (k i : ℕ) → i < 8 → field_at r.nodes k i ≡ field_at q.nodes k i
  field_same k i l = c.numbers_are k i l ∙ ap (λ (ns : List Node). get_or (numbers_for (at ns k no_node)) i 0) nodes_same ∙ sym (e.numbers_are k i l)

  numbers_same : r.nodes ≡ q.nodes
  numbers_same =
      ext_get_or 0 r.nodes q.nodes (c.nodes_size ∙ sym e.nodes_size)
      (λ p l. ap (λ (x : ℕ). get_or r.nodes x 0) (sym (div-add-mod' p 8)) ∙ field_same (p / 8) (p % 8) (omega arith) ∙ ap (λ (x : ℕ). get_or q.nodes x 0) (div-add-mod' p 8))

  bits_same : r.bits ≡ q.bits
  bits_same =
      ext_get_or 0 r.bits q.bits (c.bits_size ∙ sym e.bits_size)
      (λ s l. c.bits_are s ∙ ap (λ (n : ModelNetwork). bits_word (at n.start s [])) same ∙ sym (e.bits_are s))

  known_same : r.known ≡ q.known
  known_same =
      ext_get_or 0 r.known q.known (c.known_size ∙ sym e.known_size)
      (λ s l. c.known_are s ∙ ap (λ (n : ModelNetwork). known_word (at n.start s [])) same ∙ sym (e.known_are s))

  steering_same : r.steering ≡ q.steering
  steering_same =
      ext_get_or 0 r.steering q.steering (c.steering_size ∙ sym e.steering_size)
      (λ s l. let m = c.steering_size in word_same word_width (get_or r.steering s 0) (get_or q.steering s 0) (c.steering_small s) (e.steering_small s)
      (λ b h. c.steering_is s b (omega arith) h ∙ ap (λ (ns : List Node). steers ns s b) nodes_same ∙ sym (e.steering_is s b (omega arith) h)))

  count_same : r.summary.count ≡ q.summary.count
  count_same = sym (length_tabulate (node_at r.nodes) 1 r.summary.count) ∙ ap length nodes_same ∙ length_tabulate (node_at q.nodes) 1 q.summary.count

  target_count_same : r.summary.target_count ≡ q.summary.target_count
  target_count_same =
      sym (length_tabulate (target_at r.nodes r.summary) 0 r.summary.target_count) ∙ ap length targets_same
      ∙ length_tabulate (target_at q.nodes q.summary) 0 q.summary.target_count

  -- the targets as they are stored
  stored_same : r.summary.targets ≡ q.summary.targets
  stored_same =
      ext_get_or (stored_target no_target) r.summary.targets q.summary.targets (c.in_limits.targets_room ∙ sym e.in_limits.targets_room)
      (λ i h. c.numbers_of_targets i ∙ ap (λ (ts : List Target). stored_target (get_or ts i no_target)) targets_same ∙ sym (e.numbers_of_targets i))

  record_fixed : r ≡ q
  record_fixed =
      let total = c.totals ∙ ap total_bits nodes_same ∙ sym e.totals in
      let out = ap (λ (n : ModelNetwork). n.out) same in
      let counted = c.counted ∙ ap (λ (ns : List Node). length (steering_bits ns)) nodes_same ∙ sym e.counted in
      let long = c.start_long ∙ ap (λ (n : ModelNetwork). path_length (path_in n n.start)) same ∙ sym e.start_long in
      let fed = c.has_out_law ∙ sym e.has_out_law in
      λ i. record {
        nodes = numbers_same i;
        bits = bits_same i;
        known = known_same i;
        steering = steering_same i;
        summary = record {
          count = count_same i;
          total = total i;
          has_out = fed i;
          out = out i;
          target_count = target_count_same i;
          targets = stored_same i;
        };
        steering_count = counted i;
        start_length = long i;
      }

-- ---- the number of a kind fixes it

-- the kind of a number; none has 0
kind_of : ℕ → Kind
kind_of n = get_or (Form ∷ Form ∷ Bounds ∷ Size ∷ Order ∷ Address ∷ Entry ∷ SteeringTarget ∷ TargetCount ∷ Start ∷ SteeringCount ∷ NoPlan ∷ SearchSpace ∷ Buffer ∷ PlanForm ∷ BitCount ∷ Configuration ∷ TargetKind ∷ ResetLength ∷ ClockLine ∷ []) n Form

kind_law : (k : Kind) → kind_of (number_of k) ≡ k
unfolding kind_of
kind_law Form = refl
kind_law Bounds = refl
kind_law Size = refl
kind_law Order = refl
kind_law Address = refl
kind_law Entry = refl
kind_law SteeringTarget = refl
kind_law TargetCount = refl
kind_law Start = refl
kind_law SteeringCount = refl
kind_law NoPlan = refl
kind_law SearchSpace = refl
kind_law Buffer = refl
kind_law PlanForm = refl
kind_law BitCount = refl
kind_law Configuration = refl
kind_law TargetKind = refl
kind_law ResetLength = refl
kind_law ClockLine = refl

pub reading_fixed : OneReading
reading_fixed t (Ok n) (Ok m) c e = ap Ok (record_fixed n m c.filled e.filled (ok_is (c.reads ∙ sym e.reads)))
reading_fixed t (Ok n) (Err s) c e = absurd (not_ok (e.reads ∙ sym c.reads))
reading_fixed t (Err r) (Ok m) c e = absurd (not_ok (c.reads ∙ sym e.reads))
reading_fixed t (Err r) (Err s) c e =
    let z = c.reads ∙ sym e.reads in
    let kind : r.kind ≡ s.kind = sym (kind_law r.kind) ∙ ap kind_of (refusal_number z) ∙ kind_law s.kind in
    λ i. Err record { kind = kind i; place = refusal_place z i }
