-- Laws of the whole mark: what each ending says of the model's mark of the texts, and of a plan on an accepted network.
-- Assumes nothing.
use mathlib.Core.Path.{◌≡◌, refl, sym, ap, ◌∙◌}
use mathlib.Core.List.{List}
use Prim.Native.Nat.{ℕ, zero, suc}
use lib.ListN.{length, get_or, replicate}
use Rattle.std.specs.Prelude.{Option, None as none, Result as Answer, Ok, Err}
use Rattle.model.specs.Answers.{number_of, count_of}
use Rattle.model.specs.declared.refusal.Refusal.{Refusal}
use Rattle.model.specs.Result.{Result, ok, refused, and_then}
use Rattle.model.specs.Text.{Bytes}
use Rattle.model.specs.Network.{Config, Network as ModelNetwork}
use Rattle.model.specs.Path.{ScanPath, Walk, path, stop, walk}
use Rattle.model.specs.Plan.{Plan}
use Rattle.model.specs.Tap.{plan_clocks}
use Rattle.model.specs.Mark.{Pass as ModelPass, Run, targets_from, passed, by_start, mark_plan, mark_read, mark}
use Rattle.model.proofs.PlanTexts.{clocks_bytes}
use Rattle.network_reader.specs.declared.reader.Network.{Network}
use Rattle.network_reader.specs.Reads.{recorded_network, IsReading}
use Rattle.network_reader.proofs.Records.{Recorded, reading_recorded, target_segment_law}
use Rattle.plan_text.specs.Form.{plan_form, HasForm}
use Rattle.plan_text.proofs.Forms.{GoodText, form_good, form_refused}
use Rattle.marker_operations.specs.declared.Met.{Met}
use Rattle.marker_operations.specs.Operations.{Marking, marking, config_at, RanAs, HoldsStart, Startable, from_start, Runs}
use Rattle.marker_operations.proofs.Noting.{reached_none}
use Rattle.marker_targets.specs.declared.Pass.{Pass}
use Rattle.marker_targets.specs.Answers.{mark_of}
use Rattle.marker_targets.specs.Targets.{Judgeable, Judges}
use Rattle.marker.specs.Marks.{Markable, plan_mark}

-- ---- the texts

module _ (n p : Bytes) where
  pub network_refused : (e : Refusal) → IsReading n (Err e) → refused (number_of e.kind) e.place ≡ mark n p
  unfolding mark
  network_refused e is = ap (λ (r : Result ModelNetwork). mark_read r p) is.reads

  module _ (w : Network) (is : IsReading n (Ok w)) where
    pub network_accepted : plan_mark w p ≡ mark n p
    unfolding mark
    network_accepted = ap (λ (r : Result ModelNetwork). mark_read r p) is.reads

    pub plan_refused : (e : Refusal) → count_of (Err e) ≡ plan_form p → refused (number_of e.kind) e.place ≡ mark n p
    plan_refused e f = sym (ap (λ (a : Result Plan). and_then a (mark_plan (recorded_network w))) (form_refused p (Err e) e f refl)) ∙ network_accepted

    pub markable : (lines : ℕ) → count_of (Ok lines) ≡ plan_form p → Markable w p lines
    markable lines f = record { text = n; reading = is; form = sym f }

-- ---- the operations, then the targets

abbrev then_targets : ModelNetwork → Plan → Run → Result ModelPass
then_targets net plan r = and_then (targets_from 1 r.paths r.last net.targets) (passed plan)

by_run : (net : ModelNetwork) (plan : Plan) → mark_plan net plan ≡ and_then (from_start net plan (walk net net.start)) (then_targets net plan)
unfolding mark_plan
by_run net plan = go (walk net net.start)
  where
    go : (w : Walk) → by_start net plan w ≡ and_then (from_start net plan w) (then_targets net plan)
    go (path p) = refl
    go (stop m) = refl

none_at : (n i : ℕ) → ◌≡◌ {A = Option Met} (get_or (replicate n none) i none) none
none_at zero i = refl
none_at (suc n) zero = refl
none_at (suc n) (suc i) = none_at n i

module _ (w : Network) (p : Bytes) (lines : ℕ) (m : Markable w p lines) where
  abbrev pub net : ModelNetwork
  net = recorded_network w

  pub recorded : Recorded m.text w
  recorded = reading_recorded m.text w m.reading

  pub good : GoodText p lines
  good = form_good p (Ok lines) lines (sym m.form) refl

  -- what the run starts from
  abbrev pub before : Marking
  before = marking w.bits w.known (replicate 4 none)

  starts : HoldsStart net w.nodes w.summary before
  starts = record {
    stored = recorded.stored;
    start = refl;
    in_limits = recorded.filled.in_limits;
    sized = record { words = recorded.filled.bits_size; marks = recorded.filled.known_size };
    slots_law = refl;
    reached = reached_none w.summary before.met (λ i lt. none_at 4 i);
  }

  -- what the run asks
  pub runnable : HasForm p × Startable w.nodes w.summary before
  runnable = ((good.plan, good.reads), (net, starts))

  marks_by : plan_mark w p ≡ and_then (from_start net good.plan (walk net net.start)) (then_targets net good.plan)
  marks_by = ap (λ (a : Result Plan). and_then a (mark_plan net)) good.reads ∙ by_run net good.plan

  pub ran_as : (r : Answer Unit Refusal) (after : Marking) → Runs w.nodes w.summary p before r after → RanAs w.nodes w.summary r after (from_start net good.plan (walk net net.start))
  ran_as r after runs = runs net good.plan good.reads starts

  pub run_refused : (e : Refusal) (after : Marking) → Runs w.nodes w.summary p before (Err e) after → refused (number_of e.kind) e.place ≡ plan_mark w p
  run_refused e after runs = sym (marks_by ∙ ap (λ (a : Result Run). and_then a (then_targets net good.plan)) (ran_as (Err e) after runs))

  module _ (after : Marking) (runs : Runs w.nodes w.summary p before (Ok tt) after) where
    pub run : Run
    run = (ran_as (Ok tt) after runs).0

    -- what the judgement asks
    pub judgeable : Judgeable w.nodes w.summary after.bits after.known
    judgeable = record {
      in_limits = recorded.filled.in_limits;
      sized = (ran_as (Ok tt) after runs).4;
      least = λ i lt. (target_segment_law m.text w recorded i lt).least;
      most = λ i lt. (target_segment_law m.text w recorded i lt).most;
      short = λ i lt. (target_segment_law m.text w recorded i lt).short;
    }

    abbrev ending : List ScanPath → Config → ℕ → ℕ → Result ModelPass
    ending ps x k l = and_then (targets_from 1 ps x net.targets) (λ gs. ok record { operations = k; clocks = l; gots = gs })

    pub judged : (a : Answer Pass Refusal) → Judges w.nodes w.summary after lines (length p) a → mark_of a ≡ plan_mark w p
    judged a j =
        let f = ran_as (Ok tt) after runs in
        let many : length p ≡ length (plan_clocks good.plan) = ap length good.text ∙ clocks_bytes good.plan in
        j f.0.paths f.3
        ∙ ap (λ (k : ℕ). ending f.0.paths (config_at w.nodes w.summary after) k (length p)) (sym good.count)
        ∙ ap (λ (k : ℕ). ending f.0.paths (config_at w.nodes w.summary after) (length good.plan) k) many
        ∙ ap (λ (x : Config). ending f.0.paths x (length good.plan) (length (plan_clocks good.plan))) f.2
        ∙ sym (marks_by ∙ ap (λ (a : Result Run). and_then a (then_targets net good.plan)) f.1)
