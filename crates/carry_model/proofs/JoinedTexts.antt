-- Document 02, Change 3: two plan texts that pass in turn, joined, and how the joined text is marked.
-- Assumes nothing.
use mathlib.Core.Path.{◌≡◌, sym, ap, ◌∙◌, subst}
use mathlib.Core.Bool.{Bool}
use Rattle.std.specs.Prelude.{Some as some}
use mathlib.Core.Logic.{◌⊎◌, inl, inr}
use mathlib.Core.List.Memᴰ
use mathlib.Core.List.{List, [], ◌++◌, map, Memᴰ}
use Prim.Native.Nat.{ℕ, ◌≤◌}
use native.Mathlib.Omega.{arith}
use lib.ListN.{length, length-append}
use Rattle.model.specs.Limits.{max_operations}
use Rattle.model.specs.Mark.{Pass, mark}
use Rattle.model.specs.Network.{Target, read, write, Config, Network, at}
use Rattle.model.specs.NetworkText.{read_network}
use Rattle.model.specs.Plan.{Plan, paths_from, ValidFrom, Done, ValidPlan}
use Rattle.model.specs.PlanText.{read_plan, write_plan}
use Rattle.model.specs.Result.{ok}
use Rattle.model.specs.Text.{Bytes}
use Rattle.model.proofs.Accepted.{accepted}
use Rattle.model.proofs.MarkerDemand.{marker_exact, marked_texts}
use Rattle.model.proofs.PathBound.{plan_bytes_law}
use Rattle.model.proofs.PlanTexts.{plan_behind, text_of, read_written}
use Rattle.model.proofs.Validity.{passed_valid}
use Rattle.carry_model.specs.Carry.{left_by}
use Rattle.carry_model.specs.Continued.{Agree, StartsThere, PassInTurn, JoinedTexts}
use Rattle.carry_model.specs.Restart.{restarted}
use Rattle.carry_model.proofs.JoinedPlans.{joined_runs, on_early, second_done, plans_joined}
use Rattle.carry_model.proofs.NextStart.{agreed_wiring}
use Rattle.carry_model.proofs.Restarting.{config_again, valid_for}

-- a plan text that passes is a valid plan
passed_text : (n p : Bytes) (net : Network) (plan : Plan) → read_network n ≡ ok net → read_plan p ≡ ok plan → (pass : Pass) × (mark n p ≡ ok pass) → ValidPlan net plan
passed_text n p net plan is reads x = passed_valid net plan x.0 (marked_texts n p net plan x.0 is reads x.1)

module _ (n p n' p' : Bytes) (net net' : Network) (plan plan' : Plan) (in_turn : PassInTurn n p n' p' net net' plan plan') where
  first : ValidPlan net plan
  first = passed_text n p net plan in_turn.first in_turn.first_plan_law in_turn.first_passes

  second : ValidPlan net' plan'
  second = passed_text n' p' net' plan' in_turn.second in_turn.second_plan_law in_turn.second_passes

  there : StartsThere net net' plan
  there = record { wiring = agreed_wiring n n' net net' in_turn.first in_turn.second in_turn.agree; start = in_turn.from_there }

  runs : ValidFrom net net.start (plan ++ plan')
  runs = joined_runs net net' plan plan' there first second

  few : length (plan ++ plan') ≤ max_operations
  few = let a = in_turn.at_most_16 in omega (arith, length-append plan plan')

  joined_reads : read_plan (p ++ p') ≡ ok (plan ++ plan')
  joined_reads =
      let acc = accepted n net in_turn.first in
      let a = text_of p plan in_turn.first_plan_law in
      let b = text_of p' plan' in_turn.second_plan_law in
      let c = plan_bytes_law net acc.wf acc.few_bits (plan ++ plan') net.start runs in
      let s = few in
      ap read_plan (ap (λ (x : Bytes). x ++ p') a.text ∙ ap (λ (x : Bytes). write_plan plan ++ x) b.text ∙ sym (plan_behind plan plan')) ∙ read_written (plan ++ plan') few (omega arith)

  -- an accepted text that asks some of both ones' targets from the first start
  module _ (n'' : Bytes) (net'' : Network) (is'' : read_network n'' ≡ ok net'') (agree : Agree n n'') (start : net''.start ≡ net.start)
      (asks : (t : Target) → Memᴰ t net''.targets → Memᴰ t (net'.targets ++ net.targets)) where
    abbrev StillHeld : Type 0
    StillHeld = (s : ℕ) (bs : List Bool) → Memᴰ (write s bs) net''.targets → Memᴰ (write s bs) net.targets → at (left_by net (plan ++ plan')) s [] ≡ map some bs

    put : restarted net net.start net''.targets ≡ net''
    put = ap (λ (c : Config). restarted net c net''.targets) (sym start) ∙ agreed_wiring n n'' net net'' in_turn.first is'' agree

    still_held : (pass : Pass) × (mark n'' (p ++ p') ≡ ok pass) → StillHeld
    still_held x s bs m old =
        let w = subst (λ (y : Network). ValidPlan y (plan ++ plan')) (sym put) (passed_text n'' (p ++ p') net'' (plan ++ plan') is'' joined_reads x) in
        ap (λ (c : Config). at c s []) (sym (config_again net net.start net''.targets net.start (plan ++ plan'))) ∙ (w.done (write s bs) m).1

    all_done : StillHeld → (t : Target) → Memᴰ t net''.targets → Memᴰ t net'.targets ⊎ Memᴰ t net.targets
        → Done (paths_from net net.start (plan ++ plan')) (left_by net (plan ++ plan')) t
    all_done held t m (inl i) = second_done net net' plan plan' there first second t i
    all_done held (read s) m (inr i) = on_early net net' plan plan' there first second s (first.done (read s) i)
    all_done held (write s bs) m (inr i) = (on_early net net' plan plan' there first second s (first.done (write s bs) i).0, held s bs m i)

    passes : StillHeld → (pass : Pass) × (mark n'' (p ++ p') ≡ ok pass)
    passes held = (marker_exact n'' (p ++ p')).1 record {
      net = net'';
      plan = plan ++ plan';
      accepted = is'';
      reads = joined_reads;
      at_most_16 = few;
      valid = subst (λ (w : Network). ValidPlan w (plan ++ plan')) put
          (valid_for net net''.targets (plan ++ plan') runs (λ t m. all_done held t m (Memᴰ.append_cases net'.targets (asks t m))));
    }

pub texts_joined : JoinedTexts
texts_joined n p n' p' net net' plan plan' in_turn = record {
  reads = joined_reads n p n' p' net net' plan plan' in_turn;
  joined = plans_joined net net' plan plan' (there n p n' p' net net' plan plan' in_turn) (first n p n' p' net net' plan plan' in_turn) (second n p n' p' net net' plan plan' in_turn);
  marks = λ n'' net'' is'' agree start asks. (
    still_held n p n' p' net net' plan plan' in_turn n'' net'' is'' agree start asks,
    passes n p n' p' net net' plan plan' in_turn n'' net'' is'' agree start asks,
  );
}
