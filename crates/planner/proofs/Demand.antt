-- The demands of the call `make_plan`, from the model's theorems.
-- Assumes nothing.
use mathlib.Core.Path.{◌≡◌, refl, sym, ap, ◌∙◌, subst}
use mathlib.Core.List.{List}
use Prim.Native.Nat.{ℕ, ◌<◌}
use lib.ListN.{length, take}
use Rattle.std.specs.Prelude.{Result as Answer, Ok, Err}
use Rattle.model.specs.Result.{ok, refused}
use Rattle.model.specs.Plan.{Plan, ValidPlan}
use Rattle.model.specs.PlanText.{read_plan}
use Rattle.model.specs.Mark.{Pass as ModelPass, mark}
use Rattle.model.specs.Calls.{make_plan}
use Rattle.model.specs.Places.{◌or◌, Listed, NetworkRefusal, PlannerRefusal}
use Rattle.model.specs.Demands.{past_check12, WrittenPlan as ModelPlanned, ExactPlans as ModelExactly}
use Rattle.model.proofs.Lists.{not_ok, refusal_number, refusal_place}
use Rattle.model.proofs.Demands.{plan_buffer, plan_buffer_after, search_space_law, refusals, planner, limits}
use Rattle.model.specs.Answers.{number_of, count_of}
use Rattle.model.specs.declared.refusal.Refusal.{Refusal}
use Rattle.marker_targets.specs.declared.Pass.{Pass}
use Rattle.marker_targets.specs.Answers.{mark_of}
use Rattle.planner.specs.Demand.{BuffersKept, EndsListed, PlanWritten, Outcome, no_plan, a_plan, PlansExactly, RefusesOnlyShort}

-- ---- demand 1

pub buffers_kept : BuffersKept
buffers_kept n search plan a search' plan' made = record {
  plan_kept = λ r e. made.plan_left ∙ plan_buffer n search plan (number_of r.kind) r.place (sym made.result ∙ ap count_of e);
  plan_written = λ count e. rw made.plan_left (plan_buffer_after n search plan count (sym made.result ∙ ap count_of e));
  search_cleared = λ past. rw made.search_left ((search_space_law n search plan).0 (sym (ap past_check12 made.result) ∙ past));
  search_kept = λ before. made.search_left ∙ (search_space_law n search plan).1 (sym (ap past_check12 made.result) ∙ before);
}

pub ends_listed : EndsListed
ends_listed n search plan a search' plan' made r e =
    subst (Listed (NetworkRefusal n or PlannerRefusal n search plan)) (sym made.result ∙ ap count_of e) (refusals.planner n search plan)

-- ---- demand 3

-- the answer to a plan that passes
passing : (m : Answer Pass Refusal) (pass : ModelPass) → mark_of m ≡ ok pass → (p : Pass) × (m ≡ Ok p)
passing (Ok p) pass e = (p, refl)
passing (Err r) pass e = absurd (not_ok e)

pub plans_exactly : PlansExactly
plans_exactly n net search plan a search' plan' made accepted few enough room = record { none_exactly = (there, back); outcome = by a refl }
  where
    exact : ModelExactly n net search plan
    exact = planner n net search plan accepted few enough room

    there : count_of a ≡ refused 11 0 → (other : Plan) → ValidPlan net other → 16 < length other
    there e = exact.none_exactly.0 (sym made.result ∙ e)

    back : ((other : Plan) → ValidPlan net other → 16 < length other) → count_of a ≡ refused 11 0
    back f = made.result ∙ exact.none_exactly.1 f

    written : (count : ℕ) → ModelPlanned n net (take count (make_plan n search plan).plan) → PlanWritten n net (take count plan')
    written count p = record {
      plan = p.plan;
      reads = ap (λ (b : List ℕ). read_plan (take count b)) made.plan_left ∙ p.reads;
      passes = λ m e. passing m p.passes.0 (e.result ∙ ap (λ (b : List ℕ). mark n (take count b)) made.plan_left ∙ p.passes.1);
      fewest = p.named.fewest;
      named = p.named;
    }

    by : (b : Answer ℕ Refusal) → a ≡ b → Outcome n net a plan'
    by (Ok count) e = a_plan count e (written count (exact.otherwise count (sym made.result ∙ ap count_of e)))
    by (Err r) e =
        let x = exact.only_11 (number_of r.kind) r.place (sym made.result ∙ ap count_of e) in
        no_plan (ap count_of e ∙ ap (λ (k : ℕ). refused k r.place) x.0 ∙ ap (refused 11) x.1)

pub refuses_only_short : RefusesOnlyShort
refuses_only_short n search plan a search' plan' made = record {
  twelve = λ place e. (limits n search plan).twelve place (sym made.result ∙ e);
  thirteen = λ place e. (limits n search plan).thirteen place (sym made.result ∙ e);
}
