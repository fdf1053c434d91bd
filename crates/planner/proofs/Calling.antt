-- Laws of the planner's call: what each ending says of the model's `make_plan`.
-- Assumes nothing.
use mathlib.Core.Path.{◌≡◌, refl, sym, ap, ◌∙◌}
use Rattle.std.specs.Prelude.{None as none, Some as some, Result as Answer, Err}
use mathlib.Core.List.{List}
use Prim.Native.Nat.{ℕ, ◌≤◌, ◌<◌}
use native.Mathlib.Omega.{arith}
use lib.ListN.{length, replicate}
use borrow.Author.Tests.{lt-ltb, le-ltb}
use Rattle.model.specs.Result.{Result, ok, refused}
use Rattle.model.specs.Text.{Bytes}
use Rattle.model.specs.Network.{Network as ModelNetwork, steering_bits}
use Rattle.model.specs.Plan.{Plan}
use Rattle.model.specs.PlanText.{write_plan}
use Rattle.model.specs.NetworkText.{read_network}
use Rattle.model.specs.Planner.{plan_for}
use Rattle.model.specs.Calls.{write_over, written, count_of as length_of, if_room, search_entries, searchable, planned, cleared, PlanAnswer, make_plan}
use Rattle.network_reader.specs.Reads.{recorded_network, Uncounted, record_of}
use Rattle.model.specs.Answers.{number_of, count_of}
use Rattle.model.specs.declared.refusal.Kind.TheVariants.{NoPlan, SteeringCount, SearchSpace}
use Rattle.model.specs.declared.refusal.Refusal.{Refusal}
use Rattle.planner_text.specs.Writing.{Given}
use Rattle.planner.specs.Call.{PlansIn, MadePlan}

-- ---- the answer of the search

planned_none : (net : ModelNetwork) (room : ℕ) → plan_for net ≡ none → planned (ok net) room ≡ refused 11 0
planned_none net room e = rw e

planned_some : (net : ModelNetwork) (room : ℕ) (p : Plan) → plan_for net ≡ some p → planned (ok net) room ≡ if_room room (write_plan p)
planned_some net room p e = rw e

module _ (u : Uncounted) (search plan search' : List ℕ) (clear : search' ≡ write_over (replicate search_entries 0) search) where
  plans_by : (x : Result (List ℕ)) (a : Answer ℕ Refusal) (plan' : List ℕ) → planned (ok (recorded_network (record_of u 0 0))) (length plan) ≡ x → count_of a ≡ length_of x → plan' ≡ written x plan
      → PlansIn u search plan a search' plan'
  plans_by x a plan' e b w = record { result = b ∙ ap length_of (sym e); search_left = clear; plan_left = w ∙ ap (λ (y : Result (List ℕ)). written y plan) (sym e) }

  -- 11
  pub plans_none : plan_for (recorded_network (record_of u 0 0)) ≡ none → PlansIn u search plan (Err record { kind = NoPlan; place = 0 }) search' plan
  plans_none e = plans_by (refused 11 0) _ plan (planned_none (recorded_network (record_of u 0 0)) (length plan) e) refl refl

  pub plans_given : (p : Plan) → plan_for (recorded_network (record_of u 0 0)) ≡ some p → (a : Answer ℕ Refusal) (plan' : List ℕ) → Given (write_plan p) plan a plan' → PlansIn u search plan a search' plan'
  plans_given p e a plan' g = plans_by (if_room (length plan) (write_plan p)) a plan' (planned_some (recorded_network (record_of u 0 0)) (length plan) p e) g.result g.left

-- ---- the whole call

module _ (n : Bytes) (search plan : List ℕ) where
  makes_by : (x : Result ModelNetwork) → searchable n (length search) ≡ x
      → make_plan n search plan ≡ record { result = length_of (planned x (length plan)); search = cleared x search; plan = written (planned x (length plan)) plan }
  unfolding make_plan
  makes_by x e = rw e

  makes_refused : (r : Refusal) → searchable n (length search) ≡ refused (number_of r.kind) r.place → MadePlan n search plan (Err r) search plan
  makes_refused r e =
      let m = makes_by (refused (number_of r.kind) r.place) e in
      record {
        result = sym (ap (λ (y : PlanAnswer). y.result) m);
        search_left = sym (ap (λ (y : PlanAnswer). y.search) m);
        plan_left = sym (ap (λ (y : PlanAnswer). y.plan) m);
      }

  pub network_refused : (r : Refusal) → read_network n ≡ refused (number_of r.kind) r.place → MadePlan n search plan (Err r) search plan
  unfolding searchable
  network_refused r e = makes_refused r (rw e)

  module _ (net : ModelNetwork) (reads : read_network n ≡ ok net) (k : ℕ) (count : k ≡ length (steering_bits net.nodes)) where
    pub too_many : 6 < k → MadePlan n search plan (Err record { kind = SteeringCount; place = k }) search plan
    unfolding searchable
    too_many h = makes_refused _ (rw (reads, lt-ltb 6 (length (steering_bits net.nodes)) (omega arith)) (ap (refused 10) (sym count)))

    module _ (few : k ≤ 6) where
      pub too_short : length search < 11664 → MadePlan n search plan (Err record { kind = SearchSpace; place = 11664 }) search plan
      unfolding searchable search_entries
      too_short h = makes_refused _ (rw (reads, le-ltb 6 (length (steering_bits net.nodes)) (omega arith)) (rw (lt-ltb (length search) 11664 h)))

      pub searched : (u : Uncounted) (a : Answer ℕ Refusal) (search' plan' : List ℕ) → recorded_network (record_of u 0 0) ≡ net → 11664 ≤ length search → PlansIn u search plan a search' plan' → MadePlan n search plan a search' plan'
      unfolding searchable search_entries
      searched u a search' plan' e h p =
          let m = makes_by (ok net) (rw (reads, le-ltb 6 (length (steering_bits net.nodes)) (omega arith)) (rw (le-ltb (length search) 11664 h))) in
          record {
            result = p.result ∙ ap (λ (w : ModelNetwork). length_of (planned (ok w) (length plan))) e ∙ sym (ap (λ (y : PlanAnswer). y.result) m);
            search_left = p.search_left ∙ sym (ap (λ (y : PlanAnswer). y.search) m);
            plan_left = p.plan_left ∙ ap (λ (w : ModelNetwork). written (planned (ok w) (length plan)) plan) e ∙ sym (ap (λ (y : PlanAnswer). y.plan) m);
          }
