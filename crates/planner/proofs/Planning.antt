-- Laws of the search for one network: what the calls in turn ask, and what each ending of the search says.
-- Assumes nothing.
use mathlib.Core.Path.{◌≡◌, refl, sym, ap, ◌∙◌}
use mathlib.Core.List.{List, []}
use Prim.Native.Nat.{ℕ, ◌+◌, ◌-◌, ◌*◌, ◌^◌, ◌≤◌, ◌<◌}
use native.Mathlib.Nat.{pow-le-pow_right}
use native.Mathlib.Omega.{arith}
use lib.ListN.{length, replicate, length-replicate}
use Rattle.model.specs.Network.{steering_bits, tabulate}
use Rattle.model.specs.PlanText.{write_plan}
use Rattle.model.specs.Calls.{write_over, search_entries}
use Rattle.model.proofs.Lists.{zero_at, length_tabulate}
use Rattle.network_path.specs.Layout.{look_in}
use Rattle.plan_text.proofs.Writing.{over_none}
use Rattle.network_reader.specs.declared.reader.Network.{Network}
use Rattle.network_draft.specs.declared.store.Summary.{Summary}
use Rattle.network_draft.specs.Represents.{target_at}
use Rattle.network_reader.specs.Reads.{recorded_network, Uncounted, record_of}
use Rattle.planner_theory.specs.Settings.{setting_of, number_of}
use Rattle.planner_theory.specs.Moves.{decode}
use Rattle.planner_theory.proofs.SettingNumbers.{setting_small}
use Rattle.planner_theory.proofs.MoveLaws.{settings_within}
use Rattle.planner_steering.specs.declared.Problem.{Problem}
use Rattle.planner_steering.specs.Steering.{steering_of, ProblemOf}
use Rattle.planner_settings.specs.Route.{Prepared, Each}
use Rattle.planner_rows.specs.Rows.{RowsRight}
use Rattle.planner_settings.proofs.SettingWalk.{planned_few}
use Rattle.planner_forward.specs.Spreading.{SearchStarts}
use Rattle.planner_search.specs.Plans.{PlanFound}
use Rattle.std.specs.Prelude.{Option, None as none, Some as some, Result as Answer, Ok, Err}
use Rattle.model.specs.declared.refusal.Kind.TheVariants.{NoPlan}
use Rattle.model.specs.declared.refusal.Refusal.{Refusal}
use Rattle.planner_text.specs.Writing.{CountsOf, Countable, GivesText}
use Rattle.planner.specs.Call.{Searchable, PlansIn}
use Rattle.planner.proofs.Records.{record_planned, record_number}
use Rattle.planner.proofs.Finding.{plan_empty, found_nothing, FoundPlan, found_plan}
use Rattle.planner_text.proofs.Given.{given_written}
use Rattle.planner.proofs.Calling.{plans_none, plans_given}

-- a table of zeros has no row yet
pub rows_none : (ns steering : List ℕ) (pb : Problem) → RowsRight ns steering pb (replicate 8019 0)
rows_none ns steering pb = record {
  size = length-replicate {A = ℕ} 8019 0;
  right = λ net p x l e. absurd (omega (arith, zero_at 8019 (x * 11 + 0)));
}

module _ (u : Uncounted) (search : List ℕ) (s : Searchable u search) where
  -- the record that the parts are of
  abbrev r : Network
  r = record_of u s.count s.len

  -- ---- without targets

  pub plans_empty : (plan search' : List ℕ) → search' ≡ write_over (replicate search_entries 0) search → r.summary.target_count ≡ 0 → PlansIn u search plan (Ok 0) search' plan
  unfolding write_plan
  plans_empty plan search' clear e =
      plans_given u search plan search' clear [] (plan_empty (recorded_network r) s.accepted (ap (tabulate (target_at r.nodes r.summary) 0) e)) (Ok 0) plan
      (given_written (write_plan []) plan 0 refl (omega arith) plan (sym (over_none plan)))

  -- ---- the problem is made

  module _ (pb : Problem) (h : ProblemOf r.nodes r.summary pb) where
    pub prepared : Prepared (recorded_network r) r.nodes r.steering pb
    prepared = record_planned r s.filled s.accepted s.few pb h

    -- ---- the number of the start is known

    module _ (start : ℕ) (e : start ≡ setting_of (steering_of pb) (look_in r.bits r.known)) where
      number : start ≡ number_of (recorded_network r) (recorded_network r).start
      number = record_number r s.filled s.accepted s.few pb h start e

      -- what the search asks
      module _ (full : ℕ) (f : full ≡ 2 ^ r.summary.target_count - 1) (one : 1 ≤ r.summary.target_count) where
        starts : Each r.nodes r.steering pb (λ net. SearchStarts net start full)
        starts net p = record {
          within = rw (← p.bits_are, e) (setting_small (steering_of pb) (look_in r.bits r.known));
          all = f ∙ ap (λ (t : Summary). 2 ^ t.target_count - 1) (sym h.summary_is) ∙ ap (λ (n : ℕ). 2 ^ n - 1) (sym (ap length p.targets_are ∙ length_tabulate (target_at r.nodes pb.summary) 0 pb.summary.target_count));
          one = omega (arith, pow-le-pow_right {n = 2} (omega arith) one);
        }

        pub search_asks : ((11664 ≤ length search) × (start < 729) × (full < 16) × (16 ≤ length (replicate {A = ℕ} 16 0)))
            × Each r.nodes r.steering pb (λ net. SearchStarts net start full)
        search_asks =
            let few = planned_few (recorded_network r) r.nodes r.steering pb prepared in
            let small : start < 729 = omega (arith, (starts (recorded_network r) prepared).within, settings_within (length (steering_bits (recorded_network r).nodes)) few) in
            let below : full < 16 = omega (arith, pow-le-pow_right {n = 2} (omega arith) {j = 4} s.filled.in_limits.targets_fit) in
            ((s.enough, small, below, omega (arith, length-replicate {A = ℕ} 16 0)), starts)

      -- what it answers
      module _ (plan search' : List ℕ) (clear : search' ≡ write_over (replicate search_entries 0) search) (f : Option ℕ) (picked : List ℕ)
          (is : Each r.nodes r.steering pb (λ net. PlanFound net start (replicate 16 0) f picked)) where
        pub finds_none : f ≡ none → PlansIn u search plan (Err record { kind = NoPlan; place = 0 }) search' plan
        finds_none q = plans_none u search plan search' clear (found_nothing (recorded_network r) s.accepted start number (is (recorded_network r) prepared) q)

        module _ (n : ℕ) (q : f ≡ some n) where
          found : FoundPlan (recorded_network r) s.accepted start number picked n
          found = found_plan (recorded_network r) s.accepted start number picked n (is (recorded_network r) prepared) q

          counts_of : CountsOf (recorded_network r) r.nodes r.steering pb start picked n found.cs
          counts_of = record { prepared = prepared; picks = found.picks }

          -- what its text asks
          pub has_text : Countable r.nodes r.steering pb start picked n
          has_text = (recorded_network r, found.cs, counts_of)

          pub finds_plan : (a : Answer ℕ Refusal) (plan' : List ℕ) → GivesText r.nodes r.steering pb start picked n plan a plan' → PlansIn u search plan a search' plan'
          finds_plan a plan' g = plans_given u search plan search' clear (decode (recorded_network r) start found.cs) found.plan_found a plan' (g (recorded_network r) found.cs counts_of)
