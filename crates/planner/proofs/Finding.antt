-- What the search's answer says of the model's plan, and what the text asks of its choices.
-- Assumes nothing.
use mathlib.Core.Path.{◌≡◌, refl, sym, ap, ◌∙◌}
use Rattle.std.specs.Prelude.{Option, None as none, Some as some, option_map}
use mathlib.Core.List.{List, []}
use Prim.Native.Nat.{ℕ, zero, suc, ◌+◌, ◌*◌, ◌≤◌}
use native.Mathlib.Omega.{arith}
use lib.ListN.{length, get_or, replicate, length-replicate}
use Rattle.model.specs.Network.{Network, steering_bits}
use Rattle.model.specs.Path.{bit_of}
use Rattle.model.specs.Mark.{targets_from}
use Rattle.model.specs.Planner.{or_next, search_from, least_from, plan_for}
use Rattle.model.specs.Accepted.{Accepted}
use Rattle.model.proofs.Lists.{some_same}
use Rattle.plan_text.proofs.Writing.{over_length}
use Rattle.planner_theory.specs.Search.{Sys, plan_in, plan_from, plan_up_to}
use Rattle.planner_theory.specs.Settings.{number_of}
use Rattle.planner_theory.specs.Moves.{sys_of, decode}
use Rattle.planner_theory.proofs.Least.{plan_length}
use Rattle.planner_theory.proofs.SettingNumbers.{setting_small}
use Rattle.planner_theory.proofs.SameSearch.{plan_is}
use Rattle.planner_theory.proofs.Decoded.{plan_follows}
use Rattle.planner_search.specs.Plans.{with_choices, PlanFound}
use Rattle.planner_text.specs.Writing.{Picked}
use Rattle.planner_text.proofs.WholeText.{choice_held}

-- ---- the length of a plan

length_from : (M : Sys) (d n s : ℕ) (cs : List ℕ) → plan_from M d n s ≡ some cs → length cs ≤ d + n
unfolding plan_from
length_from M d zero s cs e = omega (arith, plan_length M d s cs e)
length_from M d (suc n) s cs e = go (plan_in M d s) refl e (λ f. length_from M (suc d) n s cs f)
  where
    go : (o : Option (List ℕ)) → plan_in M d s ≡ o → or_next o (plan_from M (suc d) n s) ≡ some cs → (plan_from M (suc d) n s ≡ some cs → length cs ≤ suc d + n) → length cs ≤ d + suc n
    go none p q later = omega (arith, later q)
    go (some ds) p q later = omega (arith, plan_length M d s ds p, ap length (some_same ds cs q))

-- ---- without targets the plan is empty

pub plan_empty : (net : Network) → Accepted net → net.targets ≡ [] → plan_for net ≡ some []
unfolding plan_for least_from search_from targets_from
plan_empty net a e = rw (a.starts, e)

-- ---- the search's answer

module _ (net : Network) (a : Accepted net) (start : ℕ) (is : start ≡ number_of net net.start) where
  abbrev choices_found : Option (List ℕ)
  choices_found = plan_up_to (sys_of net) 16 (start * 16)

  found_as : plan_for net ≡ option_map (decode net start) choices_found
  found_as = rw is (plan_is net a)

  pub found_nothing : {old out : List ℕ} {r : Option ℕ} → PlanFound net start old r out → r ≡ none → plan_for net ≡ none
  found_nothing f q = found_as ∙ ap (option_map (decode net start)) (go choices_found (sym f.answer ∙ q))
    where
      go : (o : Option (List ℕ)) → option_map length o ≡ none → o ≡ none
      go none f = refl
      go (some cs) f = cc

  pub record FoundPlan (picked : List ℕ) (n : ℕ) : Type 0 where
    pub cs : List ℕ
    pub plan_found : plan_for net ≡ some (decode net start cs)
    pub picks : Picked net start picked n cs

  pub found_plan : {r : Option ℕ} (picked : List ℕ) (n : ℕ) → PlanFound net start (replicate 16 0) r picked → r ≡ some n → FoundPlan picked n
  found_plan picked n f q = go choices_found refl (sym f.answer ∙ q) f.left
    where
      go : (o : Option (List ℕ)) → choices_found ≡ o → option_map length o ≡ some n → picked ≡ with_choices o (replicate 16 0) → FoundPlan picked n
      go none c f w = cc
      go (some cs) c f w =
          let long : length cs ≡ n = some_same (length cs) n f in
          let most = length_from (sys_of net) 0 16 (start * 16) cs c in
          let zeros = length-replicate {A = ℕ} 16 0 in
          record {
            cs = cs;
            plan_found = found_as ∙ ap (option_map (decode net start)) c;
            picks = record {
              within = rw is (setting_small (steering_bits net.nodes) (bit_of net.start));
              follows = plan_follows net a 16 start cs c;
              long = long;
              most = omega arith;
              size = ap length w ∙ over_length cs (replicate 16 0) (omega arith) ∙ zeros;
              are = λ i lt. ap (λ (l : List ℕ). get_or l i 0) w ∙ choice_held cs (replicate 16 0) i (omega arith);
            };
          }
