-- The plan of the search by numbers, operation by operation: what its writer needs.
-- Assumes nothing.
use mathlib.Core.Path.{◌≡◌, refl, sym, ap, ◌∙◌, subst}
use mathlib.Core.Bool.{Bool, true, false}
use Rattle.std.specs.Prelude.{Option, None as none, Some as some}
use mathlib.Core.List.{List, [], ◌∷◌}
use Prim.Native.Nat.{ℕ, zero, suc, ◌<◌, ◌+◌, ◌*◌, ◌/◌, ◌%◌, ◌^◌}
use native.Mathlib.Omega.{arith}
use lib.ListN.{length}
use lib.Bits.{or_lt}
use Rattle.model.specs.Network.{Network, steering_bits}
use Rattle.model.specs.Path.{Walk, path, stop, path_length}
use Rattle.model.specs.Planner.{or_next}
use Rattle.model.specs.Accepted.{Accepted}
use Rattle.model.proofs.Lists.{none_some, some_same}
use Rattle.planner_theory.specs.Search.{Sys, if_goal, plan_in, plan_from, plan_up_to}
use Rattle.planner_theory.specs.Moves.{count, gain, land, reached, goes, sys_of, decode, StepOf, Follows}
use Rattle.planner_theory.specs.Settings.{look_up, walk_at, order}
use Rattle.planner_theory.specs.Choices.{places_of, choice_bits}
use Rattle.planner_theory.proofs.Least.{first_from_came}
use Rattle.planner_theory.proofs.MoveLaws.{count_path, count_stop, path_falls, bits_of, choice_length, gain_within}
use Rattle.planner_theory.proofs.SameSearch.{decode_step}

-- a setting with a choice has a path
pub step_of : (net : Network) (x c : ℕ) → c < count net x → StepOf net x c
step_of net x c less = by (walk_at net x) refl
  where
    by : (w : Walk) → walk_at net x ≡ w → StepOf net x c
    by (path p) e = record { route = p; walks = e; chosen = less }
    by (stop k) e = absurd (omega (arith, count_stop net x k e))

module _ (net : Network) (a : Accepted net) where
  abbrev sb : List (ℕ × ℕ)
  sb = steering_bits net.nodes

  abbrev M : Sys
  M = sys_of net

  -- ---- one step

  module _ (x c : ℕ) (st : StepOf net x c) where
    chosen_of : c < 2 ^ length (order sb st.route)
    chosen_of = omega (arith, st.chosen, count_path net x st.route st.walks)

    -- the operation's bits go place by place along the setting's path, its count of choices being 2 to the count of digits
    pub decode_bits : (cs : List ℕ) → decode net x (c ∷ cs) ≡ choice_bits net (places_of st.route) (count net x) c ∷ decode net (land net x c) cs
    decode_bits cs =
        decode_step net a x st.route st.walks c cs
        ∙ rw (bits_of net a.wf st.route (path_falls net a.wf (look_up sb x) st.route st.walks) c chosen_of, ← (count_path net x st.route st.walks))

    pub bits_length : length (choice_bits net (places_of st.route) (count net x) c) ≡ path_length st.route
    bits_length =
        let falls = path_falls net a.wf (look_up sb x) st.route st.walks in
        ap length (sym (bits_of net a.wf st.route falls c chosen_of ∙ ap (λ (h : ℕ). choice_bits net (places_of st.route) h c) (sym (count_path net x st.route st.walks))))
        ∙ choice_length net a.wf st.route falls c chosen_of

  -- ---- all steps

  follows_in : (n x t : ℕ) (cs : List ℕ) → t < 16 → plan_in M n (x * 16 + t) ≡ some cs → Follows net x cs
  unfolding plan_in
  follows_in zero x t cs small e = by (M.goal (x * 16 + t)) e
    where
      by : (g : Bool) → if_goal g ≡ some cs → Follows net x cs
      by true f = subst (Follows net x) (some_same [] cs f) tt
      by false f = absurd (none_some cs f)
  follows_in (suc n) x t cs small e =
      let d : (x * 16 + t) / 16 ≡ x = omega arith in
      let r = first_from_came (λ c. plan_in M n (M.to (x * 16 + t) c)) 0 (count net ((x * 16 + t) / 16)) cs e in
      let less : r.choice < count net x = omega (arith, r.within, ap (count net) d) in
      let st = step_of net x r.choice less in
      let f : plan_in M n (goes net x (reached net x t) r.choice) ≡ some r.rest = moved x t r.choice n r.rest small r.found in
      subst (Follows net x) (sym r.whole) (st, follows_in n (land net x r.choice) (reached net x t) r.rest (or_lt 4 t (gain net x) small (gain_within net a x)) f)
    where
      moved : (x t c n : ℕ) (q : List ℕ) → t < 16 → plan_in M n (M.to (x * 16 + t) c) ≡ some q → plan_in M n (goes net x (reached net x t) c) ≡ some q
      moved x t c n q small f =
          let d : (x * 16 + t) / 16 ≡ x = omega arith in
          let r : (x * 16 + t) % 16 ≡ t = omega arith in
          rw (d, r) at f

  follows_from : (d n x : ℕ) (cs : List ℕ) → plan_from M d n (x * 16) ≡ some cs → Follows net x cs
  unfolding plan_from
  follows_from d zero x cs e = follows_in d x 0 cs (omega arith) (let z : x * 16 ≡ x * 16 + 0 = omega arith in ap (plan_in M d) (sym z) ∙ e)
  follows_from d (suc n) x cs e = by (plan_in M d (x * 16)) refl e (λ f. follows_from (suc d) n x cs f)
    where
      by : (o : Option (List ℕ)) → plan_in M d (x * 16) ≡ o → or_next o (plan_from M (suc d) n (x * 16)) ≡ some cs → (plan_from M (suc d) n (x * 16) ≡ some cs → Follows net x cs) → Follows net x cs
      by none f g ih = ih g
      by (some q) f g ih = follows_in d x 0 cs (omega arith) (let z : x * 16 ≡ x * 16 + 0 = omega arith in ap (plan_in M d) (sym z) ∙ f ∙ g)

  pub plan_follows : (n x : ℕ) (cs : List ℕ) → plan_up_to M n (x * 16) ≡ some cs → Follows net x cs
  plan_follows n x cs e = follows_from 0 n x cs e
