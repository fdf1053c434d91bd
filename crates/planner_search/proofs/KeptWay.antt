-- Laws of the way along the states kept: it writes the choices of the plan.
-- Assumes nothing.
use mathlib.Core.Path.{◌≡◌, refl, sym, ap, ◌∙◌}
use mathlib.Core.Bool.{Bool, true, false, ◌&&◌}
use Rattle.std.specs.Prelude.{Some as some}
use mathlib.Core.List.{List, [], ◌∷◌, ◌++◌, append_assoc, append-nil}
use Prim.Native.Nat.{ℕ, suc, ◌≤◌, ◌<◌, ◌+◌, ◌*◌, ◌/◌, ◌%◌, ◌-◌}
use native.Mathlib.Numerals.{add-one}
use native.Mathlib.Omega.{arith}
use lib.Bits.{bit_or, or_lt}
use lib.ListN.{length, get_or, set, drop, length-append}
use lib.Seq.{set-append_seam, drop-cons}
use borrow.Author.Tests.{eq-eqb}
use Rattle.model.specs.Network.{Network}
use Rattle.model.specs.NetworkText.{is_some}
use Rattle.model.specs.Calls.{write_over}
use Rattle.model.proofs.Lists.{and_parts, some_same, none_some}
use Rattle.network_words.specs.Words.{word_bit}
use Rattle.planner_theory.specs.Search.{Sys, plan_in, if_goal, FirstAt}
use Rattle.planner_theory.specs.Moves.{count, gain, land, reached, goes, sys_of}
use Rattle.planner_theory.specs.Layers.{can}
use Rattle.planner_theory.proofs.Forward.{Traced, trace_step, least_plan, useful_next}
use Rattle.planner_steering.specs.declared.Problem.{Problem}
use Rattle.planner_settings.specs.Route.{Prepared}
use Rattle.planner_rows.specs.Rows.{row_number, RowsRight, Lands, LandsIn, LandsOf}
use Rattle.planner_table.specs.Table.{layers_of}
use Rattle.planner_backward.specs.Keeping.{Kept}
use Rattle.planner_search.specs.Plans.{PlanTraced}
use Rattle.planner_backward.proofs.SetTests.{into_slot}
use Rattle.planner_rows.proofs.RowLaws.{land_small, gain_small, gain_read, lands_of}
use Rattle.planner_table.proofs.SlotLaws.{layer_slot}

-- the way has come to setting x with the targets m, and i choices are written
pub record Tracing (net : Network) (start d : ℕ) (tab : List ℕ) (K : Kept net start d tab) (old out : List ℕ) (x m i : ℕ) : Type 0 where
  pub there : layers_of start K.before i (x * 16 + m) ≡ true
  pub done : List ℕ
  pub rest : List ℕ
  pub ahead : plan_in (sys_of net) (d - i) (x * 16 + m) ≡ some rest
  pub whole : plan_in (sys_of net) d start ≡ some (done ++ rest)
  pub count_is : length done ≡ i
  pub out_is : out ≡ done ++ drop i old

-- one choice more at the end of what is written
snoc_out : (done old out : List ℕ) (i r : ℕ) → length done ≡ i → i < length old → out ≡ done ++ drop i old → set out i r ≡ (done ++ (r ∷ [])) ++ drop (i + 1) old
snoc_out done old out i r c lt e =
    let a : drop i old ≡ get_or old i 0 ∷ drop (suc i) old = drop-cons old i 0 lt in
    let b : set (done ++ (get_or old i 0 ∷ drop (suc i) old)) i r ≡ done ++ (r ∷ drop (suc i) old)
    = rw (← c) (set-append_seam done (get_or old (length done) 0) (drop (suc (length done)) old) r) in
    let z : i + 1 ≡ suc i = add-one i in
    rw (e, a, b, z) (sym (append_assoc done (r ∷ []) (drop (suc i) old)))

pub tracing_start : (net : Network) (x d : ℕ) (tab : List ℕ) (K : Kept net (x * 16) d tab) (old : List ℕ) → 1 ≤ d → Tracing net (x * 16) d tab K old old x 0 0
unfolding layers_of
tracing_start net x d tab K old pos =
    let g = K.met.goal in
    let q = least_plan (sys_of net) (x * 16) (layers_of (x * 16) K.before) d g.0 K.met.layers g.1 g.2 in
    let z : x * 16 + 0 ≡ x * 16 = omega arith in
    let y : d - 0 ≡ d = omega arith in
    record {
      there = eq-eqb (x * 16 + 0) (x * 16) z;
      done = [];
      rest = q.0;
      ahead = rw (z, y) q.1;
      whole = q.1;
      count_is = refl;
      out_is = refl;
    }

module _ (net : Network) (start d : ℕ) (tab : List ℕ) (K : Kept net start d tab) (old out : List ℕ) (x m i : ℕ)
    (h : Tracing net start d tab K old out x m i) where
  abbrev M : Sys
  M = sys_of net

  abbrev s : ℕ
  s = x * 16 + m

  abbrev L : ℕ → ℕ → Bool
  L = layers_of start K.before

  module _ {ns steering : List ℕ} {pb : Problem} (q : Prepared net ns steering pb)
      {rows : List ℕ} (right : RowsRight ns steering pb rows) (less-x : x < 729) (known : row_number rows x 0 ≡ 1)
      {n : ℕ} {lands : List ℕ} (l : LandsIn rows x n lands) (g : ℕ) (g-is : g ≡ row_number rows x 2) (small : m < 16) (lt : i < d)
      (r : ℕ) (f : FirstAt (λ c. word_bit (get_or tab (i * 729 + get_or lands c 0) 0) (bit_or m g) ≡ true) n r) where
    row : Lands net rows x
    row = lands_of q right x less-x known

    of : LandsOf net x n lands
    of = l.of net row

    abbrev got : ℕ
    got = bit_or m g

    got_is : got ≡ reached net x m
    got_is = ap (bit_or m) (gain_read row g g-is)

    choices_are : M.choices s ≡ n
    choices_are = let e : s / 16 ≡ x = omega arith in ap (count net) e ∙ sym of.count_is

    to_is : (c : ℕ) → c < n → M.to s c ≡ get_or lands c 0 * 16 + got
    to_is c less =
        let ed : s / 16 ≡ x = omega arith in
        let em : s % 16 ≡ m = omega arith in
        let a : M.to s c ≡ goes net x (reached net x m) c = rw (ed, em) in
        a ∙ rw (of.lands_are c less, got_is)

    next : (c : ℕ) → c < n → (L (suc i) (M.to s c) && can M (d - suc i) (M.to s c)) ≡ can M (d - suc i) (M.to s c)
    next c less =
        let e = K.met.goal in
        useful_next M start L d e.0 K.met.layers e.1 e.2 i s c lt h.there (omega (arith, choices_are))

    -- the choice leads to a state kept where the rest of the plan can be done from it
    kept_is : (c : ℕ) → c < n → word_bit (get_or tab (i * 729 + get_or lands c 0) 0) got ≡ can M (d - suc i) (M.to s c)
    kept_is c less =
        let a : word_bit (get_or tab (i * 729 + get_or lands c 0) 0) got ≡ word_bit (get_or tab (i * 729 + land net x c) 0) (reached net x m) = rw (of.lands_are c less, got_is) in
        a ∙ sym (into_slot net tab i x m c small (land_small row c) (or_lt 4 m (gain net x) small (gain_small row)))
        ∙ sym (layer_slot start tab i (suc i) (M.to s c) refl)
        ∙ K.useful.kept (suc i) (M.to s c) (omega arith) lt
        ∙ next c less

    step : Traced M (d - suc i) s r h.rest
    step =
        let z : d - i ≡ suc (d - suc i) = omega arith in
        trace_step M (d - suc i) s r h.rest (ap (λ (k : ℕ). plan_in M k s) (sym z) ∙ h.ahead) (record {
          within = omega (arith, choices_are, f.within);
          before = λ c less e. f.before c less (kept_is c (omega (arith, f.within)) ∙ e);
          found = λ less. sym (kept_is r (omega (arith, choices_are))) ∙ f.found (omega (arith, choices_are));
        })

    pub tracing_within : r < n
    tracing_within = omega (arith, choices_are, step.within)

    pub tracing_step : 16 ≤ length old → d ≤ 16 → (y : ℕ) → y ≡ get_or lands r 0 → Tracing net start d tab K old (set out i r) y got (i + 1)
    tracing_step long most y y-is =
        let z : i + 1 ≡ suc i = add-one i in
        let t-is : M.to s r ≡ y * 16 + got = to_is r tracing_within ∙ ap (λ (q : ℕ). q * 16 + got) (sym y-is) in
        let a : L (suc i) (M.to s r) ≡ true = (and_parts (L (suc i) (M.to s r)) (can M (d - suc i) (M.to s r)) (next r tracing_within ∙ ap is_some step.ahead)).0 in
        let b : plan_in M (d - suc i) (M.to s r) ≡ some step.rest = step.ahead in
        record {
          there = rw (z, ← t-is) a;
          done = h.done ++ (r ∷ []);
          rest = step.rest;
          ahead = rw (z, ← t-is) b;
          whole = h.whole ∙ ap some (ap (λ (q : List ℕ). h.done ++ q) step.whole ∙ sym (append_assoc h.done (r ∷ []) step.rest));
          count_is = length-append h.done (r ∷ []) ∙ ap (λ (q : ℕ). q + 1) h.count_is;
          out_is = snoc_out h.done old out i r h.count_is (omega arith) h.out_is;
        }

  pub tracing_end : i ≡ d → PlanTraced net start d old out
  unfolding plan_in write_over
  tracing_end e =
      let z : d - i ≡ 0 = omega arith in
      let a : if_goal (M.goal s) ≡ some h.rest = rw z at h.ahead in
      let b : h.rest ≡ [] = none_left (M.goal s) h.rest a in
      let n : i ≡ length h.done = sym h.count_is in
      record { plan = h.done; is = h.whole ∙ rw (b, append-nil h.done); left = h.out_is ∙ ap (λ (k : ℕ). h.done ++ drop k old) n }
    where
      none_left : (g : Bool) (q : List ℕ) → if_goal g ≡ some q → q ≡ []
      none_left true q f = sym (some_same [] q f)
      none_left false q f = absurd (none_some q f)
