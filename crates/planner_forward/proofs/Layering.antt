-- Laws of the search layer by layer: the first layer, one layer more, and the answer where a layer has a goal and where none has.
-- Assumes nothing.
use mathlib.Core.Path.{◌≡◌, refl, sym, ap, ◌∙◌}
use mathlib.Core.Bool.{Bool, true, false}
use mathlib.Core.Logic.{◌⊎◌, inl, inr}
use mathlib.Core.List.{List}
use Prim.Native.Nat.{ℕ, zero, suc, ◌+◌, ◌*◌, ◌/◌, ◌%◌, ◌≤◌, ◌<◌}
use native.Mathlib.Omega.{arith}
use native.Mathlib.Decide.{dec_lt}
use native.Mathlib.Numerals.{add-one}
use borrow.Author.Tests.{eq-eqb, ne_eqb, eqb-true, eqb-false}
use lib.Dec.{eqb, ltb}
use lib.ListN.{get_or, set, replicate, length-replicate}
use lib.Seq.{get_or-set_same, get_or-set_other}
use Rattle.std.specs.Prelude.{None as none}
use Rattle.model.specs.Network.{Network}
use Rattle.model.specs.Accepted.{Accepted}
use Rattle.model.proofs.Lists.{true_false, zero_at, and_false_right}
use Rattle.network_words.specs.Words.{word_bit}
use Rattle.network_words.proofs.WordLaws.{zero_bit}
use Rattle.network_words.proofs.WordTests.{word_bit_pow}
use Rattle.planner_theory.specs.Moves.{all_of, count, gain, reached, sys_of}
use Rattle.planner_theory.specs.Search.{plan_up_to}
use Rattle.planner_theory.specs.Layers.{MetBy, Layers}
use Rattle.planner_theory.proofs.Forward.{earlier_same, stepped_same, layers_same, layers_start, layers_next, layers_empty, nothing_up_to}
use Rattle.planner_theory.proofs.MoveLaws.{gain_within, land_within}
use Rattle.planner_table.specs.Table.{in_slot, in_seen, layers_of, Others, Known, SlotKnown}
use Rattle.planner_forward.specs.Goals.{SetsIn, GoalIn}
use Rattle.planner_forward.specs.Spreading.{Spread, Next, MetAt, SearchStarts}
use Rattle.planner_table.proofs.SetLaws.{together_small}
use Rattle.planner_table.proofs.SlotLaws.{slot_beyond, slot_other}

-- the search has come to layer i: no layer so far has a goal, and the slots from i on are empty
pub record Forward (net : Network) (start i : ℕ) (tab seen : List ℕ) : Type 0 where
  pub layers : Layers (sys_of net) start (layers_of start tab) i
  pub goalless : (s : ℕ) → layers_of start tab i s ≡ true → (sys_of net).goal s ≡ false
  pub met : (s : ℕ) → in_seen seen s ≡ true → MetBy (layers_of start tab) i s
  pub known : Known net start tab i
  pub empty : (j s : ℕ) → i ≤ j → j < 16 → in_slot tab j s ≡ false

-- ---- slots that are empty, and layers that stay

-- an empty slot
pub slot_empty : (tab : List ℕ) (j s : ℕ) → j < 16 → ((n : ℕ) → n < 11664 → get_or tab n 0 ≡ 0) → in_slot tab j s ≡ false
slot_empty tab j s less zeros =
    elim (dec_lt s 11664) [
      | yes lt ↦ rw (zeros (j * 729 + s / 16) (omega arith), zero_bit (s % 16)) (and_false_right (ltb s 11664))
      | no ge ↦ slot_beyond tab j s (omega arith)
    ]

-- the layers up to i
pub layer_same : (start : ℕ) (i : ℕ) (tab tab' : List ℕ) → Others i tab tab' → (j s : ℕ) → j ≤ i → layers_of start tab' j s ≡ layers_of start tab j s
unfolding layers_of
layer_same start i tab tab' others zero s le = refl
layer_same start i tab tab' others (suc j) s le = slot_other tab tab' i j s others (λ z. omega arith)

-- ---- the first layer

-- of n settings, only the start has been met, with no target reached
pub seen_start : (n start s : ℕ) → start < n → in_seen (set (replicate n 0) start 1) s ≡ true → s ≡ start * 16
seen_start n start s lt e = by (eqb start (s / 16)) refl
  where
    by : (t : Bool) → eqb start (s / 16) ≡ t → s ≡ start * 16
    by true z =
        let y : start ≡ s / 16 = eqb-true start (s / 16) z in
        let w : ◌≡◌ {A = ℕ} (get_or (set (replicate n 0) start 1) (s / 16) 0) 1 = ap (λ (k : ℕ). get_or (set (replicate n 0) start 1) k 0) (sym y) ∙ get_or-set_same (replicate n 0) start 1 0 (omega (arith, length-replicate {A = ℕ} n 0)) in
        let m : 0 ≡ s % 16 = eqb-true 0 (s % 16) (sym (word_bit_pow 0 (s % 16)) ∙ ap (λ (v : ℕ). word_bit v (s % 16)) (sym w) ∙ e) in
        omega arith
    by false z =
        let w : ◌≡◌ {A = ℕ} (get_or (set (replicate n 0) start 1) (s / 16) 0) 0 = get_or-set_other (replicate n 0) start (s / 16) 1 0 (λ q. eqb-false start (s / 16) z (sym q)) ∙ zero_at n (s / 16) in
        absurd (true_false (sym e ∙ ap (λ (v : ℕ). word_bit v (s % 16)) w ∙ zero_bit (s % 16)))

module _ (net : Network) (start full : ℕ) (starts : SearchStarts net start full) (tab seen : List ℕ) where
  pub forward_start : ((n : ℕ) → n < 11664 → get_or tab n 0 ≡ 0) → ((s : ℕ) → in_seen seen s ≡ true → s ≡ start * 16) → Forward net (start * 16) 0 tab seen
  unfolding layers_of
  forward_start zeros met = record {
    layers = layers_start (sys_of net) (start * 16) (layers_of (start * 16) tab) (λ s e. eqb-true s (start * 16) e) (eq-eqb (start * 16) (start * 16) refl);
    goalless = goalless;
    met = λ s e. record { at = 0; within = omega arith; is = eq-eqb s (start * 16) (met s e) };
    known = known;
    empty = λ j s le lt. slot_empty tab j s lt zeros;
  }
    where
      goalless : (s : ℕ) → layers_of (start * 16) tab 0 s ≡ true → (sys_of net).goal s ≡ false
      goalless s e =
          let z : s ≡ start * 16 = eqb-true s (start * 16) e in
          let off : eqb (s % 16) (all_of net.targets) ≡ false = ne_eqb (s % 16) (all_of net.targets) (λ w. omega (arith, starts.all, starts.one)) in
          rw off (and_false_right (ltb 0 (count net (s / 16))))

      known : Known net (start * 16) tab 0
      known j s le e =
          let zj : j ≡ 0 = omega arith in
          let f : layers_of (start * 16) tab 0 s ≡ true = rw zj at e in
          let z : s ≡ start * 16 = eqb-true s (start * 16) f in
          omega (arith, starts.within)

-- ---- one layer more

module _ (net : Network) (accepted : Accepted net) (start i : ℕ) (less : i < 16) (tab seen tab' seen' : List ℕ)
    (f : Forward net start i tab seen) (p : Spread (Next net start tab i) i tab seen tab' seen') where
  same : (j s : ℕ) → j ≤ i → layers_of start tab' j s ≡ layers_of start tab j s
  same = layer_same start i tab tab' p.only.others

  -- the states of slot i are those that an operation leads to from layer i
  came : (s : ℕ) → in_slot tab' i s ≡ true → Next net start tab i s
  came s e = by (p.came s e)
    where
      by : (in_slot tab i s ≡ true) ⊎ Next net start tab i s → Next net start tab i s
      by (inl q) = absurd (true_false (sym q ∙ f.empty i s (omega arith) less))
      by (inr a) = a

  -- with their sets
  pub slot_sets : (r : ℕ) → SetsIn (Next net start tab i) r → SetsIn (λ (s : ℕ). in_slot tab' i s ≡ true) r
  slot_sets r h s e = h s (came s e)

  slot_known : SlotKnown net tab' i
  slot_known s e =
      let a = came s e in
      let x = a.from / 16 in
      let small : reached net x (a.from % 16) < 16 = together_small (a.from % 16) (gain net x) (omega arith) (gain_within net accepted x) in
      omega (arith, a.to_is, land_within net x a.choice)

  -- what has been met is of layer i + 1 or an earlier one
  met : (s : ℕ) → in_seen seen' s ≡ true → MetBy (layers_of start tab') (suc i) s
  unfolding layers_of
  met s e = by (p.met s e)
    where
      by : (in_seen seen s ≡ true) ⊎ (in_slot tab' i s ≡ true) → MetBy (layers_of start tab') (suc i) s
      by (inl q) = let w = earlier_same (layers_of start tab) (layers_of start tab') i same i s (omega arith) (f.met s q) in record { at = w.at; within = omega (arith, w.within); is = w.is }
      by (inr q) = record { at = suc i; within = omega arith; is = q }

  layers : Layers (sys_of net) start (layers_of start tab') (suc i)
  unfolding layers_of
  layers =
      layers_next (sys_of net) start (layers_of start tab') i (layers_same (layers_of start tab) (layers_of start tab') i same (sys_of net) start f.layers)
      (λ s e. f.goalless s (sym (same i s (omega arith)) ∙ e))
      (λ t e. stepped_same (layers_of start tab) (layers_of start tab') i same (sys_of net) i t (omega arith) (came t e))
      (λ s c e lt. met ((sys_of net).to s c) (p.covers ((sys_of net).to s c) (record { from = s; is = sym (same i s (omega arith)) ∙ e; choice = c; within = lt; to_is = refl })))

  known : Known net start tab' (suc i)
  unfolding layers_of
  known j s le e =
      elim (dec_lt j (suc i)) [
        | yes h ↦ f.known j s (omega arith) (sym (same j s (omega arith)) ∙ e)
        | no h ↦ let z : j ≡ suc i = omega arith in slot_known s (rw z at e)
      ]

  -- the layer has no goal
  pub forward_next : (r : Bool) → (SlotKnown net tab' i → GoalIn net tab' i r) → r ≡ false → Forward net start (i + 1) tab' seen'
  unfolding layers_of
  forward_next r g e =
      rw (add-one i)
      (record {
        layers = layers;
        goalless = (g slot_known).no_goal e;
        met = met;
        known = known;
        empty = λ j s le lt. slot_other tab tab' i j s p.only.others (λ z. omega arith) ∙ f.empty j s (omega arith) lt;
      })

  -- the layer has one
  pub met_goal : (r : Bool) → (SlotKnown net tab' i → GoalIn net tab' i r) → r ≡ true → MetAt net start tab' (i + 1)
  unfolding layers_of
  met_goal r g e = rw (add-one i) (record { first = omega arith; most = omega arith; layers = layers; goal = (g slot_known).some_goal e; known = known })

  -- nothing came to the layer, so that it and all behind it are empty
  pub met_empty : SetsIn (λ (s : ℕ). in_slot tab' i s ≡ true) 0 → plan_up_to (sys_of net) 16 start ≡ none
  unfolding layers_of
  met_empty nothing =
      nothing_up_to (sys_of net) start (layers_of start tab') 16 (layers_empty (sys_of net) start (layers_of start tab') (suc i) 16 layers (omega arith) empty)
      (λ s e. absurd (true_false (sym e ∙ empty 16 s (omega arith) (omega arith))))
    where
      empty_slot : (j s : ℕ) → i ≤ j → j < 16 → in_slot tab' j s ≡ false
      empty_slot j s le lt =
          elim (dec_lt i j) [
            | yes h ↦ slot_other tab tab' i j s p.only.others (λ z. omega arith) ∙ f.empty j s (omega arith) lt
            | no h ↦ let z : j ≡ i = omega arith in rw z (off (in_slot tab' i s) refl)
          ]
        where
          off : (t : Bool) → in_slot tab' i s ≡ t → t ≡ false
          off true e = absurd (true_false (sym (nothing s e) ∙ zero_bit (s % 16)))
          off false e = refl

      empty : (j s : ℕ) → suc i ≤ j → j ≤ 16 → layers_of start tab' j s ≡ false
      empty zero s le l = absurd (omega arith)
      empty (suc j) s le l = empty_slot j s (omega arith) (omega arith)

-- ---- no layer up to 16 has a goal

pub met_nothing : (net : Network) (start i : ℕ) (tab seen : List ℕ) → i ≡ 16 → Forward net start i tab seen → plan_up_to (sys_of net) 16 start ≡ none
met_nothing net start i tab seen d f = rw d at (nothing_up_to (sys_of net) start (layers_of start tab) i f.layers f.goalless)
