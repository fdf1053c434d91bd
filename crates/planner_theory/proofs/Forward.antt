-- Laws of the search from the start on: sets of states by the number of choices give the least number, and a plan is traced by the
-- states from which the rest can be done.
-- Assumes nothing.
use mathlib.Core.Path.{◌≡◌, refl, sym, ap, ◌∙◌}
use mathlib.Core.Bool.{Bool, true, false, ◌&&◌, ◌||◌}
use Rattle.std.specs.Prelude.{Option, None as none, Some as some}
use mathlib.Core.List.{List, ◌∷◌}
use Prim.Native.Nat.{ℕ, zero, suc, ◌≤◌, ◌<◌, ◌+◌, ◌-◌}
use native.Mathlib.Omega.{arith}
use native.Mathlib.Decide.{dec_lt}
use Rattle.model.specs.NetworkText.{is_some}
use Rattle.model.specs.Planner.{or_next, starting_with}
use Rattle.model.proofs.Lists.{true_false, or_false_right, or_assoc, some_same}
use Rattle.planner_theory.specs.Search.{Sys, first_from, if_goal, plan_in, plan_up_to, FirstAt}
use Rattle.planner_theory.specs.Layers.{can, some_of, Leads, MetBy, Stepped, Layers}
use Rattle.planner_theory.proofs.Least.{some_none, plan_in_step, plan_in_none, plan_in_first, from_none, from_some}

-- ---- a test on one of n numbers

pub some_of_same : (f g : ℕ → Bool) (i n : ℕ) → ((c : ℕ) → i ≤ c → c < i + n → f c ≡ g c) → some_of f i n ≡ some_of g i n
unfolding some_of
some_of_same f g i zero h = refl
some_of_same f g i (suc n) h = rw (h i (omega arith) (omega arith), some_of_same f g (suc i) n (λ c a b. h c (omega arith) (omega arith)))

-- one number more, at the end
pub some_of_snoc : (f : ℕ → Bool) (i n : ℕ) → some_of f i (suc n) ≡ (some_of f i n || f (i + n))
unfolding some_of
some_of_snoc f i zero = let z : i + 0 ≡ i = omega arith in rw z (or_false_right (f i))
some_of_snoc f i (suc n) =
    let z : suc i + n ≡ i + suc n = omega arith in
    rw (some_of_snoc f (suc i) n, z) (or_assoc (f i) (some_of f (suc i) n) (f (i + suc n)))

-- ---- whether a plan of n choices exists

pub can_plan : (M : Sys) (n s : ℕ) → can M n s ≡ true → (q : List ℕ) × (plan_in M n s ≡ some q)
can_plan M n s e = by (plan_in M n s) e
  where
    by : (o : Option (List ℕ)) → is_some o ≡ true → (q : List ℕ) × (o ≡ some q)
    by none e = absurd (true_false (sym e))
    by (some q) e = (q, refl)

pub can_not : (M : Sys) (n s : ℕ) → (can M n s ≡ true → ⊥) → plan_in M n s ≡ none
can_not M n s h = by (plan_in M n s) h
  where
    by : (o : Option (List ℕ)) → (is_some o ≡ true → ⊥) → o ≡ none
    by none h = refl
    by (some q) h = absurd (h refl)

pub can_zero : (M : Sys) (s : ℕ) → can M 0 s ≡ M.goal s
unfolding plan_in
can_zero M s = by (M.goal s)
  where
    by : (b : Bool) → is_some (if_goal b) ≡ b
    by true = refl
    by false = refl

first_from_can : (go : ℕ → Option (List ℕ)) (i n : ℕ) → is_some (first_from go i n) ≡ some_of (λ c. is_some (go c)) i n
unfolding first_from some_of
first_from_can go i zero = refl
first_from_can go i (suc n) = by (go i) (first_from_can go (suc i) n)
  where
    by : (o : Option (List ℕ)) → is_some (first_from go (suc i) n) ≡ some_of (λ c. is_some (go c)) (suc i) n
        → is_some (or_next (starting_with i o) (first_from go (suc i) n)) ≡ (is_some o || some_of (λ c. is_some (go c)) (suc i) n)
    by none h = h
    by (some q) h = refl

pub can_step : (M : Sys) (n s : ℕ) → can M (suc n) s ≡ some_of (λ c. can M n (M.to s c)) 0 (M.choices s)
unfolding plan_in
can_step M n s = first_from_can (λ c. plan_in M n (M.to s c)) 0 (M.choices s)

-- a plan from the state that a choice leads to is one longer from here
pub can_longer : (M : Sys) (n s c : ℕ) → c < M.choices s → can M n (M.to s c) ≡ true → can M (suc n) s ≡ true
can_longer M n s c lt e = let q = can_plan M n (M.to s c) e in ap is_some (plan_in_step M n s c q.0 lt q.1).1

-- ---- one choice of a plan: the first that leads to a state from which the rest can be done

pub record Traced (M : Sys) (n s r : ℕ) (cs : List ℕ) : Type 0 where
  pub within : r < M.choices s
  pub rest : List ℕ
  pub ahead : plan_in M n (M.to s r) ≡ some rest
  pub whole : cs ≡ r ∷ rest

pub trace_step : (M : Sys) (n s r : ℕ) (cs : List ℕ) → plan_in M (suc n) s ≡ some cs → FirstAt (λ c. can M n (M.to s c) ≡ true) (M.choices s) r → Traced M n s r cs
trace_step M n s r cs e f =
    elim (dec_lt r (M.choices s)) [
      | no p ↦ absurd (some_none e (plan_in_none M n s (λ c lt. off c (omega arith))))
      | yes p ↦
          let q = can_plan M n (M.to s r) (f.found p) in
          record { within = p; rest = q.0; ahead = q.1; whole = some_same cs (r ∷ q.0) (sym e ∙ plan_in_first M n s r q.0 p off q.1) }
    ]
  where
    off : (c : ℕ) → c < r → plan_in M n (M.to s c) ≡ none
    off c lt = can_not M n (M.to s c) (f.before c lt)

-- ---- other sets, the same up to set d

module _ (L L' : ℕ → ℕ → Bool) (d : ℕ) (same : (j s : ℕ) → j ≤ d → L' j s ≡ L j s) where
  pub earlier_same : (j t : ℕ) → j ≤ d → MetBy L j t → MetBy L' j t
  earlier_same j t le w = record { at = w.at; within = w.within; is = same w.at t (omega (arith, w.within)) ∙ w.is }

  pub stepped_same : (M : Sys) (j t : ℕ) → j ≤ d → Stepped M L j t → Stepped M L' j t
  stepped_same M j t le w = record { from = w.from; is = same j w.from le ∙ w.is; choice = w.choice; within = w.within; to_is = w.to_is }

  pub layers_same : (M : Sys) (start : ℕ) → Layers M start L d → Layers M start L' d
  layers_same M start h = record {
    first = same 0 start (omega arith) ∙ h.first;
    sound = λ j s le e. h.sound j s le (sym (same j s le) ∙ e);
    closed = λ j s c lt e less. earlier_same (suc j) (M.to s c) lt (h.closed j s c lt (sym (same j s (omega arith)) ∙ e) less);
    short = λ j s lt e. h.short j s lt (sym (same j s (omega arith)) ∙ e);
  }

module _ (M : Sys) (start : ℕ) (L : ℕ → ℕ → Bool) where
  -- ---- the sets, one after another

  pub layers_start : ((s : ℕ) → L 0 s ≡ true → s ≡ start) → L 0 start ≡ true → Layers M start L 0
  layers_start only e =
      record {
        first = e;
        sound = sound;
        closed = λ j s c lt. absurd (omega arith);
        short = λ j s lt. absurd (omega arith);
      }
    where
      sound : (j s : ℕ) → j ≤ 0 → L j s ≡ true → Leads M start j s
      sound j s le h n g =
          let z : j ≡ 0 = omega arith in
          let a : s ≡ start = only s (rw z at h) in
          let b : j + n ≡ n = omega arith in
          rw (b, ← a) g

  -- where set d has no goal, none up to it has
  no_goal : (d : ℕ) → Layers M start L d → ((s : ℕ) → L d s ≡ true → M.goal s ≡ false) → (j s : ℕ) → j < suc d → L j s ≡ true → M.goal s ≡ false
  no_goal d h off j s lt e =
      elim (dec_lt j d) [
        | yes p ↦ h.short j s p e
        | no p ↦ let z : j ≡ d = omega arith in off s (rw z at e)
      ]

  pub layers_next : (d : ℕ) → Layers M start L d → ((s : ℕ) → L d s ≡ true → M.goal s ≡ false)
      → ((t : ℕ) → L (suc d) t ≡ true → Stepped M L d t)
      → ((s c : ℕ) → L d s ≡ true → c < M.choices s → MetBy L (suc d) (M.to s c))
      → Layers M start L (suc d)
  layers_next d h off stepped closed = record { first = h.first; sound = sound; closed = closed'; short = no_goal d h off }
    where
      last : (s : ℕ) → L (suc d) s ≡ true → Leads M start (suc d) s
      last s e n g =
          let r = stepped s e in
          let a : can M (suc n) r.from ≡ true = can_longer M n r.from r.choice r.within (rw r.to_is g) in
          let z : suc d + n ≡ d + suc n = omega arith in
          rw z (h.sound d r.from (omega arith) r.is (suc n) a)

      sound : (j s : ℕ) → j ≤ suc d → L j s ≡ true → Leads M start j s
      sound j s le e =
          elim (dec_lt d j) [
            | no p ↦ h.sound j s (omega arith) e
            | yes p ↦ let z : j ≡ suc d = omega arith in rw z (last s (rw z at e))
          ]

      closed' : (j s c : ℕ) → j < suc d → L j s ≡ true → c < M.choices s → MetBy L (suc j) (M.to s c)
      closed' j s c lt e less =
          elim (dec_lt j d) [
            | yes p ↦ h.closed j s c p e less
            | no p ↦ let z : j ≡ d = omega arith in rw z (closed s c (rw z at e) less)
          ]

  -- ---- where no set before k has a goal, no plan of fewer than k choices exists

  none_below : (d k : ℕ) → Layers M start L d → k ≤ suc d → ((j s : ℕ) → j < k → L j s ≡ true → M.goal s ≡ false)
      → (n j s : ℕ) → j + n < k → L j s ≡ true → plan_in M n s ≡ none
  unfolding plan_in
  none_below d k h le off zero j s lt e = rw (off j s (omega arith) e)
  none_below d k h le off (suc n) j s lt e =
      plan_in_none M n s (λ c less. let w = h.closed j s c (omega arith) e less in none_below d k h le off n w.at (M.to s c) (omega (arith, w.within)) w.is)

  -- from set d on all sets are empty
  pub layers_empty : (d n : ℕ) → Layers M start L d → d ≤ n → ((j s : ℕ) → d ≤ j → j ≤ n → L j s ≡ false) → Layers M start L n
  layers_empty d n h le off = record {
    first = h.first;
    sound = λ j s l e. elim (dec_lt j d) [ yes b ↦ h.sound j s (omega arith) e | no b ↦ absurd (true_false (sym e ∙ off j s (omega arith) l)) ];
    closed = λ j s c l e. elim (dec_lt j d) [ yes b ↦ h.closed j s c b e | no b ↦ absurd (true_false (sym e ∙ off j s (omega arith) (omega arith))) ];
    short = λ j s l e. elim (dec_lt j d) [ yes b ↦ h.short j s b e | no b ↦ absurd (true_false (sym e ∙ off j s (omega arith) (omega arith))) ];
  }

  pub nothing_short : (d : ℕ) → Layers M start L d → ((s : ℕ) → L d s ≡ true → M.goal s ≡ false) → (n : ℕ) → n ≤ d → plan_in M n start ≡ none
  nothing_short d h off n le = none_below d (suc d) h (omega arith) (no_goal d h off) n 0 start (omega arith) h.first

  pub nothing_up_to : (d : ℕ) → Layers M start L d → ((s : ℕ) → L d s ≡ true → M.goal s ≡ false) → plan_up_to M d start ≡ none
  nothing_up_to d h off = from_none M 0 d start (λ n a b. nothing_short d h off n (omega arith))

  -- ---- where the last set has a goal, its number is the least

  module _ (d g : ℕ) (h : Layers M start L d) (in-last : L d g ≡ true) (goal-is : M.goal g ≡ true) where
    pub least_can : can M d start ≡ true
    least_can =
        let z : d + 0 ≡ d = omega arith in
        let e : can M (d + 0) start ≡ true = h.sound d g (omega arith) in-last 0 (can_zero M g ∙ goal-is) in
        rw z at e

    pub least_plan : (cs : List ℕ) × (plan_in M d start ≡ some cs)
    least_plan = can_plan M d start least_can

    pub least_first : (n : ℕ) → n < d → plan_in M n start ≡ none
    least_first n lt = none_below d d h (omega arith) h.short n 0 start (omega arith) h.first

    pub least_is : (n : ℕ) → d ≤ n → plan_up_to M n start ≡ plan_in M d start
    least_is n le =
        let q = least_plan in
        from_some M 0 n d start q.0 (omega arith) (omega arith) q.1 least_first ∙ sym q.1

    -- what a choice leads to from set j is in set j + 1, where the rest of a plan of d choices can be done from it
    pub useful_next : (j s c : ℕ) → j < d → L j s ≡ true → c < M.choices s
        → (L (suc j) (M.to s c) && can M (d - suc j) (M.to s c)) ≡ can M (d - suc j) (M.to s c)
    useful_next j s c lt e less = by (L (suc j) t) refl (can M (d - suc j) t) refl
      where
        t : ℕ
        t = M.to s c

        by : (a : Bool) → L (suc j) t ≡ a → (b : Bool) → can M (d - suc j) t ≡ b → (a && b) ≡ b
        by true p b q = refl
        by false p false q = refl
        by false p true q = absurd (early (h.closed j s c lt e less))
          where
            early : MetBy L (suc j) t → ⊥
            early w = elim (dec_lt w.at (suc j)) [
              | yes less ↦ let r = can_plan M (w.at + (d - suc j)) start (h.sound w.at t (omega arith) w.is (d - suc j) q) in some_none r.1 (least_first (w.at + (d - suc j)) (omega arith))
              | no more ↦ let z : w.at ≡ suc j = omega (arith, w.within) in true_false (sym (rw z at w.is) ∙ p)
            ]
