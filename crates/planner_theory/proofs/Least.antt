-- Laws of the search by numbers: the first choice from which the rest can be done, and the plan of the fewest choices.
-- Assumes nothing.
use mathlib.Core.Path.{◌≡◌, refl, sym, ap, ◌∙◌}
use mathlib.Core.Bool.{Bool, true, false}
use Rattle.std.specs.Prelude.{Option, None as none, Some as some}
use mathlib.Core.List.{List, [], ◌∷◌}
use Prim.Native.Nat.{ℕ, zero, suc, ◌≤◌, ◌<◌, ◌+◌}
use native.Mathlib.Omega.{arith}
use native.Mathlib.Decide.{dec_lt}
use lib.ListN.{length}
use Rattle.model.specs.Planner.{or_next, starting_with}
use Rattle.model.proofs.Lists.{none_some, some_same}
use Rattle.planner_theory.specs.Search.{Sys, first_from, if_goal, plan_in, plan_from}

pub some_none : {A : Type 0} {o : Option A} {a : A} → o ≡ some a → o ≡ none → ⊥
some_none {a = a} e f = none_some a (sym f ∙ e)

-- ---- the first choice from which the rest can be done

pub first_from_none : (go : ℕ → Option (List ℕ)) (i n : ℕ) → ((c : ℕ) → i ≤ c → c < i + n → go c ≡ none) → first_from go i n ≡ none
unfolding first_from
first_from_none go i zero h = refl
first_from_none go i (suc n) h = rw (h i (omega arith) (omega arith)) (first_from_none go (suc i) n (λ c a b. h c (omega arith) (omega arith)))

pub first_from_is : (go : ℕ → Option (List ℕ)) (i n r : ℕ) (q : List ℕ) → i ≤ r → r < i + n → ((c : ℕ) → i ≤ c → c < r → go c ≡ none) → go r ≡ some q
    → first_from go i n ≡ some (r ∷ q)
unfolding first_from
first_from_is go i zero r q a b before e = absurd (omega arith)
first_from_is go i (suc n) r q a b before e =
    elim (dec_lt i r) [
      | yes p ↦ rw (before i (omega arith) p) (first_from_is go (suc i) n r q p (omega arith) (λ c x y. before c (omega arith) y) e)
      | no p ↦ let z : r ≡ i = omega arith in rw (z, rw z at e)
    ]

pub first_from_some : (go : ℕ → Option (List ℕ)) (i n c : ℕ) (q : List ℕ) → i ≤ c → c < i + n → go c ≡ some q → (r : List ℕ) × (first_from go i n ≡ some r)
unfolding first_from
first_from_some go i zero c q a b e = absurd (omega arith)
first_from_some go i (suc n) c q a b e =
    elim (dec_lt i c) [
      | yes p ↦ by (go i) (first_from_some go (suc i) n c q p (omega arith) e)
      | no p ↦ let z : c ≡ i = omega arith in (i ∷ q, rw (rw z at e))
    ]
  where
    by : (o : Option (List ℕ)) → ((r : List ℕ) × (first_from go (suc i) n ≡ some r)) → (r : List ℕ) × (or_next (starting_with i o) (first_from go (suc i) n) ≡ some r)
    by none h = h
    by (some x) h = (i ∷ x, refl)

-- where a plan comes from
pub record Came (go : ℕ → Option (List ℕ)) (n : ℕ) (q : List ℕ) : Type 0 where
  pub choice : ℕ
  pub within : choice < n
  pub rest : List ℕ
  pub found : go choice ≡ some rest
  pub whole : q ≡ choice ∷ rest

pub first_from_came : (go : ℕ → Option (List ℕ)) (i n : ℕ) (q : List ℕ) → first_from go i n ≡ some q → Came go (i + n) q
unfolding first_from
first_from_came go i zero q e = absurd (none_some q e)
first_from_came go i (suc n) q e = by (go i) refl e (λ f. first_from_came go (suc i) n q f)
  where
    by : (o : Option (List ℕ)) → go i ≡ o → or_next (starting_with i o) (first_from go (suc i) n) ≡ some q → (first_from go (suc i) n ≡ some q → Came go (suc i + n) q) → Came go (i + suc n) q
    by none f g ih = let r = ih g in record { choice = r.choice; within = omega (arith, r.within); rest = r.rest; found = r.found; whole = r.whole }
    by (some x) f g ih = record { choice = i; within = omega arith; rest = x; found = f; whole = sym (some_same (i ∷ x) q g) }

-- a plan from the state that a choice leads to is one longer from here
pub plan_in_step : (M : Sys) (n s c : ℕ) (q : List ℕ) → c < M.choices s → plan_in M n (M.to s c) ≡ some q → (r : List ℕ) × (plan_in M (suc n) s ≡ some r)
unfolding plan_in
plan_in_step M n s c q lt e = first_from_some (λ x. plan_in M n (M.to s x)) 0 (M.choices s) c q (omega arith) (omega arith) e

pub plan_in_none : (M : Sys) (n s : ℕ) → ((c : ℕ) → c < M.choices s → plan_in M n (M.to s c) ≡ none) → plan_in M (suc n) s ≡ none
unfolding plan_in
plan_in_none M n s h = first_from_none (λ c. plan_in M n (M.to s c)) 0 (M.choices s) (λ c a b. h c (omega arith))

-- the first choice from which the rest can be done is that of the plan
pub plan_in_first : (M : Sys) (n s r : ℕ) (q : List ℕ) → r < M.choices s → ((c : ℕ) → c < r → plan_in M n (M.to s c) ≡ none) → plan_in M n (M.to s r) ≡ some q
    → plan_in M (suc n) s ≡ some (r ∷ q)
unfolding plan_in
plan_in_first M n s r q lt before e = first_from_is (λ c. plan_in M n (M.to s c)) 0 (M.choices s) r q (omega arith) (omega arith) (λ c a b. before c b) e

-- a plan of n choices has n choices
pub plan_length : (M : Sys) (n s : ℕ) (cs : List ℕ) → plan_in M n s ≡ some cs → length cs ≡ n
unfolding plan_in
plan_length M zero s cs e = go (M.goal s) e
  where
    go : (g : Bool) → if_goal g ≡ some cs → length cs ≡ 0
    go true f = sym (ap length (some_same [] cs f))
    go false f = absurd (none_some cs f)
plan_length M (suc n) s cs e =
    let r = first_from_came (λ c. plan_in M n (M.to s c)) 0 (M.choices s) cs e in
    ap length r.whole ∙ ap suc (plan_length M n (M.to s r.choice) r.rest r.found)

-- ---- the plan of at most m choices

pub from_none : (M : Sys) (d m s : ℕ) → ((n : ℕ) → d ≤ n → n ≤ d + m → plan_in M n s ≡ none) → plan_from M d m s ≡ none
unfolding plan_from
from_none M d zero s h = h d (omega arith) (omega arith)
from_none M d (suc m) s h = rw (h d (omega arith) (omega arith)) (from_none M (suc d) m s (λ n a b. h n (omega arith) (omega arith)))

pub from_some : (M : Sys) (d m n s : ℕ) (q : List ℕ) → d ≤ n → n ≤ d + m → plan_in M n s ≡ some q → ((j : ℕ) → j < n → plan_in M j s ≡ none) → plan_from M d m s ≡ some q
unfolding plan_from
from_some M d zero n s q a b e before = let z : n ≡ d = omega arith in rw z at e
from_some M d (suc m) n s q a b e before =
    elim (dec_lt d n) [
      | yes p ↦ rw (before d p) (from_some M (suc d) m n s q p (omega arith) e before)
      | no p ↦ let z : n ≡ d = omega arith in rw (rw z at e)
    ]
