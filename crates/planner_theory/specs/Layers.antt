-- The search from the start on: whether a plan of n choices exists, and sets of states by the number of choices that lead to them.
-- Assumes nothing.
use Rattle.std.specs.Prelude.{◌≡◌, Bool, true, false, ◌||◌, ℕ, zero, suc, ◌+◌, ◌≤◌, ◌<◌}
use Rattle.model.specs.NetworkText.{is_some}
use Rattle.planner_theory.specs.Search.{Sys, plan_in}

-- a plan of n choices from state s exists
abbrev pub can : Sys → ℕ → ℕ → Bool
can M n s = is_some (plan_in M n s)

-- one of n numbers, from i on, passes the test
unfoldable pub some_of : (ℕ → Bool) → ℕ → ℕ → Bool
some_of f i zero = false
some_of f i (suc n) = f i || some_of f (suc i) n

-- each plan from s makes a plan from the start that is j choices longer
abbrev pub Leads : Sys → ℕ → ℕ → ℕ → Type 0
Leads M start j s = (n : ℕ) → can M n s ≡ true → can M (j + n) start ≡ true

-- state t is in set j or an earlier one
pub record MetBy (L : ℕ → ℕ → Bool) (j t : ℕ) : Type 0 where
  pub at : ℕ
  pub within : at ≤ j
  pub is : L at t ≡ true

-- a choice leads from a state of set j to state t
pub record Stepped (M : Sys) (L : ℕ → ℕ → Bool) (j t : ℕ) : Type 0 where
  pub from : ℕ
  pub is : L j from ≡ true
  pub choice : ℕ
  pub within : choice < M.choices from
  pub to_is : M.to from choice ≡ t

-- Sets of states L 0, L 1, .. L d: set j has states that j choices lead to. What a choice leads to from a state of set j is in set
-- j + 1 or an earlier one. No set before d has a goal.
pub record Layers (M : Sys) (start : ℕ) (L : ℕ → ℕ → Bool) (d : ℕ) : Type 0 where
  pub first : L 0 start ≡ true
  pub sound : (j s : ℕ) → j ≤ d → L j s ≡ true → Leads M start j s
  pub closed : (j s c : ℕ) → j < d → L j s ≡ true → c < M.choices s → MetBy L (suc j) (M.to s c)
  pub short : (j s : ℕ) → j < d → L j s ≡ true → M.goal s ≡ false
