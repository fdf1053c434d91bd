-- What the functions that look for a goal in a slot answer.
-- Assumes nothing.
use Rattle.std.specs.Prelude.{◌≡◌, Bool, true, false, ◌&&◌, List, ℕ, ◌%◌, ltb}
use Rattle.model.specs.Network.{Network}
use Rattle.network_words.specs.Words.{word_bit}
use Rattle.planner_theory.specs.Moves.{count, sys_of}
use Rattle.planner_table.specs.Table.{in_slot}

-- with each state of P its set of targets is in r
abbrev pub SetsIn : (ℕ → Type 0) → ℕ → Type 0
SetsIn P r = (s : ℕ) → P s → word_bit r (s % 16) ≡ true

-- setting x with one of sets is a goal: it is valid, and all targets are reached
abbrev pub goal_with : Network → ℕ → ℕ → ℕ → Bool
goal_with net full x sets = word_bit sets full && ltb 0 (count net x)

-- whether slot i has a goal
pub record GoalIn (net : Network) (tab : List ℕ) (i : ℕ) (r : Bool) : Type 0 where
  pub some_goal : r ≡ true → (s : ℕ) × (in_slot tab i s ≡ true) × ((sys_of net).goal s ≡ true)
  pub no_goal : r ≡ false → (s : ℕ) → in_slot tab i s ≡ true → (sys_of net).goal s ≡ false
