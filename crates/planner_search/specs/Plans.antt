-- What the search answers.
-- Assumes nothing.
use Rattle.std.specs.Prelude.{◌≡◌, List, ℕ, ◌*◌, length}
use Rattle.std.specs.Prelude.{Option, None as none, Some as some, option_map}
use Rattle.model.specs.Network.{Network}
use Rattle.model.specs.Calls.{write_over}
use Rattle.planner_theory.specs.Search.{plan_in, plan_up_to}
use Rattle.planner_theory.specs.Moves.{sys_of}

-- the choices of a plan over the front of a buffer
abbrev pub with_choices : Option (List ℕ) → List ℕ → List ℕ
with_choices none old = old
with_choices (some cs) old = write_over cs old

-- the choices of the plan that has d operations stand at the front of out
pub record PlanTraced (net : Network) (start d : ℕ) (old out : List ℕ) : Type 0 where
  pub plan : List ℕ
  pub is : plan_in (sys_of net) d start ≡ some plan
  pub left : out ≡ write_over plan old

pub record PlanFound (net : Network) (start : ℕ) (old : List ℕ) (r : Option ℕ) (out : List ℕ) : Type 0 where
  pub answer : r ≡ option_map length (plan_up_to (sys_of net) 16 (start * 16))
  pub left : out ≡ with_choices (plan_up_to (sys_of net) 16 (start * 16)) old
