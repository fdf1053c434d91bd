-- A progress as numbers.
-- Assumes nothing.
use Rattle.std.specs.Prelude.{◌≡◌, cond, List, [], ◌∷◌, ℕ, get_or, ltb}
use Rattle.model.specs.Result.{Result, ok, refused}
use Rattle.model.specs.Text.{Bytes}
use Rattle.recover_model.specs.RecoverCalls.{Progress, recover_line, recover_end}

-- lines, state, entries, bytes
abbrev pub progress_in : List ℕ → Progress
progress_in numbers = record { lines = get_or numbers 0 0; state = get_or numbers 1 0; entries = get_or numbers 2 0; plan_bytes = get_or numbers 3 0 }

-- 0 and the progress, or number and place of a refusal; zeros behind
abbrev pub progress_numbers : Result Progress → List ℕ
progress_numbers (ok p) = 0 ∷ p.lines ∷ p.state ∷ p.entries ∷ p.plan_bytes ∷ []
progress_numbers (refused number place) = number ∷ place ∷ 0 ∷ 0 ∷ 0 ∷ []

-- a number that is no state's stands for state 0
abbrev pub state_in : ℕ → ℕ
state_in n = cond (ltb 15 n) 0 n

-- the calls answer both alike
pub record Alike (p q : Progress) : Type 0 where
  pub line : (l : Bytes) (plan : List ℕ) → recover_line p l plan ≡ recover_line q l plan
  pub end : (rest : Bytes) → recover_end p rest ≡ recover_end q rest
