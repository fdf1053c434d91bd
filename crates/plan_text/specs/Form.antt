-- The form of a plan text.
-- Assumes nothing.
use Rattle.std.specs.Prelude.{◌≡◌, ℕ, length}
use Rattle.model.specs.Result.{Result, ok, and_then}
use Rattle.model.specs.Text.{Bytes}
use Rattle.model.specs.Plan.{Plan}
use Rattle.model.specs.PlanText.{read_plan}

-- the count of a plan text's lines, or refusal 14 with its place
abbrev pub plan_form : Bytes → Result ℕ
plan_form t = and_then (read_plan t) (λ plan. ok (length plan))

-- a plan text of good form
abbrev pub HasForm : Bytes → Type 0
HasForm t = (plan : Plan) × (read_plan t ≡ ok plan)
