-- What `carry` returns and leaves.
-- Assumes nothing.
use Rattle.std.specs.Prelude.{◌≡◌, List, ℕ, Result}
use Rattle.model.specs.Answers.{count_of}
use Rattle.model.specs.Text.{Bytes}
use Rattle.model.specs.declared.refusal.Refusal.{Refusal}
use Rattle.carry_model.specs.Carry.{carry_text}

-- `carry` returned r for two texts, with `holds` in the lent buffer before and `holds'` in it after
pub record CarryReturned (n p : Bytes) (holds : List ℕ) (r : Result ℕ Refusal) (holds' : List ℕ) : Type 0 where
  pub result : count_of r ≡ (carry_text n p holds).result
  pub left : holds' ≡ (carry_text n p holds).holds
