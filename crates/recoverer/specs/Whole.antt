-- A whole text, recovered into a buffer with room for every plan.
-- Assumes nothing.
use Rattle.std.specs.Prelude.{◌≡◌, ℕ, ◌≤◌, length, take}
use Rattle.model.specs.Result.{Result, ok, and_then}
use Rattle.model.specs.Text.{Bytes}
use Rattle.model.specs.Calls.{text_of}
use Rattle.recover_model.specs.Recover.{recover}

-- the bytes of a text's plan stand at the front of this buffer; or its refusal
pub record StandsIn (t : Bytes) (r : Result ℕ) (own : Bytes) : Type 0 where
  pub its_text : and_then r (λ count. ok (take count own)) ≡ and_then (recover t) text_of
  pub within : (count : ℕ) → r ≡ ok count → count ≤ length own
