-- What the recover program prints, by what it holds at the end of a text; and the parts that led there.
-- Assumes nothing.
use Rattle.std.specs.Prelude.{List, [], ◌∷◌, ◌++◌, ℕ, take}
use Rattle.model.specs.Printed.{printed}
use Rattle.model.specs.Result.{Result, ok, and_then}
use Rattle.model.specs.Text.{Bytes}
use Rattle.recover_model.specs.RecoverCalls.{Progress, at_first, recover_end, Recovery, recovery_end}
use Rattle.recoverer.specs.Parts.{answer_before, DidPart}

abbrev pub holding : Result Progress → Bytes → Bytes → Recovery
holding r rest plan = record { answer = answer_before r plan; rest = rest }

abbrev pub recovery_shown : Result Progress → Bytes → Bytes → Bytes
recovery_shown r rest plan = printed (λ text. text) (recovery_end (holding r rest plan))

-- the plan's bytes at the end of a text
abbrev pub end_count : Result Progress → Bytes → Result ℕ
end_count r rest = and_then r (λ p. recover_end p rest)

-- after these parts of a text, each taken by `recover_part` behind what was held: the answer, the rest and the plan buffer
pub data Took (orig : Bytes) : List Bytes → Result Progress → Bytes → Bytes → Type 0 where
  none_yet : Took orig [] (ok at_first) [] orig
  one_more : {cut : List Bytes} {r : Result Progress} {rest plan : Bytes} → Took orig cut r rest plan → (part : Bytes) {r' : Result Progress} {held : ℕ} {text' plan' : Bytes}
      → DidPart r (rest ++ part) plan r' held text' plan' → Took orig (cut ++ part ∷ []) r' (take held text') plan'
