-- The demand of the recover program's printing function: a statement about whatever it returns and leaves by its contract, behind
-- whatever `recover_part` returned and left. The program writes the first r bytes of the buffer. proofs/Demand.antt proves it from
-- the model's theorem.
-- Assumes nothing.
use Rattle.std.specs.Prelude.{◌≡◌, List, ℕ, ◌≤◌, ◌<◌, length, take}
use Rattle.model.specs.Limits.{max_plan_bytes}
use Rattle.model.specs.Result.{Result}
use Rattle.model.specs.Text.{Bytes}
use Rattle.recover_model.specs.RecoverCalls.{Progress, max_count}
use Rattle.recover_model.specs.RecoverDemands.{joined_parts}
use Rattle.recover_model.specs.Recover.{recover_program}
use Rattle.program_text.specs.Printing.{PrintedTo}
use Rattle.recover_answer.specs.Recovery.{recovery_shown, Took}

-- document 02, Change 2: however a text of clocks is cut into parts, the recover program writes what `recover_program` is for the whole
abbrev pub RecoveredWritten : Type 0
RecoveredWritten = (orig : Bytes) (cut : List Bytes) (answer : Result Progress) (rest plan : Bytes) → length (joined_parts cut) < max_count → max_plan_bytes ≤ length orig
    → Took orig cut answer rest plan → (r : ℕ) (new : List ℕ) → PrintedTo (recovery_shown answer rest plan) plan r new → take r new ≡ recover_program (joined_parts cut)
