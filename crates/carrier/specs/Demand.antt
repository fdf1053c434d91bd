-- Demand 1 of the call `carry`, and what document 02, Change 3, promises of it: statements about whatever it returns and leaves by its
-- contract. proofs/Demand.antt proves them from the model's theorems.
-- Assumes nothing.
use Rattle.std.specs.Prelude.{◌≡◌, ◌↔◌, List, [], ℕ, ◌≤◌, length, take, Result, Ok, Err}
use Rattle.model.specs.Answers.{number_of}
use Rattle.model.specs.Demands.{OnlyFirst}
use Rattle.model.specs.Mark.{Pass, mark}
use Rattle.model.specs.Network.{Network}
use Rattle.model.specs.NetworkText.{read_network}
use Rattle.model.specs.Places.{◌or◌, NetworkRefusal, PlanTextRefusal, MarkerRefusal}
use Rattle.model.specs.Plan.{Plan}
use Rattle.model.specs.PlanText.{read_plan}
use Rattle.model.specs.Result.{ok}
use Rattle.model.specs.Text.{Bytes}
use Rattle.model.specs.declared.refusal.Refusal.{Refusal}
use Rattle.carry_model.specs.Carry.{left_by, max_hold_bytes}
use Rattle.carry_model.specs.Continued.{NextText, StartsThere, next_text}
use Rattle.carry_model.specs.Restart.{restarted}
use Rattle.carry_model.specs.CarryDemands.{ShortHolds}
use Rattle.carrier.specs.Call.{CarryReturned}

-- ---- demand 1

pub record LentLeft (holds : List ℕ) (r : Result ℕ Refusal) (holds' : List ℕ) : Type 0 where
  -- "Every lent buffer keeps all its bytes on a refusal"
  pub kept : (e : Refusal) → r ≡ Err e → holds' ≡ holds
  -- "Output buffers change only on success, in the bytes needed."
  pub written : (count : ℕ) → r ≡ Ok count → OnlyFirst count holds holds'

abbrev pub BufferKept : Type 0
BufferKept = (n p : Bytes) (holds : List ℕ) (r : Result ℕ Refusal) (holds' : List ℕ) → CarryReturned n p holds r holds' → LentLeft holds r holds'

-- "Whatever text or length comes in, each call ends with a result or one listed number and place."
abbrev pub EndsListed : Type 0
EndsListed = (n p : Bytes) (holds : List ℕ) (r : Result ℕ Refusal) (holds' : List ℕ) → CarryReturned n p holds r holds'
    → (e : Refusal) → r ≡ Err e → (NetworkRefusal n or PlanTextRefusal p or MarkerRefusal n p or ShortHolds holds) (number_of e.kind) e.place

-- ---- "After a pass": with room for every configuration, exactly then

abbrev pub WrittenAfterPass : Type 0
WrittenAfterPass = (n p : Bytes) (holds : List ℕ) (r : Result ℕ Refusal) (holds' : List ℕ) → CarryReturned n p holds r holds' → max_hold_bytes ≤ length holds
    → ((count : ℕ) × (r ≡ Ok count)) ↔ ((pass : Pass) × (mark n p ≡ ok pass))

-- ---- "Used as the next start, it must be the configuration that was left, X for X."

pub record NextStart (n : Bytes) (net : Network) (plan : Plan) (written : Bytes) : Type 0 where
  -- behind the node lines and the `out` line of the first text
  pub accepted : read_network (next_text n written) ≡ ok (restarted net (left_by net plan) [])
  -- in any accepted text with these `hold` lines that agrees with the first
  pub there : (n' : Bytes) (net' : Network) → NextText n written n' → read_network n' ≡ ok net' → StartsThere net net' plan

abbrev pub WrittenIsStart : Type 0
WrittenIsStart = (n p : Bytes) (holds : List ℕ) (r : Result ℕ Refusal) (holds' : List ℕ) → CarryReturned n p holds r holds' → (count : ℕ) → r ≡ Ok count
    → (net : Network) (plan : Plan) → read_network n ≡ ok net → read_plan p ≡ ok plan → NextStart n net plan (take count holds')
