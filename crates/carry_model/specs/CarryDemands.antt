-- Demand 1 for the call of Change 3 of document 02, and what Change 4 promises of it; proofs/Requests.antt proves it.
-- Assumes nothing.
use Rattle.std.specs.Prelude.{◌≡◌, List, ℕ, ◌≤◌, ◌<◌, length}
use Rattle.model.specs.Refusals as refusal
use Rattle.model.specs.Result.{ok, refused}
use Rattle.model.specs.Text.{Bytes}
use Rattle.model.specs.Network.{Network}
use Rattle.model.specs.NetworkText.{read_up_to}
use Rattle.model.specs.Printed.{printed, exit_status}
use Rattle.model.specs.Places.{◌or◌, Listed, NetworkRefusal, PlanTextRefusal, MarkerRefusal}
use Rattle.model.specs.Demands.{OnlyFirst, status_for}
use Rattle.model.specs.LongRegisters.{earlier_len}
use Rattle.carry_model.specs.Carry.{max_hold_bytes, carry_read, carry, carry_program, carry_answer, carry_text}

-- "Every lent buffer keeps all its bytes on a refusal"
abbrev pub CarryBufferKept : Type 0
CarryBufferKept = (n p : Bytes) (holds : List ℕ) (number place : ℕ) → (carry_text n p holds).result ≡ refused number place → (carry_text n p holds).holds ≡ holds

-- "Output buffers change only on success, in the bytes needed."
abbrev pub CarryBufferWritten : Type 0
CarryBufferWritten = (n p : Bytes) (holds : List ℕ) (count : ℕ) → (carry_text n p holds).result ≡ ok count → OnlyFirst count holds (carry_text n p holds).holds

-- "13, bytes needed", of a buffer for `hold` lines
pub data ShortHolds (holds : List ℕ) : ℕ → ℕ → Type 0 where
  short_of : {needed : ℕ} → length holds < needed → needed ≤ max_hold_bytes → ShortHolds holds refusal.buffer needed

-- "Whatever text or length comes in, each call ends with a result or one listed number and place."
abbrev pub CarryListed : Type 0
CarryListed = (n p : Bytes) (holds : List ℕ) → Listed (NetworkRefusal n or PlanTextRefusal p or MarkerRefusal n p or ShortHolds holds) (carry_text n p holds).result

-- Change 4, "Any text accepted earlier must give the same": the same lines too, in the lent buffer and printed
pub record CarriedAsEarlier (n p : Bytes) : Type 0 where
  pub lines : carry n p ≡ carry_read (read_up_to earlier_len n) p
  pub buffers : (holds : List ℕ) → carry_text n p holds ≡ carry_answer (carry_read (read_up_to earlier_len n) p) holds
  pub prints : carry_program n p ≡ printed (λ text. text) (carry_read (read_up_to earlier_len n) p)

abbrev pub CarryEarlier : Type 0
CarryEarlier = (n p : Bytes) (net : Network) → read_up_to earlier_len n ≡ ok net → CarriedAsEarlier n p

-- the exit status tells refusals from lines
abbrev pub CarryStatus : Type 0
CarryStatus = (n p : Bytes) → exit_status (carry_program n p) ≡ status_for (carry n p)
