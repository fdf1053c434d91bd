-- Demands of the calls `write_clocks` and `run`: statements about whatever they return and leave by their contracts.
-- proofs/Demand.antt proves them from the model's theorems.
-- Assumes nothing.
use Rattle.std.specs.Prelude.{◌≡◌, ◌⊎◌, List, ℕ, ◌≤◌, ◌<◌, length, take}
use Rattle.std.specs.Prelude.{Result as Answer, Ok, Err}
use Rattle.model.specs.Limits.{max_plan_bytes}
use Rattle.model.specs.Refusals as refusal
use Rattle.model.specs.Answers.{number_of, count_of}
use Rattle.model.specs.Result.{refused}
use Rattle.model.specs.Text.{Bytes}
use Rattle.model.specs.Tap.{idle, state_number}
use Rattle.model.specs.Places.{◌or◌, ClockRefusal, PlanTextRefusal}
use Rattle.model.specs.Demands.{OnlyFirst}
use Rattle.model.specs.declared.refusal.Refusal.{Refusal}
use Rattle.clock_writer.specs.Machine.{RunReturned}
use Rattle.clock_writer.specs.Clocks.{WroteClocks}

-- ---- demand 1

-- "Every lent buffer keeps all its bytes on a refusal"
abbrev pub BuffersKept : Type 0
BuffersKept = (p : Bytes) (tms tdi : List ℕ) (w : Answer ℕ Refusal) (tms' tdi' : List ℕ) → WroteClocks p tms tdi w tms' tdi'
    → (r : Refusal) → w ≡ Err r → (tms' ≡ tms) × (tdi' ≡ tdi)

-- "Output buffers change only on success, in the bytes needed."
abbrev pub BuffersWritten : Type 0
BuffersWritten = (p : Bytes) (tms tdi : List ℕ) (count : ℕ) (tms' tdi' : List ℕ) → WroteClocks p tms tdi (Ok count) tms' tdi'
    → OnlyFirst count tms tms' × OnlyFirst count tdi tdi'

-- "Whatever text or length comes in, each call ends with a result or one listed number and place."
abbrev pub EndsListed : Type 0
EndsListed = (p : Bytes) (tms tdi : List ℕ) (w : Answer ℕ Refusal) (tms' tdi' : List ℕ) → WroteClocks p tms tdi w tms' tdi'
    → (r : Refusal) → w ≡ Err r → (PlanTextRefusal p or ClockRefusal p tms tdi) (number_of r.kind) r.place

-- 13 only where a buffer is shorter than the bytes needed, which are at most 64,080
abbrev pub RefusesOnlyShort : Type 0
RefusesOnlyShort = (p : Bytes) (tms tdi : List ℕ) (w : Answer ℕ Refusal) (tms' tdi' : List ℕ) → WroteClocks p tms tdi w tms' tdi'
    → (place : ℕ) → count_of w ≡ refused refusal.buffer place → ((length tms < place) ⊎ (length tdi < place)) × (place ≤ max_plan_bytes)

-- ---- demand 3: "Run-Test/Idle .. after the list"

-- the clock machine, run from Run-Test/Idle over the TMS bytes written, returns Run-Test/Idle
abbrev pub BackToIdle : Type 0
BackToIdle = (p : Bytes) (tms tdi : List ℕ) (count : ℕ) (tms' tdi' : List ℕ) → WroteClocks p tms tdi (Ok count) tms' tdi'
    → (state : ℕ) → RunReturned (state_number idle) (take count tms') state → state ≡ state_number idle
