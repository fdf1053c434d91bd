-- The clock machine over the controller's states by number.
-- Assumes nothing.
use Rattle.std.specs.Prelude.{◌≡◌, Bool, map, ℕ, eqb}
use Rattle.model.specs.Text.{Bytes}
use Rattle.model.specs.Tap.{next, state_at, state_number, state_after}
use Rattle.clock_writer.specs.declared.State.{State}
use Rattle.clock_writer.specs.declared.State.TheVariants.{TestLogicReset, RunTestIdle, SelectDR, CaptureDR, ShiftDR, Exit1DR, PauseDR, Exit2DR, UpdateDR, SelectIR, CaptureIR, ShiftIR, Exit1IR, PauseIR, Exit2IR, UpdateIR}

-- a state's number
abbrev pub state_code : State → ℕ
state_code TestLogicReset = 0
state_code RunTestIdle = 1
state_code SelectDR = 2
state_code CaptureDR = 3
state_code ShiftDR = 4
state_code Exit1DR = 5
state_code PauseDR = 6
state_code Exit2DR = 7
state_code UpdateDR = 8
state_code SelectIR = 9
state_code CaptureIR = 10
state_code ShiftIR = 11
state_code Exit1IR = 12
state_code PauseIR = 13
state_code Exit2IR = 14
state_code UpdateIR = 15

-- TMS by its byte: `1` is 1
abbrev pub is_one : ℕ → Bool
is_one b = eqb b 49

-- the next state by numbers
abbrev pub next_number : ℕ → Bool → ℕ
next_number state tms = state_number (next (state_at state) tms)

-- `run` returned r from a state on for the clocks of these TMS bytes
abbrev pub RunReturned : ℕ → Bytes → ℕ → Type 0
RunReturned state tms r = r ≡ state_number (state_after (state_at state) (map is_one tms))
