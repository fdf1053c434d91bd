-- Clocks that leave the state as it is, taken at once, and what they add to the plan's text.
-- Assumes nothing.
use Rattle.std.specs.Prelude.{◌≡◌, cond, List, [], ◌∷◌, ◌++◌, map, ℕ, suc, ◌+◌, ◌≤◌, ◌<◌, length, drop, get_or, eqb}
use Rattle.std.specs.Prelude.{Option, Some as some}
use Rattle.model.specs.Text.{Bytes, bytes, line_end}
use Rattle.model.specs.Tap.{captureDR, shiftDR, updateDR, state_at, state_number, Clock, clk, bit_byte}
use Rattle.recover_model.specs.RecoverCalls.{Progress, under_way, added_text}
use Rattle.plan_text.specs.Writing.{write_at}
use Rattle.clock_writer.specs.Machine.{is_one, next_number, RunReturned}
use Rattle.clock_follower.specs.Counts.{counts_by}

-- from a place on up to an end: all clocks but the last leave the state
pub record EndsStretch (state : ℕ) (tms : Bytes) (at end : ℕ) : Type 0 where
  pub some_clock : at < end
  pub within : end ≤ length tms
  pub stays : (k : ℕ) → suc (at + k) < end → next_number state (is_one (get_or (drop at tms) k 0)) ≡ state

-- what its clocks add to the plan's text: the TDI bits in Shift-DR, byte 10 in Update-DR
abbrev pub clocks_text : ℕ → Bytes → Bytes
clocks_text state bits = cond (eqb state (state_number shiftDR)) bits (cond (eqb state (state_number updateDR)) (line_end ∷ []) [])

-- and the entry to the next state: `csu` and its tab for Capture-DR
abbrev pub entry_text : ℕ → Bytes
entry_text t = cond (eqb t (state_number captureDR)) (bytes "csu\t") []

abbrev pub stretch_text : ℕ → Bytes → ℕ → Bytes
stretch_text state bits t = clocks_text state bits ++ entry_text t

-- the clocks of TMS and TDI bytes
abbrev pub clocks_from : Bytes → Bytes → List Clock
clocks_from [] tdi = []
clocks_from (m ∷ tms) [] = []
clocks_from (m ∷ tms) (d ∷ tdi) = clk (is_one m) (is_one d) ∷ clocks_from tms tdi

-- each `0` or `1`
abbrev pub AreBits : Bytes → Type 0
AreBits s = map (λ b. bit_byte (is_one b)) s ≡ s

-- `write` went on from a state and a place for these clocks: it returned a state and a place, and left the plan as plan'
pub record Wrote (state at : ℕ) (tms tdi plan : Bytes) (state' at' : ℕ) (plan' : Bytes) : Type 0 where
  pub leads : RunReturned state tms state'
  pub behind : at' ≡ at + length (added_text (state_at state) (clocks_from tms tdi))
  pub left : plan' ≡ write_at at (added_text (state_at state) (clocks_from tms tdi)) plan

-- all bytes that are counted stand before a place, but for byte 10 of a passage under way
abbrev pub StandsBefore : ℕ → ℕ → ℕ → Type 0
StandsBefore at state count = at + cond (under_way state) 1 0 ≡ count

-- `play` went on from a progress and a place for these clocks: it answered r; where it did not refuse, it left the plan as plan'
pub record Played (p : Progress) (at : ℕ) (tms tdi plan : Bytes) (r : Option Progress) (plan' : Bytes) : Type 0 where
  pub answers : r ≡ counts_by p (map is_one tms)
  pub left : (q : Progress) → r ≡ some q → plan' ≡ write_at at (added_text (state_at p.state) (clocks_from tms tdi)) plan
