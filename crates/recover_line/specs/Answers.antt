-- Where a line leads, and what it adds to the plan, in the model's terms.
-- Assumes nothing.
use Rattle.std.specs.Prelude.{◌≡◌, List, [], map, ℕ, ◌+◌, ◌≤◌, length}
use Rattle.std.specs.Prelude.{Option, None as none, Some as some}
use Rattle.model.specs.Result.{Result, ok, and_then}
use Rattle.model.specs.Text.{Bytes}
use Rattle.model.specs.Tap.{Clock, state_at, state_number, state_after}
use Rattle.recover_model.specs.ClockText.{clk_line}
use Rattle.recover_model.specs.RecoverCalls.{Progress, Step, added_text}
use Rattle.plan_text.specs.Writing.{write_at}

-- what a line leads to, without what it adds
abbrev pub progress_after : Result Step → Result Progress
progress_after r = and_then r (λ s. ok s.after)

-- ---- a line written

abbrev pub line_clocks : Option (List Clock) → List Clock
line_clocks none = []
line_clocks (some clocks) = clocks

-- what a line adds to the plan's text from a state on
abbrev pub text_of_line : ℕ → Bytes → Bytes
text_of_line state l = added_text (state_at state) (line_clocks (clk_line l))

-- a line of good form, with room for what it adds from a place on
pub record CanPut (state at : ℕ) (l plan : Bytes) : Type 0 where
  pub clocks : List Clock
  pub good : clk_line l ≡ some clocks
  pub room : at + length (text_of_line state l) ≤ length plan

-- `put_line` went on from a state and a place: it returned a state and a place, and left the plan as plan'
pub record PutsLine (state at : ℕ) (l plan : Bytes) (state' at' : ℕ) (plan' : Bytes) : Type 0 where
  pub leads : state' ≡ state_number (state_after (state_at state) (map (λ c. c.tms) (line_clocks (clk_line l))))
  pub behind : at' ≡ at + length (text_of_line state l)
  pub left : plan' ≡ write_at at (text_of_line state l) plan
