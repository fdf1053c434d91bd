-- The calls that bring clocks back into a plan (document 02, Change 2): one for a line and one for the end of the text, which a caller makes
-- in turn, and one for a whole text in memory; then what a program does with a text that comes in parts.
-- Assumes nothing.
use Rattle.std.specs.Prelude.{Bool, cond, not, ◌&&◌, List, [], ◌∷◌, ◌++◌, ℕ, suc, ◌-◌, length, take, drop, eqb, leb, ltb}
use Rattle.std.specs.Prelude.{Option, Some as some}
use Rattle.model.specs.Limits.{max_operations, max_plan_bytes}
use Rattle.model.specs.Refusals as refusal
use Rattle.model.specs.Result.{Result, ok, refused, refuse_if, and_then}
use Rattle.model.specs.Text.{Bytes, bytes, bind, parts, ended, line_end}
use Rattle.model.specs.Tap.{Tap, idle, next, state_at, state_number, Action, capture, shift, update, keep, action, Clock, bit_byte}
use Rattle.model.specs.NetworkText.{at_end}
use Rattle.model.specs.Calls.{write_over, written, count_of, if_room, text_of}
use Rattle.recover_model.specs.ClockText.{clk_line, max_line_bytes}
use Rattle.recover_model.specs.Recover.{Follower, at_start, follow_clocks, if_followed, recover}

-- ---- what a caller keeps between two lines, beside its plan buffer

pub record Progress : Type 0 where
  -- lines so far
  pub lines : ℕ
  -- the controller's state by number
  pub state : ℕ
  -- entries to Capture-DR, and the plan's bytes: "5 for each entry, 1 for each bit"
  pub entries : ℕ
  pub plan_bytes : ℕ

-- after n lines
abbrev pub progress_of : ℕ → Follower → Progress
progress_of n f = record { lines = n; state = state_number f.state; entries = f.entries; plan_bytes = f.plan_bytes }

abbrev pub at_first : Progress
at_first = progress_of 0 at_start

-- the largest number of 64 bits
abbrev pub max_count : ℕ
max_count = 18446744073709551615

-- a passage is under way: from the entry to Capture-DR, state 3, up to the clock in Update-DR, state 8
abbrev pub under_way : ℕ → Bool
under_way state = leb 3 state && leb state 8

-- what no call leaves is refused: a state other than Run-Test/Idle to Update-DR, 1 to 8, counts over a limit, a passage that is not counted
abbrev pub can_go_on : Progress → Bool
can_go_on p =
    ltb p.lines max_count && leb 1 p.state && leb p.state 8 && leb p.entries max_operations && leb p.plan_bytes max_plan_bytes
    && not (under_way p.state && eqb p.plan_bytes 0)

-- ---- one line

-- "one `csu` line with the TDI bits of its Shift-DR clocks": the word and its tab at an entry to Capture-DR, a byte at a clock in Shift-DR, byte 10 at
-- the clock in Update-DR
abbrev pub at_entry : Action → Bytes
at_entry capture = bytes "csu\t"
at_entry shift = []
at_entry update = []
at_entry keep = []

abbrev pub at_clock : Action → Bool → Bytes
at_clock capture tdi = []
at_clock shift tdi = bit_byte tdi ∷ []
at_clock update tdi = line_end ∷ []
at_clock keep tdi = []

-- the bytes that these clocks, from a state on, add to the plan's text
unfoldable pub added_text : Tap → List Clock → Bytes
added_text t [] = []
added_text t (c ∷ cs) = at_clock (action t) c.tdi ++ (at_entry (action (next t c.tms)) ++ added_text (next t c.tms) cs)

-- the plan's bytes that stand in the buffer: of a passage under way byte 10 is still to come
abbrev pub bytes_written : Progress → ℕ
bytes_written p = p.plan_bytes - cond (under_way p.state) 1 0

-- a follower at this point of the text; of the passages before it the counts are enough
abbrev pub resumed : Progress → Follower
resumed p = record { state = state_at p.state; bits = []; plan = []; entries = p.entries; plan_bytes = p.plan_bytes }

-- where a line's clocks lead, and the text that they add
pub record Step : Type 0 where
  pub after : Progress
  pub text : Bytes

abbrev pub step_over : Progress → List Clock → Option Step
step_over p cs = bind (follow_clocks (resumed p) cs) (λ g. some (record { after = progress_of (suc p.lines) g; text = added_text (state_at p.state) cs }))

-- "19, at the first offending line"
unfoldable pub step_line : Progress → Bytes → Result Step
step_line p l = refuse_if (not (can_go_on p)) refusal.clock_line p.lines (if_followed (suc p.lines) (bind (clk_line l) (step_over p)) ok)

-- "13, bytes needed": the plan's bytes so far, for a buffer of this length
abbrev pub step_room : ℕ → Step → Result Step
step_room room s = refuse_if (ltb room s.after.plan_bytes) refusal.buffer s.after.plan_bytes (ok s)

pub record LineAnswer : Type 0 where
  pub result : Result Progress
  pub plan : List ℕ

-- the buffer changes only on success, in the bytes that the line adds
abbrev pub line_answer : Progress → List ℕ → Result Step → LineAnswer
line_answer p plan (ok s) = record { result = ok s.after; plan = take (bytes_written p) plan ++ write_over s.text (drop (bytes_written p) plan) }
line_answer p plan (refused number place) = record { result = refused number place; plan = plan }

-- the call for a line, without its byte 10: progress, line, plan buffer
unfoldable pub recover_line : Progress → Bytes → List ℕ → LineAnswer
recover_line p l plan = line_answer p plan (and_then (step_line p l) (step_room (length plan)))

-- ---- the end of the text

-- "(at the last line) an end outside Run-Test/Idle"; else the plan's bytes
abbrev pub rest_answer : Progress → Result ℕ
rest_answer p = refuse_if (not (eqb p.state (state_number idle))) refusal.clock_line p.lines (ok p.plan_bytes)

-- the call for the end: progress, and the bytes behind the last byte 10
unfoldable pub recover_end : Progress → Bytes → Result ℕ
recover_end p rest = refuse_if (not (can_go_on p)) refusal.clock_line p.lines (and_then (at_end p refusal.clock_line rest (suc p.lines)) rest_answer)

-- ---- a whole text in memory

pub record TextAnswer : Type 0 where
  -- bytes written
  pub result : Result ℕ
  pub plan : List ℕ

-- the plan's text, for a plan buffer of this length
abbrev pub recovered : Bytes → ℕ → Result (List ℕ)
recovered t room = and_then (and_then (recover t) text_of) (if_room room)

unfoldable pub recover_text : Bytes → List ℕ → TextAnswer
recover_text t plan = record { result = count_of (recovered t (length plan)); plan = written (recovered t (length plan)) plan }

-- ---- a text that comes in parts: "No limit on the count of lines or on the text"

-- the call for each line in turn, up to a refusal
abbrev pub go_on : LineAnswer → (Progress → List ℕ → LineAnswer) → LineAnswer
go_on a go = onward a.result
  where
    onward : Result Progress → LineAnswer
    onward (ok p) = go p a.plan
    onward (refused number place) = a

unfoldable pub recover_lines : Progress → List ℕ → List Bytes → LineAnswer
recover_lines p plan [] = record { result = ok p; plan = plan }
recover_lines p plan (l ∷ ls) = go_on (recover_line p l plan) (λ q new. recover_lines q new ls)

-- what stands behind the last byte 10
abbrev pub behind : List Bytes → Bytes
behind [] = []
behind (l ∷ []) = l
behind (l ∷ m ∷ ls) = behind (m ∷ ls)

-- what a program holds: progress or refusal, the plan buffer, and the line whose end is still to come
pub record Recovery : Type 0 where
  pub answer : LineAnswer
  pub rest : Bytes

abbrev pub started : List ℕ → Recovery
started plan = record { answer = record { result = ok at_first; plan = plan }; rest = [] }

-- "a line over 32,768 bytes" is refused before its end comes, as it would be then
abbrev pub unless_long : Bytes → Progress → Result Progress
unless_long rest p = cond (leb max_line_bytes (length rest)) (and_then (step_line p rest) (λ s. ok s.after)) (ok p)

-- after a refusal nothing is held
abbrev pub held_after : Result Progress → Bytes → Bytes
held_after (ok p) rest = rest
held_after (refused number place) rest = []

-- a text that goes on from here: every line that has ended, then what stands behind them
unfoldable pub recover_part : LineAnswer → Bytes → Recovery
recover_part a text =
    let lines = parts line_end text in
    let b = go_on a (λ p plan. recover_lines p plan (ended lines)) in
    let result = and_then b.result (unless_long (behind lines)) in
    record { answer = record { result = result; plan = b.plan }; rest = held_after result (behind lines) }

-- each part of a text behind what is held of those before
unfoldable pub recover_parts : Recovery → List Bytes → Recovery
recover_parts r [] = r
recover_parts r (part ∷ more) = recover_parts (recover_part r.answer (r.rest ++ part)) more

-- after the last part: the plan's bytes, which stand at the front of the buffer
unfoldable pub recovery_end : Recovery → Result Bytes
recovery_end r = and_then (and_then r.answer.result (λ p. recover_end p r.rest)) (λ count. ok (take count r.answer.plan))
