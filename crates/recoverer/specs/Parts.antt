-- A line, the lines of a text and a text that comes in parts, in the model's terms: what the steps that follow a line once leave.
-- Assumes nothing.
use Rattle.std.specs.Prelude.{◌≡◌, ℕ, ◌≤◌, ◌<◌, length, take, drop, Result as Answer, Ok, Err, IfOk, OnOk}
use Rattle.model.specs.Answers.{answer}
use Rattle.model.specs.Refusals as refusal
use Rattle.model.specs.Result.{Result, ok, refused}
use Rattle.model.specs.Text.{Bytes, parts, ended, line_end}
use Rattle.model.specs.declared.refusal.Refusal.{Refusal}
use Rattle.recover_model.specs.RecoverCalls.{Progress, LineAnswer, recover_line, recover_lines, behind, recover_part}
use Rattle.recover_model.specs.ClockText.{max_line_bytes}
use Rattle.clock_follower.specs.declared.Progress.{Progress as Kept}
use Rattle.clock_follower.specs.Counts.{progress_for}
use Rattle.recover_line.specs.Progress.{progress_from}
use Rattle.recoverer.specs.declared.lines.Lines.{Lines}
use Rattle.recoverer.specs.declared.part.Refused.{Refused}

-- `play_line` answered r for a line; where it did not refuse, it left the plan as plan'
pub record PlayedLine (p : Progress) (l plan : Bytes) (r : Answer Kept Refusal) (plan' : Bytes) : Type 0 where
  pub answers : answer progress_for r ≡ (recover_line p l plan).result
  pub left : OnOk r (plan' ≡ (recover_line p l plan).plan)

-- where the lines of a text lead
abbrev pub led_to : Answer Lines Refusal → Result Progress
led_to r = answer (λ l. progress_from l.progress) r

-- `recover_lines` answered r for the lines that end in a text; where it did not refuse, the rest starts at its place, and it left the plan as plan'
pub record DidLines (p : Progress) (text plan : Bytes) (r : Answer Lines Refusal) (plan' : Bytes) : Type 0 where
  pub answers : led_to r ≡ (recover_lines p plan (ended (parts line_end text))).result
  pub left : OnOk r (plan' ≡ (recover_lines p plan (ended (parts line_end text))).plan)
  pub rest : IfOk r (λ l. drop l.at text ≡ behind (parts line_end text))
  pub within : IfOk r (λ l. l.at ≤ length text)

-- a result, which f gives the meaning of, or a refusal by any number and place
abbrev pub answer_numbered : {A B : Type 0} → (A → B) → Answer A Refused → Result B
answer_numbered f (Ok a) = ok (f a)
answer_numbered f (Err r) = refused r.number r.place

abbrev pub answer_before : Result Progress → Bytes → LineAnswer
answer_before r plan = record { result = r; plan = plan }

-- `follow_part` went on from an answer for a text: it answered r; where it did not refuse, what is held starts at its place, and it left the plan as plan'
pub record FollowedPart (r₀ : Result Progress) (text plan : Bytes) (r : Answer Lines Refused) (plan' : Bytes) : Type 0 where
  pub answers : answer_numbered (λ l. progress_from l.progress) r ≡ (recover_part (answer_before r₀ plan) text).answer.result
  pub left : OnOk r (plan' ≡ (recover_part (answer_before r₀ plan) text).answer.plan)
  pub rest : IfOk r (λ l. drop l.at text ≡ (recover_part (answer_before r₀ plan) text).rest)
  pub within : IfOk r (λ l. l.at ≤ length text)

-- `recover_part` went on from an answer for a text: it answered r', kept so many bytes at the front of text', and, where it did not refuse, left
-- the plan as plan'
pub record DidPart (r : Result Progress) (text plan : Bytes) (r' : Result Progress) (held : ℕ) (text' plan' : Bytes) : Type 0 where
  pub answers : r' ≡ (recover_part (answer_before r plan) text).answer.result
  pub left : (q : Progress) → r' ≡ ok q → plan' ≡ (recover_part (answer_before r plan) text).answer.plan
  pub rest : take held text' ≡ (recover_part (answer_before r plan) text).rest
  pub fits : held ≤ length text
  pub short : held < max_line_bytes
  pub same_length : length text' ≡ length text
  pub as_long : length plan' ≡ length plan

-- "each call ends with a result or one listed number and place": after a progress a refusal is 19, and a progress has a state of the controller where
-- the one before had one; a refusal stays as it is
abbrev pub ListedAfter : Result Progress → Result Progress → Type 0
ListedAfter (ok p) (ok q) = p.state < 16 → q.state < 16
ListedAfter (ok p) (refused number place) = number ≡ refusal.clock_line
ListedAfter (refused number place) r = r ≡ refused number place
