-- Demand 1 for the calls of Change 2 of document 02, and what makes them one: line by line, in parts or whole, the answer is the same.
-- proofs/Requests.antt proves all these statements.
-- Assumes nothing.
use Rattle.std.specs.Prelude.{◌≡◌, true, ◌⊎◌, List, [], ◌∷◌, ◌++◌, ℕ, suc, ◌≤◌, ◌<◌, length, get_or}
use Rattle.model.specs.Limits.{max_plan_bytes}
use Rattle.model.specs.Refusals as refusal
use Rattle.model.specs.Result.{ok, refused, and_then}
use Rattle.model.specs.Text.{Bytes, line_end, parts, ended}
use Rattle.model.specs.Printed.{printed, exit_status}
use Rattle.model.specs.Places.{behind_lines, IsLine, ◌or◌, Listed}
use Rattle.model.specs.Demands.{OnlyFirst, status_for}
use Rattle.recover_model.specs.RecoverCalls.{Progress, at_first, max_count, can_go_on, bytes_written, recover_line, recover_end, recover_text, recover_lines, behind, started, recover_parts, recovery_end}
use Rattle.recover_model.specs.ClockText.{max_line_bytes}
use Rattle.recover_model.specs.Recover.{recover, recover_program}

-- ---- "Every lent buffer keeps all its bytes on a refusal"

abbrev pub RecoverBufferKept : Type 0
RecoverBufferKept = (t : Bytes) (plan : List ℕ) (number place : ℕ) → (recover_text t plan).result ≡ refused number place → (recover_text t plan).plan ≡ plan

abbrev pub LineBufferKept : Type 0
LineBufferKept = (p : Progress) (l : Bytes) (plan : List ℕ) (number place : ℕ) → (recover_line p l plan).result ≡ refused number place → (recover_line p l plan).plan ≡ plan

-- ---- "Output buffers change only on success, in the bytes needed."

abbrev pub RecoverBufferWritten : Type 0
RecoverBufferWritten = (t : Bytes) (plan : List ℕ) (count : ℕ) → (recover_text t plan).result ≡ ok count → OnlyFirst count plan (recover_text t plan).plan

-- between two places of a buffer, and nowhere else
pub record OnlyBetween (first last : ℕ) (old new : List ℕ) : Type 0 where
  pub in_order : first ≤ last
  pub enough : last ≤ length old
  pub as_long : length new ≡ length old
  pub others : (i : ℕ) → (i < first) ⊎ (last ≤ i) → get_or new i 0 ≡ get_or old i 0

-- from the bytes that stood there before the line to those that stand there after it
abbrev pub LineBufferWritten : Type 0
LineBufferWritten = (p q : Progress) (l : Bytes) (plan : List ℕ) → (recover_line p l plan).result ≡ ok q → OnlyBetween (bytes_written p) (bytes_written q) plan (recover_line p l plan).plan

-- ---- "Whatever text or length comes in, each call ends with a result or one listed number and place."

-- a clock text's refusals
pub data ClockTextRefusal (t : Bytes) : ℕ → ℕ → Type 0 where
  -- "19, at the first offending line"
  clock_line_law : {n : ℕ} → IsLine t n → ClockTextRefusal t refusal.clock_line n
  clock_unended : (behind (parts line_end t) ≡ [] → ⊥) → ClockTextRefusal t refusal.clock_line (behind_lines t)

-- the refusals of the calls for a line and for the end
pub data ClockLineRefusal (p : Progress) : ℕ → ℕ → Type 0 where
  -- "19, at the first offending line": the line that the call is for, or is behind
  this_line : ClockLineRefusal p refusal.clock_line (suc p.lines)
  last_line : ClockLineRefusal p refusal.clock_line p.lines

-- "13, bytes needed | buffer for plan .. too short"
pub data ShortPlan (plan : List ℕ) : ℕ → ℕ → Type 0 where
  short_for : {needed : ℕ} → length plan < needed → needed ≤ max_plan_bytes → ShortPlan plan refusal.buffer needed

pub record RecoverListed : Type 0 where
  pub text : (t : Bytes) (plan : List ℕ) → Listed (ClockTextRefusal t or ShortPlan plan) (recover_text t plan).result
  pub line : (p : Progress) (l : Bytes) (plan : List ℕ) → Listed (ClockLineRefusal p or ShortPlan plan) (recover_line p l plan).result
  pub end : (p : Progress) (rest : Bytes) → Listed (ClockLineRefusal p) (recover_end p rest)

-- ---- the calls in turn

-- what a call leaves can go on: no text meets the refusal of a progress that no call left
abbrev pub LeftGoesOn : Type 0
LeftGoesOn = (p q : Progress) (l : Bytes) (plan : List ℕ) → (recover_line p l plan).result ≡ ok q → q.lines < max_count → can_go_on q ≡ true

abbrev pub FirstGoesOn : Type 0
FirstGoesOn = can_go_on at_first ≡ true

-- a call for each line and one for the end answer as the call for the whole text, and leave the same buffer
pub record AsWhole (t : Bytes) (plan : List ℕ) : Type 0 where
  pub result : and_then (recover_lines at_first plan (ended (parts line_end t))).result (λ p. recover_end p (behind (parts line_end t))) ≡ (recover_text t plan).result
  pub plan_left : (count : ℕ) → (recover_text t plan).result ≡ ok count → (recover_lines at_first plan (ended (parts line_end t))).plan ≡ (recover_text t plan).plan

abbrev pub LineByLine : Type 0
LineByLine = (t : Bytes) (plan : List ℕ) → length t ≤ max_count → max_plan_bytes ≤ length plan → AsWhole t plan

-- however the text is cut into parts, the answer is the same
abbrev pub joined_parts : List Bytes → Bytes
joined_parts [] = []
joined_parts (part ∷ more) = part ++ joined_parts more

abbrev pub InParts : Type 0
InParts = (cut : List Bytes) (plan : List ℕ) → length (joined_parts cut) < max_count → max_plan_bytes ≤ length plan
    → printed (λ text. text) (recovery_end (recover_parts (started plan) cut)) ≡ recover_program (joined_parts cut)

-- and no more is held between two parts than a line that can still be good
abbrev pub HeldShort : Type 0
HeldShort = (cut : List Bytes) (plan : List ℕ) → length (recover_parts (started plan) cut).rest < max_line_bytes

-- ---- the exit status tells refusals from plans

abbrev pub RecoverStatus : Type 0
RecoverStatus = (t : Bytes) → exit_status (recover_program t) ≡ status_for (recover t)
