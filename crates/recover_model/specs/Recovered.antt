-- The promises of Change 2 of document 02, "Clocks back into a plan", as statements over texts; proofs/Requests.antt proves them all.
-- Assumes nothing.
use Rattle.std.specs.Prelude.{◌≡◌, Bool, cond, ◌↔◌, ℕ, suc, ◌+◌, ◌*◌, ◌≤◌, ◌<◌, length, take}
use Rattle.std.specs.Prelude.{Option, None as none, Some as some}
use mathlib.Core.List.{List, [], ◌∷◌, ◌++◌, map, Memᴰ}
use Rattle.model.specs.Limits.{max_operations, max_plan_bytes}
use Rattle.model.specs.Refusals as refusal
use Rattle.model.specs.Result.{Result, ok, refused}
use Rattle.model.specs.Text.{Bytes, is_empty, parts, line_end}
use Rattle.model.specs.Network.{Network, write, at}
use Rattle.model.specs.Plan.{Plan}
use Rattle.model.specs.Tap.{Tap, idle, captureDR, shiftDR, selectIR, next, is_in, state_after, Action, capture, shift, update, keep, action, Clock, plan_clocks}
use Rattle.model.specs.Frame.{Registers, held_at, Captures, Frame, play, showing, Holds}
use Rattle.model.specs.NetworkText.{read_network}
use Rattle.model.specs.PlanText.{read_plan, write_plan}
use Rattle.model.specs.Mark.{Pass, mark}
use Rattle.model.specs.Printed.{line, pins, clock_program}
use Rattle.recover_model.specs.ClockText.{clk_line, joined_clocks, max_line_bytes}
use Rattle.recover_model.specs.Recover.{recover, recover_program}

-- "The clocks written for any plan text of good form, with at most 4,016 bits a line, give back its bytes."
abbrev pub RoundTrip : Type 0
RoundTrip = (p : Bytes) (plan : Plan) → read_plan p ≡ ok plan → ((bs : List Bool) → Memᴰ bs plan → length bs ≤ 4016) → recover_program (clock_program p) ≡ p

-- ---- one line

-- "`clk TMS TDI`" as the clock program prints it, no field empty, at most 32,768 bytes with its end
pub record ClkLineOf (l : Bytes) (clocks : List Clock) : Type 0 where
  pub text : l ++ line_end ∷ [] ≡ line "clk" (pins (λ c. c.tms) clocks ∷ pins (λ c. c.tdi) clocks ∷ [])
  pub not_empty : 1 ≤ length clocks
  pub fits : length l + 1 ≤ max_line_bytes

abbrev pub ClkLineExact : Type 0
ClkLineExact = (l : Bytes) (clocks : List Clock) → (clk_line l ≡ some clocks) ↔ ClkLineOf l clocks

-- ---- what is given back, said of the joined clocks

-- the state after these clocks, from Run-Test/Idle on
abbrev pub rests_in : List Clock → Tap
rests_in clocks = state_after idle (map (λ c. c.tms) clocks)

-- how many of these clocks, from state t on, lead to state s, and how many stand in it
unfoldable pub entries_to : Tap → Tap → List Clock → ℕ
entries_to s t [] = 0
entries_to s t (c ∷ cs) = cond (is_in s (next t c.tms)) 1 0 + entries_to s (next t c.tms) cs

unfoldable pub clocks_in : Tap → Tap → List Clock → ℕ
clocks_in s t [] = 0
clocks_in s t (c ∷ cs) = cond (is_in s t) 1 0 + clocks_in s (next t c.tms) cs

-- no "entry to Select-IR, a seventeenth entry to Capture-DR, more than 64,080 bytes of plan (5 for each entry, 1 for each bit)"
pub record Within (clocks : List Clock) : Type 0 where
  pub no_select_ir : entries_to selectIR idle clocks ≡ 0
  pub entries : entries_to captureDR idle clocks ≤ max_operations
  pub plan_bytes_law : 5 * entries_to captureDR idle clocks + clocks_in shiftDR idle clocks ≤ max_plan_bytes

-- "Each passage from Capture-DR to Update-DR becomes one `csu` line with the TDI bits of its Shift-DR clocks"
abbrev pub add_passage : Action → Bool → List Bool → (List Bool → Plan) → Plan
add_passage capture tdi bits later = later bits
add_passage shift tdi bits later = later (bits ++ tdi ∷ [])
add_passage update tdi bits later = bits ∷ later []
add_passage keep tdi bits later = later bits

-- the passages that end among these clocks, with these bits of the one under way
unfoldable pub passages : Tap → List Bool → List Clock → Plan
passages t bits [] = []
passages t bits (c ∷ cs) = add_passage (action t) c.tdi bits (λ bs. passages (next t c.tms) bs cs)

pub record Recovers (t : Bytes) (plan : Plan) : Type 0 where
  pub clocks : List Clock
  pub joined : joined_clocks (parts line_end t) ≡ some clocks
  pub within : Within clocks
  pub at_rest : rests_in clocks ≡ idle
  pub its_passages : passages idle [] clocks ≡ plan

abbrev pub RecoverExact : Type 0
RecoverExact = (t : Bytes) (plan : Plan) → (recover t ≡ ok plan) ↔ Recovers t plan

-- ---- "at the first offending line"

-- these lines, each with its byte 10, have good form, and their clocks keep within the limits
abbrev pub Fine : List Bytes → Type 0
Fine lines = (clocks : List Clock) × (joined_clocks (lines ++ [] ∷ []) ≡ some clocks) × Within clocks

-- what offends at line n of the lines that a text is parted into; behind its last byte 10 nothing may stand
pub data Offence (lines : List Bytes) (n : ℕ) : Type 0 where
  in_line : n < length lines → ¬ Fine (take n lines) → Offence lines n
  unended : n ≡ length lines → ¬ (at lines n [] ≡ []) → Offence lines n
  -- "(at the last line) an end outside Run-Test/Idle"
  not_at_rest : {clocks : List Clock} → suc n ≡ length lines → joined_clocks lines ≡ some clocks → ¬ (rests_in clocks ≡ idle) → Offence lines n

pub record FirstOffending (lines : List Bytes) (n : ℕ) : Type 0 where
  pub before : (k : ℕ) → k < n → Fine (take k lines)
  pub offence : Offence lines n

abbrev pub RefusedAtFirst : Type 0
RefusedAtFirst = (t : Bytes) (number place : ℕ) → recover t ≡ refused number place → FirstOffending (parts line_end t) place

-- ---- every answer

-- the lines of a text, an unended last one too
abbrev pub count_lines : List Bytes → ℕ
count_lines [] = 0
count_lines (l ∷ []) = cond (is_empty l) 0 1
count_lines (l ∷ m ∷ ls) = suc (count_lines (m ∷ ls))

-- the plan, of good form, or 19 "at the first offending line"
abbrev pub Answer : ℕ → Result Plan → Type 0
Answer lines (ok plan) = (read_plan (write_plan plan) ≡ ok plan) × (length plan ≤ max_operations)
Answer lines (refused number place) = (number ≡ refusal.clock_line) × (1 ≤ place) × (place ≤ lines)

abbrev pub PlanOr19 : Type 0
PlanOr19 = (t : Bytes) → Answer (count_lines (parts line_end t)) (recover t)

-- ---- "engineers want the plan that was really played"

abbrev pub add_capture : Action → ℕ → List ℕ → List ℕ
add_capture capture i later = i ∷ later
add_capture shift i later = later
add_capture update i later = later
add_capture keep i later = later

-- the clocks in Capture-DR among these, the first of them clock i
unfoldable pub capture_clocks : Tap → ℕ → List Clock → List ℕ
capture_clocks t i [] = []
capture_clocks t i (c ∷ cs) = add_capture (action t) i (capture_clocks (next t c.tms) (suc i) cs)

abbrev pub add_shown : Option Bool → List Bool → List Bool
add_shown none later = later
add_shown (some b) later = b ∷ later

-- the bits that show, in turn
abbrev pub bits_shown : List (Option Bool) → List Bool
bits_shown [] = []
bits_shown (o ∷ os) = add_shown o (bits_shown os)

module _ (net : Network) (first : Registers) where
  abbrev pub from_idle : Captures → List Clock → Frame
  from_idle fed cs = play net fed 0 record { state = idle; registers = first } cs

  abbrev pub shown_from_idle : Captures → List Clock → List Bool
  shown_from_idle fed cs = bits_shown (showing net fed 0 record { state = idle; registers = first } cs)

-- these clocks and the plan's own end in Run-Test/Idle with the same registers, and show the same bits in turn,
-- whatever is captured: by the clock in the first list, and the same in turn in the second
pub record SamePlay (net : Network) (first : Registers) (clocks : List Clock) (plan : Plan) (fed own : Captures) : Type 0 where
  pub at_rest : (from_idle net first fed clocks).state ≡ idle
  pub plan_at_rest : (from_idle net first own (plan_clocks plan)).state ≡ idle
  pub registers : (from_idle net first fed clocks).registers ≡ (from_idle net first own (plan_clocks plan)).registers
  pub shows : shown_from_idle net first fed clocks ≡ shown_from_idle net first own (plan_clocks plan)

-- the same captures, in turn
abbrev pub SameCaptures : Captures → List Clock → Captures → List Clock → Type 0
SameCaptures fed clocks own others = map fed (capture_clocks idle 0 clocks) ≡ map own (capture_clocks idle 0 others)

pub record PlayedAs (clocks : List Clock) (plan : Plan) : Type 0 where
  -- as many captures as operations, so that every list of captures can be had
  pub captures : (fed : Captures) → (own : Captures) × SameCaptures fed clocks own (plan_clocks plan)
  pub plays : (net : Network) (first : Registers) (fed own : Captures) → SameCaptures fed clocks own (plan_clocks plan) → SamePlay net first clocks plan fed own

abbrev pub ReallyPlayed : Type 0
ReallyPlayed = (t : Bytes) (plan : Plan) → recover t ≡ ok plan
    → (clocks : List Clock) × (joined_clocks (parts line_end t) ≡ some clocks) × PlayedAs clocks plan

-- an accepted network text with a write target, a text of clocks whose plan passes the marker on it, and registers that the frame can start from
pub record PlayedAndMarked (n t : Bytes) : Type 0 where
  pub net : Network
  pub plan : Plan
  pub clocks : List Clock
  pub pass : Pass
  pub first : Registers
  pub segment_number : ℕ
  pub bits : List Bool
  pub accepted : read_network n ≡ ok net
  pub given_back : recover t ≡ ok plan
  pub joined : joined_clocks (parts line_end t) ≡ some clocks
  pub passes : mark n (recover_program t) ≡ ok pass
  pub holds : Holds net.nodes net.start first
  pub target : Memᴰ (write segment_number bits) net.targets

-- a plan given back that passes the marker was played so that every write target holds its bits after the text's clocks
abbrev pub MarkedAsPlayed : Type 0
MarkedAsPlayed = (n t : Bytes) (p : PlayedAndMarked n t) (fed : Captures) → held_at (from_idle p.net p.first fed p.clocks).registers p.segment_number ≡ p.bits
