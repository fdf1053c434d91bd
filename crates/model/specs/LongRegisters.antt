-- What document 02, Change 4, "Registers up to 64 bits", promises; proofs/Requests.antt proves it.
-- Assumes nothing.
use Rattle.std.specs.Prelude.{◌≡◌, Bool, false, List, ℕ, ◌≤◌, ◌<◌, length, take}
use Rattle.std.specs.Prelude.{Some as some}
use Rattle.model.specs.Limits.{max_plan_bytes}
use Rattle.model.specs.Refusals as refusal
use Rattle.model.specs.Result.{Result, ok, refused, and_then}
use Rattle.model.specs.Text.{Bytes}
use Rattle.model.specs.Network.{segment, Network}
use Rattle.model.specs.NetworkText.{Reset, node, Draft, has_out, outside, add_line, read_up_to, read_network}
use Rattle.model.specs.Resets.{read_without_reset}
use Rattle.model.specs.Mark.{Pass, mark_read, mark}
use Rattle.model.specs.Calls.{checked, planned, search_entries, PlanAnswer, plan_answer, make_plan, write_clocks}
use Rattle.model.specs.Printed.{printed, show_network, show_pass, read_program, plan_program, mark_program}

-- ---- "LEN may be 64, and 65 is refused as 33 was."

-- whatever the greatest LEN is
pub record LenBound (most : ℕ) : Type 0 where
  pub may_be : (n from len : ℕ) (shadow : Bool) → from < n → 1 ≤ len → len ≤ most → outside most n (segment from len shadow) ≡ false
  -- 2, at its line, wherever such a line may stand
  pub beyond : (d : Draft) (n from len : ℕ) (shadow : Bool) (v : Reset) → has_out d ≡ false → most < len
      → add_line most d n (some (node (segment from len shadow) v)) ≡ refused refusal.bounds n

abbrev pub LenBounded : Type 0
LenBounded = (most : ℕ) → LenBound most

-- ---- "Any text accepted earlier must give the same plan, mark and clocks."

-- "grow from 32"
abbrev pub earlier_len : ℕ
earlier_len = 32

-- the planner's call with all its buffers, and the marker's verdict, with `most` as the greatest LEN
abbrev pub plan_up_to : ℕ → Bytes → List ℕ → List ℕ → PlanAnswer
plan_up_to most n search plan = plan_answer (and_then (read_up_to most n) (checked (length search))) search plan

abbrev pub mark_up_to : ℕ → Bytes → Bytes → Result Pass
mark_up_to most n p = mark_read (read_up_to most n) p

-- the bytes that a call has written; none where it refuses
abbrev pub bytes_written : Result ℕ → ℕ
bytes_written (ok count) = count
bytes_written (refused number place) = 0

-- the plan text that is then in its buffer
abbrev pub plan_in : PlanAnswer → Bytes
plan_in a = take (bytes_written a.result) a.plan

pub record AsEarlier (n : Bytes) : Type 0 where
  pub network : read_network n ≡ read_up_to earlier_len n
  pub plans : (search plan : List ℕ) → make_plan n search plan ≡ plan_up_to earlier_len n search plan
  pub marks : (p : Bytes) → mark n p ≡ mark_up_to earlier_len n p
  -- the clock writer gets a plan text only
  pub clocks : (search plan tms tdi : List ℕ) → write_clocks (plan_in (make_plan n search plan)) tms tdi ≡ write_clocks (plan_in (plan_up_to earlier_len n search plan)) tms tdi
  -- what the programs print
  pub read_prints : read_program n ≡ printed show_network (read_up_to earlier_len n)
  pub plan_prints : plan_program n ≡ printed (λ text. text) (planned (and_then (read_up_to earlier_len n) (checked search_entries)) max_plan_bytes)
  pub mark_prints : (p : Bytes) → mark_program n p ≡ printed show_pass (mark_up_to earlier_len n p)

abbrev pub EarlierTexts : Type 0
EarlierTexts = (n : Bytes) (net : Network) → read_up_to earlier_len n ≡ ok net → AsEarlier n

-- and so of the texts that document 01's reader accepted, before Change 1 too
abbrev pub FirstTexts : Type 0
FirstTexts = (n : Bytes) (net : Network) → read_without_reset earlier_len n ≡ ok net → AsEarlier n × (read_network n ≡ ok net)
