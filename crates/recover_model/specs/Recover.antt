-- Clocks back into a plan (document 02, Change 2).
-- Assumes nothing.
use Rattle.std.specs.Prelude.{Bool, cond, ◌||◌, List, [], ◌∷◌, ◌++◌, ℕ, suc, ◌+◌, ltb}
use Rattle.std.specs.Prelude.{Option, None as none, Some as some}
use Rattle.model.specs.Limits.{max_operations, max_plan_bytes}
use Rattle.model.specs.Refusals as refusal
use Rattle.model.specs.Result.{Result, ok, refused, and_then}
use Rattle.model.specs.Text.{Bytes, bind, parts, line_end}
use Rattle.model.specs.Plan.{Plan}
use Rattle.model.specs.Tap.{Tap, idle, selectIR, next, is_in, Action, capture, shift, update, keep, action, Clock}
use Rattle.model.specs.NetworkText.{at_end}
use Rattle.model.specs.PlanText.{write_plan}
use Rattle.model.specs.Printed.{printed}
use Rattle.recover_model.specs.ClockText.{clk_line}

-- ---- "follows the controller from Run-Test/Idle"

pub record Follower : Type 0 where
  pub state : Tap
  -- the TDI bits of the passage under way
  pub bits : List Bool
  -- the passages that have ended
  pub plan : Plan
  -- entries to Capture-DR, and the plan's bytes: "5 for each entry, 1 for each bit"
  pub entries : ℕ
  pub plan_bytes : ℕ

abbrev pub at_start : Follower
at_start = record { state = idle; bits = []; plan = []; entries = 0; plan_bytes = 0 }

-- "Each passage from Capture-DR to Update-DR becomes one `csu` line with the TDI bits of its Shift-DR clocks"
abbrev pub taken : Action → Bool → Follower → Follower
taken capture tdi f = f
taken shift tdi f = record { state = f.state; bits = f.bits ++ tdi ∷ []; plan = f.plan; entries = f.entries; plan_bytes = f.plan_bytes + 1 }
taken update tdi f = record { state = f.state; bits = []; plan = f.plan ++ f.bits ∷ []; entries = f.entries; plan_bytes = f.plan_bytes }
taken keep tdi f = f

abbrev pub reached : Tap → Follower → Follower
reached t f = record { state = t; bits = f.bits; plan = f.plan; entries = f.entries; plan_bytes = f.plan_bytes }

-- an entry to Capture-DR, the state whose clock captures
abbrev pub counted : Action → Follower → Follower
counted capture f = record { state = f.state; bits = f.bits; plan = f.plan; entries = f.entries + 1; plan_bytes = f.plan_bytes + 5 }
counted shift f = f
counted update f = f
counted keep f = f

-- one clock: what it does in its state, "before the state changes"; then the state that TMS picks is entered
abbrev pub moved : Follower → Clock → Follower
moved f c = let t = next f.state c.tms in counted (action t) (reached t (taken (action f.state) c.tdi f))

-- "entry to Select-IR, a seventeenth entry to Capture-DR, more than 64,080 bytes of plan"
abbrev pub offends : Follower → Bool
offends f = is_in selectIR f.state || ltb max_operations f.entries || ltb max_plan_bytes f.plan_bytes

unfoldable pub follow_clock : Follower → Clock → Option Follower
follow_clock f c = cond (offends (moved f c)) none (some (moved f c))

unfoldable pub follow_clocks : Follower → List Clock → Option Follower
follow_clocks f [] = some f
follow_clocks f (c ∷ cs) = bind (follow_clock f c) (λ g. follow_clocks g cs)

-- one line, without its byte 10
unfoldable pub follow_line : Follower → Bytes → Option Follower
follow_line f l = bind (clk_line l) (follow_clocks f)

-- ---- "It refuses with 19, at the first offending line"

-- line n
abbrev pub if_followed : {A B : Type 0} → ℕ → Option A → (A → Result B) → Result B
if_followed n none go = refused refusal.clock_line n
if_followed n (some a) go = go a

-- after n lines: "(at the last line) an end outside Run-Test/Idle"
abbrev pub at_rest_law : ℕ → Follower → Result Plan
at_rest_law n f = cond (is_in idle f.state) (ok f.plan) (refused refusal.clock_line n)

-- the lines behind the first n
unfoldable pub follow_lines : ℕ → Follower → List Bytes → Result Plan
follow_lines n f [] = at_rest_law n f
follow_lines n f (l ∷ []) = and_then (at_end f refusal.clock_line l (suc n)) (at_rest_law n)
follow_lines n f (l ∷ m ∷ ls) = if_followed (suc n) (follow_line f l) (λ g. follow_lines (suc n) g (m ∷ ls))

-- the plan of a text of clocks
unfoldable pub recover : Bytes → Result Plan
recover t = follow_lines 0 at_start (parts line_end t)

-- ---- what the program prints

-- the recover program prints the plan
unfoldable pub recover_program : Bytes → Bytes
recover_program t = printed write_plan (recover t)
