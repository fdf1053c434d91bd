-- Demands 1 and 3 of the call `mark`, and demand 3 of it with `write_clocks`: statements about whatever they return and leave by
-- their contracts. proofs/Demand.antt proves them from the model's theorems.
-- Assumes nothing.
use Rattle.std.specs.Prelude.{◌≡◌, ◌↔◌, List, map, ℕ, ◌≤◌, length, take}
use Rattle.std.specs.Prelude.{Result as Answer, Ok, Err}
use Rattle.model.specs.Answers.{number_of}
use Rattle.model.specs.declared.refusal.Refusal.{Refusal}
use Rattle.model.specs.Result.{ok}
use Rattle.model.specs.Text.{Bytes}
use Rattle.model.specs.Network.{Network}
use Rattle.model.specs.Plan.{Plan}
use Rattle.model.specs.Tap.{Clock, bit_byte}
use Rattle.model.specs.Frame.{Registers, Captures, Holds}
use Rattle.model.specs.NetworkText.{read_network}
use Rattle.model.specs.PlanText.{read_plan}
use Rattle.model.specs.Played.{UpheldBy}
use Rattle.model.specs.Places.{◌or◌, NetworkRefusal, PlanTextRefusal, MarkerRefusal}
use Rattle.model.specs.Demands.{AcceptedAndValid}
use Rattle.clock_writer.specs.Clocks.{WroteClocks}
use Rattle.marker_targets.specs.declared.Pass.{Pass}
use Rattle.marker_targets.specs.Answers.{pass_of}
use Rattle.marker.specs.Marks.{MarkReturned}

-- ---- demand 1: "Whatever text or length comes in, each call ends with a result or one listed number and place."

abbrev pub EndsListed : Type 0
EndsListed = (n p : Bytes) (m : Answer Pass Refusal) → MarkReturned n p m → (r : Refusal) → m ≡ Err r
    → (NetworkRefusal n or PlanTextRefusal p or MarkerRefusal n p) (number_of r.kind) r.place

-- ---- demand 3: "The marker passes two texts exactly when the network is accepted and the plan (at most 16 operations) is valid for it."

abbrev pub PassesExactly : Type 0
PassesExactly = (n p : Bytes) (m : Answer Pass Refusal) → MarkReturned n p m → ((pass : Pass) × (m ≡ Ok pass)) ↔ AcceptedAndValid n p

-- ---- demand 3: "For a passed plan, whatever the unknown start bits are and whatever each capture brings, for the WHOLE list of
-- its clocks played from Run-Test/Idle on document 01's test frame: .."

-- the clocks in these buffers bear out every claim of the pass
pub record BorneOut (n p : Bytes) (pass : Pass) (tms tdi : List ℕ) : Type 0 where
  pub net : Network
  pub plan : Plan
  pub list : List Clock
  pub accepted : read_network n ≡ ok net
  pub reads : read_plan p ≡ ok plan
  pub as_many : length list ≡ pass.clocks
  pub tms_row_law : take pass.clocks tms ≡ map (λ c. bit_byte c.tms) list
  pub tdi_row_law : take pass.clocks tdi ≡ map (λ c. bit_byte c.tdi) list
  pub upheld : (first : Registers) → Holds net.nodes net.start first → (fed : Captures)
      → UpheldBy net plan list first fed (pass_of pass)

-- with room for the clocks reported, `write_clocks` writes them for the same plan text
abbrev pub PassBorneOut : Type 0
PassBorneOut = (n p : Bytes) (m : Answer Pass Refusal) (pass : Pass) → MarkReturned n p m → m ≡ Ok pass
    → (tms tdi : List ℕ) (w : Answer ℕ Refusal) (tms' tdi' : List ℕ) → WroteClocks p tms tdi w tms' tdi' → pass.clocks ≤ length tms → pass.clocks ≤ length tdi
    → (w ≡ Ok pass.clocks) × BorneOut n p pass tms' tdi'
