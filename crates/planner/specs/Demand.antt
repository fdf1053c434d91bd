-- Demands 1 and 3 of the call `make_plan`: statements about whatever it returns and leaves by its contract. proofs/Demand.antt
-- proves them from the model's theorems.
-- Assumes nothing.
use Rattle.std.specs.Prelude.{◌≡◌, true, false, ◌↔◌, List, ℕ, ◌≤◌, ◌<◌, length, take, Result, Ok, Err}
use Rattle.model.specs.Limits.{max_operations, max_plan_bytes, max_steering_bits, search_size}
use Rattle.model.specs.Refusals as refusal
use Rattle.model.specs.Result.{ok, refused}
use Rattle.model.specs.Text.{Bytes}
use Rattle.model.specs.Network.{Network, steering_bits}
use Rattle.model.specs.Plan.{Plan, ValidPlan, Named}
use Rattle.model.specs.NetworkText.{read_network}
use Rattle.model.specs.PlanText.{read_plan}
use Rattle.model.specs.Places.{◌or◌, NetworkRefusal, PlannerRefusal}
use Rattle.model.specs.Demands.{OnlyFirst, SearchCleared, past_check12}
use Rattle.model.specs.Answers.{number_of, count_of}
use Rattle.model.specs.declared.refusal.Refusal.{Refusal}
use Rattle.marker_targets.specs.declared.Pass.{Pass}
use Rattle.marker.specs.Marks.{MarkReturned}
use Rattle.planner.specs.Call.{MadePlan}

-- ---- demand 1

-- "Every lent buffer keeps all its bytes on a refusal, save the search space, which is cleared as document 01 says"
pub record LentLeft (search plan : List ℕ) (a : Result ℕ Refusal) (search' plan' : List ℕ) : Type 0 where
  pub plan_kept : (r : Refusal) → a ≡ Err r → plan' ≡ plan
  -- "Output buffers change only on success, in the bytes needed."
  pub plan_written : (count : ℕ) → a ≡ Ok count → OnlyFirst count plan plan'
  -- "Past check 12 the first 11,664 search entries end as 0; others never change."
  pub search_cleared : past_check12 (count_of a) ≡ true → SearchCleared search search'
  pub search_kept : past_check12 (count_of a) ≡ false → search' ≡ search

abbrev pub BuffersKept : Type 0
BuffersKept = (n : Bytes) (search plan : List ℕ) (a : Result ℕ Refusal) (search' plan' : List ℕ) → MadePlan n search plan a search' plan' → LentLeft search plan a search' plan'

-- "Whatever text or length comes in, each call ends with a result or one listed number and place."
abbrev pub EndsListed : Type 0
EndsListed = (n : Bytes) (search plan : List ℕ) (a : Result ℕ Refusal) (search' plan' : List ℕ) → MadePlan n search plan a search' plan'
    → (r : Refusal) → a ≡ Err r → (NetworkRefusal n or PlannerRefusal n search plan) (number_of r.kind) r.place

-- ---- demand 3

-- "it writes a plan that passes, and no valid plan has fewer operations"; it is the plan that document 01 names
pub record PlanWritten (n : Bytes) (net : Network) (text : Bytes) : Type 0 where
  pub plan : Plan
  pub reads : read_plan text ≡ ok plan
  -- `mark` passes it, whatever it returns by its contract
  pub passes : (m : Result Pass Refusal) → MarkReturned n text m → (pass : Pass) × (m ≡ Ok pass)
  pub fewest : (other : Plan) → ValidPlan net other → length plan ≤ length other
  pub named : Named net plan

-- the two answers with the full sizes lent
pub data Outcome (n : Bytes) (net : Network) (a : Result ℕ Refusal) (plan' : List ℕ) : Type 0 where
  no_plan : count_of a ≡ refused refusal.no_plan 0 → Outcome n net a plan'
  a_plan : (count : ℕ) → a ≡ Ok count → PlanWritten n net (take count plan') → Outcome n net a plan'

-- "With document 01's buffer sizes lent and at most 6 steering bits, the planner refuses with 11 exactly when no valid plan of
-- at most 16 operations exists; otherwise it writes a plan .."
pub record Exact (n : Bytes) (net : Network) (a : Result ℕ Refusal) (plan' : List ℕ) : Type 0 where
  pub none_exactly : (count_of a ≡ refused refusal.no_plan 0) ↔ ((other : Plan) → ValidPlan net other → max_operations < length other)
  pub outcome : Outcome n net a plan'

abbrev pub PlansExactly : Type 0
PlansExactly = (n : Bytes) (net : Network) (search plan : List ℕ) (a : Result ℕ Refusal) (search' plan' : List ℕ) → MadePlan n search plan a search' plan'
    → read_network n ≡ ok net → length (steering_bits net.nodes) ≤ max_steering_bits → search_size ≤ length search → max_plan_bytes ≤ length plan → Exact n net a plan'

-- 12 and 13 only where too little is lent
pub record TooLittleLent (search plan : List ℕ) (a : Result ℕ Refusal) : Type 0 where
  pub twelve : (place : ℕ) → count_of a ≡ refused refusal.search_space place → (place ≡ search_size) × (length search < search_size)
  pub thirteen : (place : ℕ) → count_of a ≡ refused refusal.buffer place → (length plan < place) × (place ≤ max_plan_bytes)

abbrev pub RefusesOnlyShort : Type 0
RefusesOnlyShort = (n : Bytes) (search plan : List ℕ) (a : Result ℕ Refusal) (search' plan' : List ℕ) → MadePlan n search plan a search' plan' → TooLittleLent search plan a
