-- What the planner's call answers and leaves.
-- Assumes nothing.
use Rattle.std.specs.Prelude.{◌≡◌, List, ℕ, ◌≤◌, length, replicate, Result}
use Rattle.model.specs.Limits.{max_steering_bits, search_size}
use Rattle.model.specs.Result.{ok}
use Rattle.model.specs.Text.{Bytes}
use Rattle.model.specs.Calls.{write_over, written, count_of as length_of, search_entries, planned, make_plan}
use Rattle.model.specs.Answers.{count_of}
use Rattle.model.specs.declared.refusal.Refusal.{Refusal}
use Rattle.model.specs.Accepted.{Accepted}
use Rattle.network_reader.specs.Reads.{recorded_network, RecordComplete, Uncounted, record_of}

-- the parts of a record of an accepted network that came past the checks 10 and 12
pub record Searchable (u : Uncounted) (search : List ℕ) : Type 0 where
  pub count : ℕ
  pub len : ℕ
  pub filled : RecordComplete (record_of u count len)
  pub accepted : Accepted (recorded_network (record_of u count len))
  pub few : count ≤ max_steering_bits
  pub enough : search_size ≤ length search

-- the answer to them, the search space and the plan buffer
pub record PlansIn (u : Uncounted) (search plan : List ℕ) (a : Result ℕ Refusal) (search' plan' : List ℕ) : Type 0 where
  pub result : count_of a ≡ length_of (planned (ok (recorded_network (record_of u 0 0))) (length plan))
  pub search_left : search' ≡ write_over (replicate search_entries 0) search
  pub plan_left : plan' ≡ written (planned (ok (recorded_network (record_of u 0 0))) (length plan)) plan

-- `make_plan` returned a for a network text, and left the search space as search' and the plan buffer as plan'
pub record MadePlan (n : Bytes) (search plan : List ℕ) (a : Result ℕ Refusal) (search' plan' : List ℕ) : Type 0 where
  pub result : count_of a ≡ (make_plan n search plan).result
  pub search_left : search' ≡ (make_plan n search plan).search
  pub plan_left : plan' ≡ (make_plan n search plan).plan
