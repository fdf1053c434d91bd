-- The table of refusals: a row for each number, with the places that it can have (document 01, "Numbers and places"; document 02).
-- Assumes nothing.
use Rattle.std.specs.Prelude.{◌≡◌, Bool, ◌⊎◌, List, [], ℕ, suc, ◌≤◌, ◌<◌, length}
use Rattle.std.specs.Prelude.{None as none, Some as some}
use Rattle.model.specs.Limits.{max_targets, max_network_bytes, max_operations, max_plan_bytes, max_steering_bits, search_size}
use Rattle.model.specs.Refusals as refusal
use Rattle.model.specs.Result.{Result, ok, refused}
use Rattle.model.specs.Text.{Bytes, line_end, parts, Trit}
use Rattle.model.specs.Network.{segment, multiplexer, Network, at, steering_bits}
use Rattle.model.specs.Plan.{Plan, ValidPlan}
use Rattle.model.specs.Tap.{Clock}
use Rattle.model.specs.NetworkText.{node, line_of, read_network}
use Rattle.model.specs.Calls.{clocks_of}

-- ---- places

-- "last line number + 1"; it is the number of an unended last line
abbrev pub behind_lines : Bytes → ℕ
behind_lines t = length (parts line_end t)

-- the number of a line that byte 10 ends
abbrev pub IsLine : Bytes → ℕ → Type 0
IsLine t n = (1 ≤ n) × (n < behind_lines t)

-- "mux's line", which is "mux's number"
pub record IsMux (t : Bytes) (n : ℕ) : Type 0 where
  pub seg : ℕ
  pub bit : ℕ
  pub inputs : List ℕ
  pub says : line_of (at (parts line_end t) n []) ≡ some (node (multiplexer seg bit inputs) none)

-- "at the line .. a RESET whose length is not LEN"
pub record IsWrongReset (t : Bytes) (n : ℕ) : Type 0 where
  pub from : ℕ
  pub len : ℕ
  pub shadow : Bool
  pub reset : List Trit
  pub says : line_of (at (parts line_end t) n []) ≡ some (node (segment from len shadow) (some reset))
  pub wrong : length reset ≡ len → ⊥

-- the number of an operation: of a line of the plan, at most 16
abbrev pub IsOperation : Bytes → ℕ → Type 0
IsOperation p k = IsLine p k × (k ≤ max_operations)

-- the number of a target: "counted from 1 in line order", at most 4
pub record IsTargetNumber (n : Bytes) (t : ℕ) : Type 0 where
  pub net : Network
  pub reads : read_network n ≡ ok net
  pub from_1 : 1 ≤ t
  pub counted : t ≤ length net.targets
  pub at_most_4 : t ≤ max_targets

-- ---- rows: which numbers with which places

abbrev pub RefusalRows : Type 1
RefusalRows = ℕ → ℕ → Type 0

-- the rows of both
infixr 2 ◌or◌
abbrev pub ◌or◌ : RefusalRows → RefusalRows → RefusalRows
(first or second) number place = first number place ⊎ second number place

-- "a result or one listed number and place"
abbrev pub Listed : {A : Type 0} → RefusalRows → Result A → Type 0
Listed rows (ok a) = Unit {0}
Listed rows (refused number place) = rows number place

-- the network's refusals
pub data NetworkRefusal (t : Bytes) : ℕ → ℕ → Type 0 where
  -- "1, line | word, field count or field form wrong; last line unended"
  wrong_form : {n : ℕ} → IsLine t n → NetworkRefusal t refusal.form n
  unended : NetworkRefusal t refusal.form (behind_lines t)
  -- "2, line | FROM, input, LEN or N outside its bounds"
  out_of_bounds : {n : ℕ} → IsLine t n → NetworkRefusal t refusal.bounds n
  -- "3, line | node 129, or over 4,000 bits; place 0: text too long"
  too_large : {n : ℕ} → IsLine t n → NetworkRefusal t refusal.size n
  too_long : max_network_bytes < length t → NetworkRefusal t refusal.size 0
  -- "4, line | word out of order; no `out` (last line number + 1)"
  out_of_order : {n : ℕ} → IsLine t n → NetworkRefusal t refusal.order n
  out_missing : NetworkRefusal t refusal.order (behind_lines t)
  -- "5, mux's line | SEG not a segment with shadow, or an address bit beyond it; lowest such line"
  wrong_address : {n : ℕ} → IsMux t n → NetworkRefusal t refusal.address n
  -- "6, line | `hold`, `write`, `read`: not a segment, BITS not LEN long, or same word and segment again"
  wrong_segment : {n : ℕ} → IsLine t n → NetworkRefusal t refusal.entry n
  -- "7, line | target is a steering segment"
  target_steers : {n : ℕ} → IsLine t n → NetworkRefusal t refusal.steering_target n
  -- "8, line | fifth target"
  fifth_target : {n : ℕ} → IsLine t n → NetworkRefusal t refusal.target_count n
  -- "9, mux's number | start not valid; first multiplexer met"
  start_stops : {n : ℕ} → IsMux t n → NetworkRefusal t refusal.start n
  -- "18, at the line and directly after 2, a RESET whose length is not LEN"
  wrong_reset : {n : ℕ} → IsWrongReset t n → NetworkRefusal t refusal.reset_length n

-- the planner's own
pub data PlannerRefusal (n : Bytes) (search plan : List ℕ) : ℕ → ℕ → Type 0 where
  -- "10, count | planner: over 6 steering bits"
  over_6 : {net : Network} → read_network n ≡ ok net → max_steering_bits < length (steering_bits net.nodes)
      → PlannerRefusal n search plan refusal.steering_count (length (steering_bits net.nodes))
  -- "11, 0 | planner: no valid plan of at most 16 operations"
  none_valid : {net : Network} → read_network n ≡ ok net → ((other : Plan) → ValidPlan net other → max_operations < length other)
      → PlannerRefusal n search plan refusal.no_plan 0
  -- "12, 11664 | search space below 11,664 entries of 16 bits"
  short_search : length search < search_size → PlannerRefusal n search plan refusal.search_space search_size
  -- "13, bytes needed | buffer for plan .. too short"
  short_plan : {needed : ℕ} → length plan < needed → needed ≤ max_plan_bytes → PlannerRefusal n search plan refusal.buffer needed

-- the clock writer's own
pub data ClockRefusal (p : Bytes) (tms tdi : List ℕ) : ℕ → ℕ → Type 0 where
  -- "13, bytes needed | buffer for .. TMS or TDI too short": a byte for each clock, at most 64,080
  short_row : {clocks : List Clock} → clocks_of p ≡ ok clocks → (length tms < length clocks) ⊎ (length tdi < length clocks) → length clocks ≤ max_plan_bytes
      → ClockRefusal p tms tdi refusal.buffer (length clocks)

-- a plan text's refusals
pub data PlanTextRefusal (p : Bytes) : ℕ → ℕ → Type 0 where
  -- "14, line | plan: line form wrong, or line 17; place 0: text too long"
  plan_line : {n : ℕ} → IsLine p n → n ≤ suc max_operations → PlanTextRefusal p refusal.plan_form n
  plan_unended : behind_lines p ≤ suc max_operations → PlanTextRefusal p refusal.plan_form (behind_lines p)
  plan_too_long : max_plan_bytes < length p → PlanTextRefusal p refusal.plan_form 0

-- the marker's own
pub data MarkerRefusal (n p : Bytes) : ℕ → ℕ → Type 0 where
  -- "15, operation | count of bits is not the path length"
  not_path_length : {k : ℕ} → IsOperation p k → MarkerRefusal n p refusal.bit_count k
  -- "16, operation | configuration after it not valid"
  not_valid : {k : ℕ} → IsOperation p k → MarkerRefusal n p refusal.configuration k
  -- "17, target | not accessed, or not holding its bits; lowest target"
  not_done : {t : ℕ} → IsTargetNumber n t → MarkerRefusal n p refusal.target t
