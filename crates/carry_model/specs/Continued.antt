-- What document 02, Change 3, "Carry a setting into the next exercise", promises over texts; proofs/Requests.antt proves it.
-- Assumes nothing.
use Rattle.std.specs.Prelude.{◌≡◌, Bool, cond, not, ◌||◌, ◌↔◌, ℕ, ◌+◌, ◌≤◌, length}
use Rattle.std.specs.Prelude.{Some as some}
use mathlib.Core.List.{List, [], ◌∷◌, ◌++◌, map, Memᴰ}
use Prim.Native.String.{String}
use Rattle.model.specs.Limits.{max_operations}
use Rattle.model.specs.Result.{ok, refused}
use Rattle.model.specs.Text.{Bytes, bytes, fields, line_end, lines_of, same}
use Rattle.model.specs.Network.{Target, read, write, Network, at}
use Rattle.model.specs.Plan.{Plan, paths_from, Done, ValidPlan}
use Rattle.model.specs.NetworkText.{field, read_network}
use Rattle.model.specs.PlanText.{read_plan}
use Rattle.model.specs.Mark.{Pass, mark}
use Rattle.carry_model.specs.Restart.{restarted, SameWiring}
use Rattle.carry_model.specs.Carry.{left_by, carry}

-- ---- "After a pass": the lines are printed exactly where the mark passes; else it refuses as the mark does

pub record CarriedAsMarked (n p : Bytes) : Type 0 where
  pub passes : ((pass : Pass) × (mark n p ≡ ok pass)) ↔ ((held : Bytes) × (carry n p ≡ ok held))
  pub refuses : (number place : ℕ) → (mark n p ≡ refused number place) ↔ (carry n p ≡ refused number place)

abbrev pub CarryMarks : Type 0
CarryMarks = (n p : Bytes) → CarriedAsMarked n p

-- ---- the lines of a text, each told by its word

unfoldable pub lines_where : (Bytes → Bool) → List Bytes → List Bytes
lines_where f [] = []
lines_where f (l ∷ ls) = let rest = lines_where f ls in cond (f l) (l ∷ rest) rest

-- the text of these lines
unfoldable pub text_of_lines : List Bytes → Bytes
text_of_lines [] = []
text_of_lines (l ∷ ls) = l ++ line_end ∷ text_of_lines ls

abbrev pub opens_with : String → Bytes → Bool
opens_with word l = same (field (fields l) 0) (bytes word)

abbrev pub is_hold : Bytes → Bool
is_hold l = opens_with "hold" l

abbrev pub is_target_line : Bytes → Bool
is_target_line l = opens_with "write" l || opens_with "read" l

-- every other line: nodes and `out`
abbrev pub is_wiring : Bytes → Bool
is_wiring l = not (is_hold l || is_target_line l)

-- "The texts agree but for `hold` and targets."
abbrev pub Agree : Bytes → Bytes → Type 0
Agree n n' = lines_where is_wiring (lines_of n') ≡ lines_where is_wiring (lines_of n)

-- ---- "Used as the next start, it must be the configuration that was left, X for X."

-- the second text has the printed `hold` lines, and targets as it likes, in whatever order
pub record NextText (n held n' : Bytes) : Type 0 where
  pub agree : Agree n n'
  pub holds : (l : Bytes) → Memᴰ l (lines_of held) → Memᴰ l (lines_of n')

pub record StartsThere (net net' : Network) (plan : Plan) : Type 0 where
  pub wiring : SameWiring net net'
  pub start : net'.start ≡ left_by net plan

abbrev pub UsedAsStart : Type 0
UsedAsStart = (n p held n' : Bytes) (net net' : Network) (plan : Plan) → carry n p ≡ ok held → NextText n held n'
    → read_network n ≡ ok net → read_plan p ≡ ok plan → read_network n' ≡ ok net' → StartsThere net net' plan

-- the node lines and the `out` line of the first text, then the printed lines
abbrev pub next_text : Bytes → Bytes → Bytes
next_text n held = text_of_lines (lines_where is_wiring (lines_of n)) ++ held

-- this text is accepted: the same wiring, the configuration that was left, no targets yet
pub record NextAccepted (n held : Bytes) (net : Network) (plan : Plan) : Type 0 where
  pub next : NextText n held (next_text n held)
  pub accepted : read_network (next_text n held) ≡ ok (restarted net (left_by net plan) [])

abbrev pub StartAccepted : Type 0
StartAccepted = (n p held : Bytes) (net : Network) (plan : Plan) → carry n p ≡ ok held → read_network n ≡ ok net → read_plan p ≡ ok plan → NextAccepted n held net plan

-- and with target lines behind it, wherever these lines are accepted: in any text that agrees
abbrev pub TargetsAccepted : Type 0
TargetsAccepted = (n p held n'' : Bytes) (net net'' : Network) (plan : Plan) → carry n p ≡ ok held → read_network n ≡ ok net → read_plan p ≡ ok plan
    → Agree n n'' → read_network n'' ≡ ok net''
    → read_network (next_text n held ++ text_of_lines (lines_where is_target_line (lines_of n''))) ≡ ok (restarted net (left_by net plan) net''.targets)

-- ---- the joined plan: "by the rules of validity, with the limit of four and the ban on repeats set aside"

unfoldable pub reads_of : List Target → List Target
reads_of [] = []
reads_of (read s ∷ ts) = read s ∷ reads_of ts
reads_of (write s bs ∷ ts) = reads_of ts

-- "the second one's targets and the first one's reads", from the first one's start
abbrev pub both_asked : Network → Network → Network
both_asked net net' = restarted net net.start (net'.targets ++ reads_of net.targets)

pub record JoinedValid (net net' : Network) (plan plan' : Plan) : Type 0 where
  -- "the joined plan passes for the second one's targets and the first one's reads"
  pub both : ValidPlan (both_asked net net') (plan ++ plan')
  -- "a first write passes as well exactly when its bits are still held at the end"
  pub writes : (s : ℕ) (bs : List Bool) → Memᴰ (write s bs) net.targets
      → Done (paths_from net net.start (plan ++ plan')) (left_by net (plan ++ plan')) (write s bs) ↔ (at (left_by net (plan ++ plan')) s [] ≡ map some bs)

-- of networks: whatever the counts of operations
abbrev pub JoinedPlans : Type 0
JoinedPlans = (net net' : Network) (plan plan' : Plan) → StartsThere net net' plan → ValidPlan net plan → ValidPlan net' plan' → JoinedValid net net' plan plan'

-- of texts: "If a second plan passes from there and both together have at most 16 operations, .."
pub record PassInTurn (n p n' p' : Bytes) (net net' : Network) (plan plan' : Plan) : Type 0 where
  pub first : read_network n ≡ ok net
  pub first_plan_law : read_plan p ≡ ok plan
  pub first_passes : (pass : Pass) × (mark n p ≡ ok pass)
  pub agree : Agree n n'
  pub second : read_network n' ≡ ok net'
  pub second_plan_law : read_plan p' ≡ ok plan'
  pub from_there : net'.start ≡ left_by net plan
  pub second_passes : (pass : Pass) × (mark n' p' ≡ ok pass)
  pub at_most_16 : length plan + length plan' ≤ max_operations

pub record JoinedText (n p n' p' : Bytes) (net net' : Network) (plan plan' : Plan) : Type 0 where
  -- the two texts joined are the text of the joined plan
  pub reads : read_plan (p ++ p') ≡ ok (plan ++ plan')
  pub joined : JoinedValid net net' plan plan'
  -- so an accepted text that asks some of both ones' targets from the first start passes exactly when the first writes that it asks are still held
  pub marks : (n'' : Bytes) (net'' : Network) → read_network n'' ≡ ok net'' → Agree n n'' → net''.start ≡ net.start
      → ((t : Target) → Memᴰ t net''.targets → Memᴰ t (net'.targets ++ net.targets))
      → ((pass : Pass) × (mark n'' (p ++ p') ≡ ok pass))
      ↔ ((s : ℕ) (bs : List Bool) → Memᴰ (write s bs) net''.targets → Memᴰ (write s bs) net.targets → at (left_by net (plan ++ plan')) s [] ≡ map some bs)

abbrev pub JoinedTexts : Type 0
JoinedTexts = (n p n' p' : Bytes) (net net' : Network) (plan plan' : Plan) → PassInTurn n p n' p' net net' plan plan' → JoinedText n p n' p' net net' plan plan'
