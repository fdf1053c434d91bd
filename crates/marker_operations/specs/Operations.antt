-- The operations of a plan in turn.
-- Assumes nothing.
use Rattle.std.specs.Prelude.{◌≡◌, Bool, cond, eqb, List, [], map, ℕ, ◌<◌, length, get_or, take}
use Rattle.std.specs.Prelude.{Option, None as none, Some as some, Result as Answer, Ok, Err}
use Rattle.model.specs.Refusals as refusal
use Rattle.model.specs.Result.{Result, ok, refused}
use Rattle.model.specs.Answers.{number_of, answer}
use Rattle.model.specs.declared.refusal.Kind.TheVariants.{Configuration}
use Rattle.model.specs.declared.refusal.Refusal.{Refusal}
use Rattle.model.specs.Text.{Bytes}
use Rattle.model.specs.Network.{Network, Config}
use Rattle.model.specs.Path.{ScanPath, Walk, path, stop, walk, path_length, place, csu}
use Rattle.model.specs.Plan.{Plan}
use Rattle.model.specs.PlanText.{read_plan}
use Rattle.model.specs.Planner.{or_next}
use Rattle.model.specs.Mark.{Run, first_on, or_later, run_from}
use Rattle.network_words.specs.Words.{byte_bit}
use Rattle.network_path.specs.declared.walk.PathSize.{PathSize}
use Rattle.network_path.specs.Layout.{config_of, scan_path}
use Rattle.network_path.specs.Answers.{ConfigSized}
use Rattle.network_path.specs.Stored.{Stored, PathFound}
use Rattle.network_draft.specs.declared.store.Summary.{Summary}
use Rattle.network_draft.specs.declared.store.Target.{Target}
use Rattle.network_draft.specs.Numbers.{no_target, stored_target}
use Rattle.network_draft.specs.Represents.{InLimits}
use Rattle.marker_operations.specs.declared.Met.{Met}

-- ---- first operations

-- an entry for each of 4 targets
abbrev pub slots : ℕ
slots = 4

-- an entry as the operation and the place
abbrev pub access_of : Option Met → Option (ℕ × ℕ)
access_of none = none
access_of (some m) = some (m.operation, m.place)

-- the first operation of target i, and its place there
abbrev pub access_at : List (Option Met) → ℕ → Option (ℕ × ℕ)
access_at f i = access_of (get_or f i none)

-- the segment of target i
abbrev pub segment_at : List Target → ℕ → ℕ
segment_at ts i = (get_or ts i (stored_target no_target)).segment

-- for each target the first operation on whose path it was, after operations with these paths, and its place
abbrev pub Reached : Summary → List (Option Met) → List ScanPath → Type 0
Reached t f ps = (i : ℕ) → i < t.target_count → access_at f i ≡ first_on 1 ps (segment_at t.targets i)

-- a target's first operation after operation k with the path p: one that was on a path before keeps it
abbrev pub access_after : ScanPath → ℕ → ℕ → Option (ℕ × ℕ) → Option (ℕ × ℕ)
access_after p s k old = or_next old (or_later k (place p s) none)

-- these targets are noted
pub record Noted (p : ScanPath) (ts : List Target) (k : ℕ) (old new : List (Option Met)) : Type 0 where
  pub each : (i : ℕ) → i < length ts → access_at new i ≡ access_after p (segment_at ts i) k (access_at old i)
  pub size : length new ≡ slots

-- ---- one operation

-- what the operations change: the words of the configuration, and the targets' first operations
pub record Marking : Type 0 where
  pub bits : List ℕ
  pub known : List ℕ
  pub met : List (Option Met)

abbrev pub marking : List ℕ → List ℕ → List (Option Met) → Marking
marking bits known met = record { bits = bits; known = known; met = met }

-- what one operation changes: also the segments of the path
pub record State : Type 0 where
  pub way : List ℕ
  pub marking : Marking

abbrev pub state : List ℕ → List ℕ → List ℕ → List (Option Met) → State
state way bits known met = record { way = way; marking = marking bits known met }

-- the configuration that the words hold
abbrev pub config_at : List ℕ → Summary → Marking → Config
config_at ns t m = config_of ns m.bits m.known t.count

-- the path of n segments
abbrev pub path_at : List ℕ → ℕ → State → ScanPath
path_at ns n s = scan_path ns (take n s.way)

-- the arrays hold the network and a valid configuration, with its path of this size
pub record OnPath (net : Network) (ns : List ℕ) (t : Summary) (size : PathSize) (s : State) : Type 0 where
  pub stored : Stored net ns t.count t.out
  pub found : PathFound net (config_at ns t s.marking) ns s.way size.segments size.bits
  pub in_limits : InLimits t
  pub sized : ConfigSized s.marking.bits s.marking.known
  pub slots_law : length s.marking.met ≡ slots

abbrev pub OnSomePath : List ℕ → Summary → PathSize → State → Type 0
OnSomePath ns t size s = (net : Network) × OnPath net ns t size s

-- the path after operation k, by the walk
abbrev pub path_after : ℕ → Walk → Result ScanPath
path_after k (path p) = ok p
path_after k (stop m) = refused refusal.configuration k

-- operation k with the path p in the model: the path after it
abbrev pub operated : Network → ScanPath → Config → List Bool → ℕ → Result ScanPath
operated net p c bs k = cond (eqb (length bs) (path_length p)) (path_after k (walk net (csu p bs c))) (refused refusal.bit_count k)

-- operation k with the path p loaded: its targets are noted, and the words hold the configuration after it
pub record Loaded (ns : List ℕ) (t : Summary) (p : ScanPath) (scan : Bytes) (k : ℕ) (old new : Marking) : Type 0 where
  pub as_long : length scan ≡ path_length p
  pub after : config_at ns t new ≡ csu p (map byte_bit scan) (config_at ns t old)
  pub noted : Noted p (take t.target_count t.targets) k old.met new.met

-- what an answer leaves: the operation loaded too where the configuration after it is not valid
abbrev pub LeftBy : Network → List ℕ → Summary → ScanPath → Bytes → ℕ → Marking → Answer PathSize Refusal → State → Type 0
LeftBy net ns t p scan k old (Ok size) new = Loaded ns t p scan k old new.marking × OnPath net ns t size new
LeftBy net ns t p scan k old (Err r) new = r.kind ≡ Configuration → Loaded ns t p scan k old new.marking × ((m : ℕ) × (walk net (config_at ns t new.marking) ≡ stop m))

-- what an answer says of the operation in the network
pub record OperatedAs (net : Network) (ns : List ℕ) (t : Summary) (p : ScanPath) (scan : Bytes) (k : ℕ) (old : Marking) (r : Answer PathSize Refusal) (new : State) : Type 0 where
  pub tells : answer (λ size. path_at ns size.segments new) r ≡ operated net p (config_at ns t old) (map byte_bit scan) k
  pub leaves : LeftBy net ns t p scan k old r new

abbrev pub Operates : List ℕ → Summary → Bytes → ℕ → PathSize → State → Answer PathSize Refusal → State → Type 0
Operates ns t scan k size old r new = (net : Network) → OnPath net ns t size old → OperatedAs net ns t (path_at ns size.segments old) scan k old.marking r new

-- ---- all operations

-- what an answer says of the model's run
abbrev pub RanAs : List ℕ → Summary → Answer Unit Refusal → Marking → Result Run → Type 0
RanAs ns t (Ok u) m a = (run : Run) × (a ≡ ok run) × (config_at ns t m ≡ run.last) × Reached t m.met run.paths × ConfigSized m.bits m.known
RanAs ns t (Err r) m a = a ≡ refused (number_of r.kind) r.place

abbrev pub RunsFrom : List ℕ → Summary → Bytes → PathSize → State → Answer Unit Refusal → State → Type 0
RunsFrom ns t text size old r new =
    (net : Network) (plan : Plan) → read_plan text ≡ ok plan → OnPath net ns t size old
    → RanAs ns t r new.marking (run_from net 1 (path_at ns size.segments old) (config_at ns t old.marking) plan)

-- ---- from the start

-- the arrays hold the network and its start, and no target was on a path
pub record HoldsStart (net : Network) (ns : List ℕ) (t : Summary) (m : Marking) : Type 0 where
  pub stored : Stored net ns t.count t.out
  pub start : config_at ns t m ≡ net.start
  pub in_limits : InLimits t
  pub sized : ConfigSized m.bits m.known
  pub slots_law : length m.met ≡ slots
  pub reached : Reached t m.met []

abbrev pub Startable : List ℕ → Summary → Marking → Type 0
Startable ns t m = (net : Network) × HoldsStart net ns t m

abbrev pub from_start : Network → Plan → Walk → Result Run
from_start net plan (path p) = run_from net 1 p net.start plan
from_start net plan (stop m) = refused refusal.start m

abbrev pub Runs : List ℕ → Summary → Bytes → Marking → Answer Unit Refusal → Marking → Type 0
Runs ns t text old r new =
    (net : Network) (plan : Plan) → read_plan text ≡ ok plan → HoldsStart net ns t old → RanAs ns t r new (from_start net plan (walk net net.start))
