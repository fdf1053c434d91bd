-- What the marker answers, and its work on an accepted network.
-- Assumes nothing.
use Rattle.std.specs.Prelude.{◌≡◌, ℕ}
use Rattle.std.specs.Prelude.{Result as Answer, Ok, Err}
use Rattle.model.specs.declared.refusal.Refusal.{Refusal}
use Rattle.model.specs.Result.{Result, ok, and_then}
use Rattle.model.specs.Text.{Bytes}
use Rattle.model.specs.PlanText.{read_plan}
use Rattle.model.specs.Mark.{Pass as ModelPass, mark_plan, mark}
use Rattle.network_reader.specs.declared.reader.Network.{Network}
use Rattle.network_reader.specs.Reads.{recorded_network, IsReading}
use Rattle.plan_text.specs.Form.{plan_form}
use Rattle.marker_targets.specs.declared.Pass.{Pass}
use Rattle.marker_targets.specs.Answers.{mark_of, RowsFor}
use Rattle.marker.specs.declared.Marked.{Marked}

-- ---- the whole answer

-- `mark` returned r for two texts
pub record MarkReturned (n p : Bytes) (r : Answer Pass Refusal) : Type 0 where
  pub result : mark_of r ≡ mark n p
  pub rows : RowsFor r

-- the pass in an answer that tells what it left
abbrev pub pass_left : Answer Marked Refusal → Answer Pass Refusal
pass_left (Ok m) = Ok m.pass
pass_left (Err r) = Err r

-- ---- the texts read

-- a record that is the reading of an accepted network text, and a plan text of good form with this many lines
pub record Markable (r : Network) (p : Bytes) (lines : ℕ) : Type 0 where
  pub text : Bytes
  pub reading : IsReading text (Ok r)
  pub form : plan_form p ≡ ok lines

-- the model's mark of a plan text on a record's network
abbrev pub plan_mark : Network → Bytes → Result ModelPass
plan_mark w p = and_then (read_plan p) (mark_plan (recorded_network w))

-- the answer for a plan text on a record's network
pub record OperationsMarked (w : Network) (p : Bytes) (r : Answer Pass Refusal) : Type 0 where
  pub result : mark_of r ≡ plan_mark w p
  pub rows : RowsFor r
