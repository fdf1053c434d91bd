-- A line played into a buffer with room for every plan.
-- Assumes nothing.
use mathlib.Core.Path.{◌≡◌}
use Prim.Native.Nat.{ℕ, ◌≤◌}
use native.Mathlib.Omega.{arith}
use lib.ListN.{length}
use Rattle.std.specs.Prelude.{Ok, Err}
use Rattle.model.specs.Answers.{number_of}
use Rattle.model.specs.Limits.{max_plan_bytes}
use Rattle.model.specs.Result.{ok, refused}
use Rattle.model.specs.Text.{Bytes}
use Rattle.model.specs.declared.refusal.Refusal.{Refusal}
use Rattle.recover_model.specs.RecoverCalls.{Progress, bytes_written, step_line}
use Rattle.plan_text.specs.Writing.{write_at}
use Rattle.clock_follower.specs.declared.Progress.{Progress as Kept}
use Rattle.clock_follower.specs.Counts.{progress_for}
use Rattle.recover_line.specs.Answers.{progress_after, text_of_line}
use Rattle.recover_line.proofs.OneLine.{call_refused, bytes_short, call_written}
use Rattle.recoverer.specs.Parts.{PlayedLine}

module _ (p : Progress) (l plan : Bytes) where
  pub play_refused : (r : Refusal) → refused (number_of r.kind) r.place ≡ progress_after (step_line p l) → (plan' : Bytes) → PlayedLine p l plan (Err r) plan'
  play_refused r e plan' = record { answers = (call_refused p l plan (number_of r.kind) r.place e).0; left = tt }

  pub play_written : (q : Kept) → ok (progress_for q) ≡ progress_after (step_line p l) → max_plan_bytes ≤ length plan → (at : ℕ) → at ≡ bytes_written p
      → (plan' : Bytes) → plan' ≡ write_at at (text_of_line p.state l) plan → PlayedLine p l plan (Ok q) plan'
  play_written q e room at place plan' w =
      let r = call_written p l plan (progress_for q) e (omega (arith, bytes_short p l plan (progress_for q) e)) at place plan' w in
      record { answers = r.0; left = r.1 }
