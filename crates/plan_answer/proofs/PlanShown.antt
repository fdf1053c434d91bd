-- What the plan program prints, by the answer of the planner's call.
-- Assumes nothing.
use mathlib.Core.Path.{◌≡◌, sym, ap, ◌∙◌}
use mathlib.Core.List.{List, [], ◌∷◌}
use Prim.Native.Nat.{ℕ}
use lib.ListN.{length}
use Rattle.model.specs.Result.{Result}
use Rattle.model.specs.Text.{Bytes}
use Rattle.std.specs.Prelude.{Result as Answer, Ok, Err}
use Rattle.model.specs.Answers.{number_of, count_of}
use Rattle.model.specs.declared.refusal.Refusal.{Refusal}
use Rattle.model.specs.Calls.{written, count_of as length_of, search_entries, searchable, planned, make_plan}
use Rattle.model.specs.Printed.{number, line, printed, plan_program}
use Rattle.plan_text.specs.Writing.{write_at}
use Rattle.planner.specs.Call.{MadePlan}
use Rattle.program_lines.specs.Puts.{Puts}
use Rattle.program_text.proofs.CallShown.{call_written, call_refused}

module _ (n : Bytes) (search out : List ℕ) (searched : length search ≡ 11664) (room : length out ≡ 64080)
    (a : Answer ℕ Refusal) (search' out' : List ℕ) (made : MadePlan n search out a search' out') where
  -- the call's result
  abbrev result : Result (List ℕ)
  result = planned (searchable n (length search)) (length out)

  shows : plan_program n ≡ printed (λ text. text) result
  unfolding plan_program search_entries
  shows = rw (searched, room)

  answers : count_of a ≡ length_of result
  unfolding make_plan
  answers = made.result

  leaves : out' ≡ written result out
  unfolding make_plan
  leaves = made.plan_left

  pub plan_written : (count : ℕ) → a ≡ Ok count → (count ≡ length (plan_program n)) × (out' ≡ write_at 0 (plan_program n) out)
  plan_written count e = call_written (plan_program n) out result shows out' leaves count (ap count_of (sym e) ∙ answers)

  pub plan_refused : (r : Refusal) → a ≡ Err r → {end : ℕ} {new : List ℕ} → Puts 0 (line "fail" (number (number_of r.kind) ∷ number r.place ∷ [])) out' end new
      → (end ≡ length (plan_program n)) × (new ≡ write_at 0 (plan_program n) out)
  plan_refused r e p = call_refused (plan_program n) out result shows out' leaves (number_of r.kind) r.place (ap count_of (sym e) ∙ answers) p
