-- What the carry program prints, by the answer of the call: there is room for every configuration.
-- Assumes nothing.
use mathlib.Core.Path.{◌≡◌, refl, sym, ap, ◌∙◌}
use mathlib.Core.Bool.{false}
use mathlib.Core.List.{List, [], ◌∷◌}
use Prim.Native.Nat.{ℕ}
use native.Mathlib.Omega.{arith}
use lib.Dec.{ltb}
use lib.ListN.{length}
use borrow.Author.Tests.{le-ltb}
use Rattle.std.specs.Prelude.{Result as Answer, Ok, Err}
use Rattle.model.specs.Answers.{number_of, count_of as counted_of}
use Rattle.model.specs.Calls.{written, count_of, if_room}
use Rattle.model.specs.Printed.{number, line, printed}
use Rattle.model.specs.Result.{Result, ok, refused, and_then}
use Rattle.model.specs.Text.{Bytes}
use Rattle.model.specs.declared.refusal.Refusal.{Refusal}
use Rattle.carry_model.specs.Carry.{carry, carry_program, in_room, carry_text}
use Rattle.carry_model.proofs.Carried.{carried_bytes}
use Rattle.plan_text.specs.Writing.{write_at}
use Rattle.carrier.specs.Call.{CarryReturned}
use Rattle.program_lines.specs.Puts.{Puts}
use Rattle.program_text.proofs.CallShown.{call_written, call_refused}

module _ (n p : Bytes) (out : List ℕ) (room : length out ≡ 5280) (out' : List ℕ) where
  -- the call's result
  abbrev result : Result Bytes
  result = in_room (carry n p) (length out)

  shows : carry_program n p ≡ printed (λ text. text) result
  unfolding carry_program
  shows = go (carry n p) refl
    where
      go : (r : Result Bytes) → carry n p ≡ r → printed (λ text. text) r ≡ printed (λ text. text) (and_then r (if_room (length out)))
      go (ok held) e = let b : ltb (length out) (length held) ≡ false = le-ltb (length out) (length held) (omega (arith, carried_bytes n p held e)) in rw b
      go (refused number place) e = refl

  answers : (a : Answer ℕ Refusal) → CarryReturned n p out a out' → counted_of a ≡ count_of result
  unfolding carry_text
  answers a is = is.result

  leaves : (a : Answer ℕ Refusal) → CarryReturned n p out a out' → out' ≡ written result out
  unfolding carry_text
  leaves a is = is.left

  pub carry_written : (count : ℕ) → CarryReturned n p out (Ok count) out' → (count ≡ length (carry_program n p)) × (out' ≡ write_at 0 (carry_program n p) out)
  carry_written count is = call_written (carry_program n p) out result shows out' (leaves (Ok count) is) count (answers (Ok count) is)

  pub carry_refused : (x : Refusal) → CarryReturned n p out (Err x) out' → {r : ℕ} {new : List ℕ} → Puts 0 (line "fail" (number (number_of x.kind) ∷ number x.place ∷ [])) out' r new
      → (r ≡ length (carry_program n p)) × (new ≡ write_at 0 (carry_program n p) out)
  carry_refused x is w = call_refused (carry_program n p) out result shows out' (leaves (Err x) is) (number_of x.kind) x.place (answers (Err x) is) w
