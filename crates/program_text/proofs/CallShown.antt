-- What a program prints that prints what a call writes, by the call's answer.
-- Assumes nothing.
use mathlib.Core.Path.{◌≡◌, sym, ◌∙◌}
use mathlib.Core.List.{List, [], ◌∷◌}
use Prim.Native.Nat.{ℕ}
use lib.ListN.{length}
use Rattle.model.specs.Result.{Result, ok, refused}
use Rattle.model.specs.Text.{Bytes}
use Rattle.model.specs.Calls.{written, count_of}
use Rattle.model.specs.Printed.{number, line, printed}
use Rattle.model.proofs.Lists.{not_ok, ok_is, refusal_number, refusal_place}
use Rattle.plan_text.specs.Writing.{write_at}
use Rattle.plan_text.proofs.Writing.{over_is}
use Rattle.program_lines.specs.Puts.{Puts}
use Rattle.program_text.proofs.Front.{at_front}

pub call_written : (shown : Bytes) (out : List ℕ) (result : Result (List ℕ)) → shown ≡ printed (λ text. text) result → (out' : List ℕ) → out' ≡ written result out
    → (count : ℕ) → ok count ≡ count_of result → (count ≡ length shown) × (out' ≡ write_at 0 shown out)
call_written shown out (ok text) s out' l count c = rw s (ok_is c, l ∙ over_is text out)
call_written shown out (refused number place) s out' l count c = absurd (not_ok (sym c))

pub call_refused : (shown : Bytes) (out : List ℕ) (result : Result (List ℕ)) → shown ≡ printed (λ text. text) result → (out' : List ℕ) → out' ≡ written result out
    → (k place : ℕ) → refused k place ≡ count_of result → {r : ℕ} {new : List ℕ} → Puts 0 (line "fail" (number k ∷ number place ∷ [])) out' r new
    → (r ≡ length shown) × (new ≡ write_at 0 shown out)
call_refused shown out (ok text) s out' l k place c p = absurd (not_ok c)
call_refused shown out (refused number at) s out' l k place c p = at_front _ _ (s ∙ rw (refusal_number c, refusal_place c)) (rw l at p)
