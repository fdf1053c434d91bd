-- Demand 1 for the calls that bring clocks back: what the plan buffer holds after each, and that what a call leaves can go on.
-- Assumes nothing.
use mathlib.Core.Path.{◌≡◌, refl, sym, ap, ◌∙◌}
use mathlib.Core.Bool.{true}
use mathlib.Core.Logic.{◌⊎◌, inl, inr}
use mathlib.Core.List.{List, ◌++◌}
use Prim.Native.Nat.{ℕ, ◌+◌, ◌-◌, ◌≤◌, ◌<◌}
use native.Mathlib.Omega.{arith}
use lib.ListN.{length, take, drop, get_or, length-append, length-drop, get_or-append}
use lib.Seq.{length-take-le, get_or-take, get_or-drop, get_or-append-add}
use borrow.Author.Tests.{le-ltb}
use Rattle.model.specs.Calls.{write_over, if_room, text_of}
use Rattle.model.specs.Plan.{Plan}
use Rattle.model.specs.PlanText.{write_plan}
use Rattle.model.specs.Result.{Result, ok, refused, and_then}
use Rattle.model.specs.Text.{Bytes}
use Rattle.model.proofs.CallCases.{room_fits}
use Rattle.model.proofs.LentBuffers.{only_first, kept_if_refused, written_if_given}
use Rattle.model.proofs.Lists.{not_ok, ok_is, handed}
use Rattle.recover_model.specs.Recover.{recover}
use Rattle.recover_model.specs.RecoverCalls.{Progress, can_go_on, bytes_written, LineAnswer, recover_line, recovered, recover_text}
use Rattle.recover_model.specs.RecoverDemands.{RecoverBufferKept, LineBufferKept, RecoverBufferWritten, OnlyBetween, LineBufferWritten, LeftGoesOn, FirstGoesOn}
use Rattle.recover_model.proofs.StepDone.{step_done, LineCase, refuses, steps, line_case}

-- ---- the call for a whole text

module _ (t : Bytes) (orig : List ℕ) where
  pub text_refused : (number place : ℕ) → recover t ≡ refused number place → recover_text t orig ≡ record { result = refused number place; plan = orig }
  unfolding recover_text
  text_refused number place e = rw e

  pub text_given : (plan : Plan) → recover t ≡ ok plan → length (write_plan plan) ≤ length orig
      → recover_text t orig ≡ record { result = ok (length (write_plan plan)); plan = write_over (write_plan plan) orig }
  unfolding recover_text
  text_given plan e fits = rw (e, le-ltb (length orig) (length (write_plan plan)) fits)

pub recover_buffer_kept : RecoverBufferKept
unfolding recover_text
recover_buffer_kept t plan number place e = kept_if_refused (recovered t (length plan)) plan number place e

pub recover_buffer_written : RecoverBufferWritten
unfolding recover_text
recover_buffer_written t plan count e = written_if_given (recovered t (length plan)) plan count fits e
  where
    fits : (text : List ℕ) → recovered t (length plan) ≡ ok text → length text ≤ length plan
    fits text f = let h = handed (and_then (recover t) text_of) (if_room (length plan)) text f in room_fits (length plan) h.value text h.then

-- ---- the call for a line

abbrev line_result : LineAnswer → Result Progress
line_result a = a.result

abbrev line_plan : LineAnswer → List ℕ
line_plan a = a.plan

pub line_buffer_kept : LineBufferKept
line_buffer_kept p l plan number place e = go (line_case p l plan)
  where
    go : LineCase p l plan → (recover_line p l plan).plan ≡ plan
    go (refuses a b f) = ap line_plan f
    go (steps s is fits f) = absurd (not_ok (sym e ∙ ap line_result f))

-- a text written into a buffer from a place on
written_between : (first : ℕ) (text old : List ℕ) → first + length text ≤ length old → OnlyBetween first (first + length text) old (take first old ++ write_over text (drop first old))
written_between first text old fits =
    let front : length (take first old) ≡ first = length-take-le first old (omega arith) in
    let back : length (drop first old) ≡ length old - first = length-drop first old in
    let w = only_first text (drop first old) (length text) refl (omega arith) in
    record {
      in_order = omega arith;
      enough = fits;
      as_long = length-append (take first old) (write_over text (drop first old)) ∙ omega (arith, w.as_long);
      others = λ i h. go front w.others i h;
    }
  where
    new : List ℕ
    new = write_over text (drop first old)

    go : length (take first old) ≡ first → ((i : ℕ) → length text ≤ i → get_or new i 0 ≡ get_or (drop first old) i 0) → (i : ℕ) → (i < first) ⊎ (first + length text ≤ i)
        → get_or (take first old ++ new) i 0 ≡ get_or old i 0
    go front same i (inl l) = get_or-append (take first old) new 0 i (omega arith) ∙ get_or-take first old i 0 l
    go front same i (inr l) =
        let a : i ≡ length (take first old) + (i - first) = omega arith in
        let b : first + (i - first) ≡ i = omega arith in
        ap (λ (k : ℕ). get_or (take first old ++ new) k 0) a
        ∙ get_or-append-add (take first old) new (i - first) 0 ∙ same (i - first) (omega arith) ∙ get_or-drop first old (i - first) 0 ∙ ap (λ (k : ℕ). get_or old k 0) b

pub line_buffer_written : LineBufferWritten
line_buffer_written p q l plan e = go (line_case p l plan)
  where
    go : LineCase p l plan → OnlyBetween (bytes_written p) (bytes_written q) plan (recover_line p l plan).plan
    go (refuses a b f) = absurd (not_ok (sym (ap line_result f) ∙ e))
    go (steps s is fits f) =
        let z : s.after ≡ q = ok_is (sym (ap line_result f) ∙ e) in
        let d = step_done p l s is in
        rw (ap line_plan f, ← z, ← d.stands) (written_between (bytes_written p) s.text plan (omega (arith, d.stands)))

-- ---- the calls in turn

pub left_goes_on : LeftGoesOn
left_goes_on p q l plan e few = go (line_case p l plan)
  where
    go : LineCase p l plan → can_go_on q ≡ true
    go (refuses a b f) = absurd (not_ok (sym (ap line_result f) ∙ e))
    go (steps s is fits f) = let z : s.after ≡ q = ok_is (sym (ap line_result f) ∙ e) in rw (← z) ((step_done p l s is).goes_on (rw z few))

pub first_goes_on : FirstGoesOn
first_goes_on = refl
