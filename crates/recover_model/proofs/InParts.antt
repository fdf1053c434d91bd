-- However a text is cut into parts, the lines that end in each part and the rest that is held lead to the same answer.
-- Assumes nothing.
use mathlib.Core.Path.{◌≡◌, refl, sym, ap, ◌∙◌}
use mathlib.Core.List.{List, [], ◌∷◌, ◌++◌, append_assoc, append-nil}
use Prim.Native.Nat.{ℕ, ◌≤◌, ◌<◌}
use native.Mathlib.Omega.{arith}
use lib.ListN.{length, take, length-append}
use Rattle.model.specs.Limits.{max_plan_bytes}
use Rattle.model.specs.PlanText.{write_plan}
use Rattle.model.specs.Plan.{Plan}
use Rattle.model.specs.Printed.{printed}
use Rattle.model.specs.Result.{Result, ok, refused, and_then}
use Rattle.model.specs.Text.{Bytes, parts, ended, line_end}
use Rattle.model.proofs.CallCases.{row_taken}
use Rattle.model.proofs.FieldLines.{parts_free}
use Rattle.model.proofs.Lists.{ok_is}
use Rattle.model.proofs.PlanTexts.{Free}
use Rattle.recover_model.specs.Recover.{recover, recover_program}
use Rattle.recover_model.specs.RecoverCalls.{Progress, at_first, max_count, recover_text, recover_lines, Recovery, started, recover_part, recover_parts, recovery_end}
use Rattle.recover_model.specs.RecoverDemands.{joined_parts, InParts, HeldShort}
use Rattle.recover_model.specs.ClockText.{max_line_bytes}
use Rattle.recover_model.proofs.LineByLine.{text_written, line_by_line}
use Rattle.recover_model.proofs.RecoverBuffers.{text_refused, text_given, first_goes_on}
use Rattle.recover_model.proofs.TextSteps.{recovered_short}
use Rattle.recover_model.proofs.OnePart.{end_of, Holding, part_done, part_short}

-- ---- parts in turn

end_of_rest : (r : Recovery) → Free line_end r.rest → end_of r.answer (parts line_end (r.rest ++ [])) ≡ recovery_end r
unfolding recovery_end recover_lines
end_of_rest r f = rw (append-nil r.rest, parts_free line_end r.rest f) (go r.answer.result refl)
  where
    go : (x : Result Progress) → r.answer.result ≡ x → end_of r.answer (r.rest ∷ []) ≡ recovery_end r
    go (ok p) e = rw e
    go (refused number place) e = rw e

pub parts_end : (cut : List Bytes) (r : Recovery) → Holding r (length (joined_parts cut)) → recovery_end (recover_parts r cut) ≡ end_of r.answer (parts line_end (r.rest ++ joined_parts cut))
unfolding recover_parts
parts_end [] r h = sym (end_of_rest r h.no_end)
parts_end (part ∷ more) r h =
    let d = part_done r.answer (r.rest ++ part) (joined_parts more)
    (λ p e. let k = h.ready p e in record { goes_on = k.goes_on; few = omega (arith, k.few, length-append r.rest part, length-append part (joined_parts more)) }) in
    parts_end more (recover_part r.answer (r.rest ++ part)) d.holding
    ∙ d.same_end
    ∙ ap (λ (t : Bytes). end_of r.answer (parts line_end t)) (append_assoc r.rest part (joined_parts more))

pub parts_short : (cut : List Bytes) (r : Recovery) → length r.rest < max_line_bytes → length (recover_parts r cut).rest < max_line_bytes
unfolding recover_parts
parts_short [] r h = h
parts_short (part ∷ more) r h = parts_short more (recover_part r.answer (r.rest ++ part)) (part_short r.answer (r.rest ++ part))

pub held_short : HeldShort
held_short cut orig = parts_short cut (started orig) (omega arith)

-- ---- the whole text

-- what is given back after the calls in turn is what the whole text gives back
pub turns_end : (t : Bytes) (orig : List ℕ) → length t ≤ max_count → max_plan_bytes ≤ length orig
    → end_of (started orig).answer (parts line_end t) ≡ and_then (recover t) (λ plan. ok (write_plan plan))
unfolding recovery_end
turns_end t orig few room = rw (line_by_line t orig few room).result (go (recover t) refl)
  where
    go : (r : Result Plan) → recover t ≡ r
        → and_then (recover_text t orig).result (λ count. ok (take count (recover_lines at_first orig (ended (parts line_end t))).plan)) ≡ and_then r (λ plan. ok (write_plan plan))
    go (refused number place) e = rw (text_refused t orig number place e)
    go (ok plan) e =
        let fits : length (write_plan plan) ≤ length orig = omega (arith, recovered_short t plan e) in
        rw (text_given t orig plan e fits, text_written t plan orig few e fits, row_taken (write_plan plan) orig (length (write_plan plan)) refl)

pub in_parts : InParts
unfolding recover_program
in_parts cut orig few room =
    let h : Holding (started orig) (length (joined_parts cut)) = record { no_end = tt; ready = λ p e. rw (← (ok_is e)) (record { goes_on = first_goes_on; few = omega arith }) } in
    ap (printed (λ text. text)) (parts_end cut (started orig) h ∙ turns_end (joined_parts cut) orig (omega arith) room) ∙ go (recover (joined_parts cut))
  where
    go : (r : Result Plan) → printed (λ text. text) (and_then r (λ plan. ok (write_plan plan))) ≡ printed write_plan r
    go (ok plan) = refl
    go (refused number place) = refl
