-- A call for each line and one for the end answer as the call for the whole text, and leave the same buffer.
-- Assumes nothing.
use mathlib.Core.Path.{◌≡◌, refl, sym, ap, ◌∙◌}
use mathlib.Core.List.{List, [], ◌∷◌, ◌++◌, append_assoc}
use Prim.Native.Nat.{ℕ, suc, ◌+◌, ◌≤◌}
use native.Mathlib.Omega.{arith}
use lib.ListN.{length, take, drop, length-append}
use lib.Seq.{take_at, drop_at, drop-drop}
use Rattle.model.specs.Calls.{write_over}
use Rattle.model.specs.Limits.{max_plan_bytes}
use Rattle.model.specs.Plan.{Plan}
use Rattle.model.specs.PlanText.{write_plan}
use Rattle.model.specs.Result.{Result, ok, refused, and_then}
use Rattle.model.specs.Text.{Bytes, parts, ended, line_end}
use Rattle.model.proofs.LentBuffers.{only_first}
use Rattle.model.proofs.Lists.{not_ok}
use Rattle.model.proofs.PlanTexts.{parts_more}
use Rattle.recover_model.specs.Recover.{Follower, at_start, follow_line, if_followed, follow_lines, recover}
use Rattle.recover_model.specs.RecoverCalls.{Progress, progress_of, at_first, max_count, bytes_written, Step, step_line, LineAnswer, recover_line, recover_end, go_on, recover_lines, behind}
use Rattle.recover_model.specs.RecoverDemands.{AsWhole, LineByLine}
use Rattle.recover_model.proofs.LineSteps.{Kept, kept_start, LineFollowed, LineStep, offending, leads, line_step, rested_after, rested, rest_at}
use Rattle.recover_model.proofs.PlanSoFar.{so_far, so_far_counted, so_far_end}
use Rattle.recover_model.proofs.RecoverBuffers.{text_refused, text_given, line_buffer_written}
use Rattle.recover_model.proofs.StepDone.{step_done, stepped, line_refused, line_stepped}
use Rattle.recover_model.proofs.TextSteps.{ends_at, bytes_at_end, recovered_short, step_lines, length_of, Few, few_start, few_next, text_steps}

-- ---- with room for every plan, the result needs no buffer

pub lines_stepped : (ls : List Bytes) (p : Progress) (plan : List ℕ) → max_plan_bytes ≤ length plan → (recover_lines p plan ls).result ≡ step_lines p ls
unfolding recover_lines step_lines
lines_stepped [] p plan room = refl
lines_stepped (l ∷ ls) p plan room = go (step_line p l) refl (λ s. lines_stepped ls s.after (stepped p plan s).plan)
  where
    go : (r : Result Step) → step_line p l ≡ r → ((s : Step) → max_plan_bytes ≤ length (stepped p plan s).plan → (recover_lines s.after (stepped p plan s).plan ls).result ≡ step_lines s.after ls)
        → (go_on (recover_line p l plan) (λ q new. recover_lines q new ls)).result ≡ and_then r (λ s. step_lines s.after ls)
    go (refused a b) e later = rw (line_refused p l plan a b e)
    go (ok s) e later =
        let f = line_stepped p l plan s e (omega (arith, (step_done p l s e).short)) in
        let w = rw f at (line_buffer_written p s.after l plan (ap (λ (a : LineAnswer). a.result) f)) in
        rw f (later s (omega (arith, w.as_long)))

-- ---- with room for this plan, its text is written

-- what stands in the buffer
stands : (n : ℕ) (f : Follower) → Kept f → bytes_written (progress_of n f) ≡ length (so_far f)
stands n f k = omega (arith, so_far_counted f k.within k.blank)

-- more text behind what stands there
pub more_written : (old new orig : List ℕ) → take (length old) (write_over old orig) ++ write_over new (drop (length old) (write_over old orig)) ≡ write_over (old ++ new) orig
unfolding write_over
more_written old new orig =
    rw (take_at old (drop (length old) orig) (length old) refl, drop_at old (drop (length old) orig) (length old) refl, drop-drop (length new) (length old) orig, length-append old new)
    (sym (append_assoc old new (drop (length old + length new) orig)))

pub line_written : (n : ℕ) (f : Follower) (l : Bytes) (g : Follower) (text : Bytes) (orig : List ℕ) → Kept f → LineFollowed n f l g text → g.plan_bytes ≤ length orig
    → recover_line (progress_of n f) l (write_over (so_far f) orig) ≡ record { result = ok (progress_of (suc n) g); plan = write_over (so_far g) orig }
line_written n f l g text orig k r fits =
    let w = only_first (so_far f) orig (length (so_far f)) refl (omega (arith, so_far_counted f k.within k.blank, r.bytes_grow)) in
    line_stepped (progress_of n f) l (write_over (so_far f) orig) _ r.steps (omega (arith, w.as_long))
    ∙ ap (λ (x : List ℕ). record { result = ok (progress_of (suc n) g); plan = x })
    (ap (λ (b : ℕ). take b (write_over (so_far f) orig) ++ write_over text (drop b (write_over (so_far f) orig))) (stands n f k)
    ∙ more_written (so_far f) text orig ∙ ap (λ (x : Bytes). write_over x orig) (sym r.grows))

-- what lines that are followed to a plan leave
abbrev pub written_after : ℕ → Plan → List ℕ → LineAnswer
written_after n plan orig = record { result = ok (rested_after n plan); plan = write_over (write_plan plan) orig }

lines_written : (ls : List Bytes) (l : Bytes) (n : ℕ) (f : Follower) (plan : Plan) (orig : List ℕ) → Kept f → Few n (l ∷ ls) → follow_lines n f (l ∷ ls) ≡ ok plan
    → length (write_plan plan) ≤ length orig → recover_lines (progress_of n f) (write_over (so_far f) orig) (ended (l ∷ ls)) ≡ written_after (n + length (ended (l ∷ ls))) plan orig
unfolding recover_lines follow_lines
lines_written [] l n f plan orig k few e fits =
    let r = rest_at n f l plan e in
    let z : n + 0 ≡ n = omega arith in
    rw (z, rested n f k r.at_rest, so_far_end f r.at_rest, r.its_plan)
lines_written (m ∷ ls) l n f plan orig k few e fits = go (line_step n f l k (omega arith)) e (λ g x y q. lines_written ls m (suc n) g plan orig x y q fits)
  where
    go : LineStep n f l → if_followed (suc n) (follow_line f l) (λ g. follow_lines (suc n) g (m ∷ ls)) ≡ ok plan
        → ((g : Follower) → Kept g → Few (suc n) (m ∷ ls) → follow_lines (suc n) g (m ∷ ls) ≡ ok plan → recover_lines (progress_of (suc n) g) (write_over (so_far g) orig) (ended (m ∷ ls)) ≡ written_after (suc n + length (ended (m ∷ ls))) plan orig)
        → go_on (recover_line (progress_of n f) l (write_over (so_far f) orig)) (λ q new. recover_lines q new (ended (m ∷ ls))) ≡ written_after (n + suc (length (ended (m ∷ ls)))) plan orig
    go (offending q x) e later = absurd (not_ok (rw q at e))
    go (leads g text r) e later =
        let x = rw r.follows at e in
        let z : n + suc (length (ended (m ∷ ls))) ≡ suc n + length (ended (m ∷ ls)) = omega arith in
        let b = ends_at ls m (suc n) g plan r.kept x in
        rw (line_written n f l g text orig k r (omega (arith, b.bytes_grow, bytes_at_end g plan b)), z) (later g r.kept (few_next n f g l m ls r.follows few) x)

-- after the lines of a text that gives a plan, this plan stands at the front of the buffer, and the counts are the plan's
pub text_written : (t : Bytes) (plan : Plan) (orig : List ℕ) → length t ≤ max_count → recover t ≡ ok plan → length (write_plan plan) ≤ length orig
    → recover_lines at_first orig (ended (parts line_end t)) ≡ written_after (length (ended (parts line_end t))) plan orig
unfolding recover write_over write_plan
text_written t plan orig few e fits =
    let q = parts_more line_end t in
    let z : 0 + length (ended (q.0 ∷ q.1)) ≡ length (ended (q.0 ∷ q.1)) = omega arith in
    rw (q.2, ← z) (lines_written q.1 q.0 0 at_start plan orig kept_start (rw q.2 at (few_start t few)) (rw q.2 at e) fits)

-- ---- the whole text

pub line_by_line : LineByLine
line_by_line t plan few room = go (recover t) refl
  where
    in_turn : and_then (recover_lines at_first plan (ended (parts line_end t))).result (λ p. recover_end p (behind (parts line_end t))) ≡ length_of (recover t)
    in_turn = rw (lines_stepped (ended (parts line_end t)) at_first plan room) (text_steps t few)

    go : (r : Result Plan) → recover t ≡ r → AsWhole t plan
    go (refused a b) e =
        let x = text_refused t plan a b e in
        record { result = in_turn ∙ rw (e, x); plan_left = λ count f. absurd (not_ok (rw x at f)) }
    go (ok p) e =
        let fits : length (write_plan p) ≤ length plan = omega (arith, recovered_short t p e) in
        let x = text_given t plan p e fits in
        record { result = in_turn ∙ rw (e, x); plan_left = λ count f. rw (text_written t p plan few e fits, x) }
