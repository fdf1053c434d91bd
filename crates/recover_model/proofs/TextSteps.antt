-- A text line by line without a buffer: the calls in turn, and one for the end, answer as the model does for the whole text.
-- Assumes nothing.
use mathlib.Core.Path.{◌≡◌, refl, sym, ap, ◌∙◌}
use mathlib.Core.Bool.{Bool, true, false, cond, not}
use Rattle.std.specs.Prelude.{Some as some}
use mathlib.Core.List.{List, [], ◌∷◌}
use Prim.Native.Nat.{ℕ, suc, ◌+◌, ◌≤◌, ◌<◌}
use native.Mathlib.Omega.{arith}
use lib.ListN.{length, length-append}
use Rattle.model.specs.Calls.{count_of, text_of}
use Rattle.model.specs.Limits.{max_plan_bytes}
use Rattle.model.specs.Plan.{Plan}
use Rattle.model.specs.PlanText.{write_plan}
use Rattle.model.specs.Refusals as refusal
use Rattle.model.specs.Result.{Result, ok, refused, refuse_if, and_then}
use Rattle.model.specs.Tap.{idle, is_in}
use Rattle.model.specs.Text.{Bytes, parts, ended, line_end}
use Rattle.model.proofs.LineForms.{bound}
use Rattle.model.proofs.Lists.{none_some}
use Rattle.model.proofs.PlanTexts.{joined, parts_more, parts_joined}
use Rattle.recover_model.specs.ClockText.{clk_line}
use Rattle.recover_model.specs.Recover.{Follower, at_start, follow_clocks, follow_line, if_followed, follow_lines, recover}
use Rattle.recover_model.specs.RecoverCalls.{Progress, progress_of, at_first, max_count, step_line, recover_end, behind}
use Rattle.recover_model.proofs.GoesOn.{bytes_grow, can_go_on_law}
use Rattle.recover_model.proofs.LineSteps.{Kept, kept_start, kept_clocks, LineStep, offending, leads, line_step, rested, rest_at}
use Rattle.recover_model.proofs.StepDone.{if_followed_law}
use Rattle.recover_model.proofs.TapStates.{is_idle}

-- ---- lines followed to a plan

-- the follower at the end of lines that are followed to a plan
pub record EndsAt (f : Follower) (plan : Plan) : Type 0 where
  pub last : Follower
  pub kept : Kept last
  pub at_rest : last.state ≡ idle
  pub its_plan : last.plan ≡ plan
  pub bytes_grow : f.plan_bytes ≤ last.plan_bytes

pub ends_at : (ls : List Bytes) (l : Bytes) (n : ℕ) (f : Follower) (plan : Plan) → Kept f → follow_lines n f (l ∷ ls) ≡ ok plan → EndsAt f plan
unfolding follow_lines follow_line
ends_at [] l n f plan k e = let r = rest_at n f l plan e in record { last = f; kept = k; at_rest = r.at_rest; its_plan = r.its_plan; bytes_grow = omega arith }
ends_at (m ∷ ls) l n f plan k e =
    let b = if_followed_law (suc n) (follow_line f l) _ plan e in
    let c = bound (clk_line l) (follow_clocks f) b.0 b.1 in
    let r = ends_at ls m (suc n) b.0 plan (kept_clocks c.value f b.0 k c.then) b.2 in
    record { last = r.last; kept = r.kept; at_rest = r.at_rest; its_plan = r.its_plan; bytes_grow = omega (arith, r.bytes_grow, bytes_grow c.value f b.0 c.then) }

-- the plan's text has as many bytes as were counted
pub bytes_at_end : (f : Follower) (plan : Plan) (r : EndsAt f plan) → r.last.plan_bytes ≡ length (write_plan plan)
bytes_at_end f plan r = ap (λ (p : Progress). p.plan_bytes) (rested 0 r.last r.kept r.at_rest) ∙ ap (λ (x : Plan). length (write_plan x)) r.its_plan

pub recovered_short : (t : Bytes) (plan : Plan) → recover t ≡ ok plan → length (write_plan plan) ≤ max_plan_bytes
unfolding recover
recovered_short t plan e =
    let q = parts_more line_end t in
    let r = ends_at q.1 q.0 0 at_start plan kept_start (ap (follow_lines 0 at_start) (sym q.2) ∙ e) in
    omega (arith, bytes_at_end at_start plan r, r.kept.goes_on.short)

-- ---- the lines before these, and their bytes: each of them has two at least, with its byte 10, so that their count is small

abbrev pub Few : ℕ → List Bytes → Type 0
Few n ls = n + n + length (joined line_end ls) ≤ max_count

pub few_start : (t : Bytes) → length t ≤ max_count → Few 0 (parts line_end t)
few_start t h = omega (arith, ap length (parts_joined line_end t))

pub few_next : (n : ℕ) (f g : Follower) (l m : Bytes) (ls : List Bytes) → follow_line f l ≡ some g → Few n (l ∷ m ∷ ls) → Few (suc n) (m ∷ ls)
unfolding follow_line clk_line parts joined
few_next n f g [] m ls e h = absurd (none_some g e)
few_next n f g (b ∷ l) m ls e h = omega (arith, length-append l (line_end ∷ joined line_end (m ∷ ls)))

-- ---- the calls in turn

-- the call for each line, up to a refusal
unfoldable pub step_lines : Progress → List Bytes → Result Progress
step_lines p [] = ok p
step_lines p (l ∷ ls) = and_then (step_line p l) (λ s. step_lines s.after ls)

abbrev pub length_of : Result Plan → Result ℕ
length_of r = count_of (and_then r text_of)

end_as_followed : (l : Bytes) (n : ℕ) (f : Follower) → Kept f → n < max_count → recover_end (progress_of n f) l ≡ length_of (follow_lines n f (l ∷ []))
unfolding recover_end follow_lines
end_as_followed (b ∷ l) n f k few = rw (can_go_on_law n f k.goes_on few)
end_as_followed [] n f k few = rw (can_go_on_law n f k.goes_on few) (go (is_in idle f.state) refl)
  where
    go : (t : Bool) → is_in idle f.state ≡ t → refuse_if (not t) refusal.clock_line n (ok f.plan_bytes) ≡ length_of (cond t (ok f.plan) (refused refusal.clock_line n))
    go false e = refl
    go true e = ap (λ (p : Progress). ok p.plan_bytes) (rested n f k (is_idle f.state e))

steps_as_followed : (ls : List Bytes) (l : Bytes) (n : ℕ) (f : Follower) → Kept f → Few n (l ∷ ls)
    → and_then (step_lines (progress_of n f) (ended (l ∷ ls))) (λ p. recover_end p (behind (l ∷ ls))) ≡ length_of (follow_lines n f (l ∷ ls))
unfolding step_lines follow_lines
steps_as_followed [] l n f k few = end_as_followed l n f k (omega arith)
steps_as_followed (m ∷ ls) l n f k few = go (line_step n f l k (omega arith)) (λ g x q. steps_as_followed ls m (suc n) g x q)
  where
    go : LineStep n f l → ((g : Follower) → Kept g → Few (suc n) (m ∷ ls) → and_then (step_lines (progress_of (suc n) g) (ended (m ∷ ls))) (λ p. recover_end p (behind (m ∷ ls))) ≡ length_of (follow_lines (suc n) g (m ∷ ls)))
        → and_then (and_then (step_line (progress_of n f) l) (λ s. step_lines s.after (ended (m ∷ ls)))) (λ p. recover_end p (behind (m ∷ ls)))
        ≡ length_of (if_followed (suc n) (follow_line f l) (λ g. follow_lines (suc n) g (m ∷ ls)))
    go (offending e q) later = rw (e, q)
    go (leads g text r) later = rw (r.follows, r.steps) (later g r.kept (few_next n f g l m ls r.follows few))

-- ---- a whole text

pub text_steps : (t : Bytes) → length t ≤ max_count
    → and_then (step_lines at_first (ended (parts line_end t))) (λ p. recover_end p (behind (parts line_end t))) ≡ length_of (recover t)
unfolding recover
text_steps t few =
    let q = parts_more line_end t in
    rw q.2 (steps_as_followed q.1 q.0 0 at_start kept_start (rw q.2 at (few_start t few)))
