-- What a part leaves: behind a progress one in a state of the controller, where it was in one, or 19; a refusal as it is.
-- Assumes nothing.
use mathlib.Core.Path.{◌≡◌, refl}
use mathlib.Core.Bool.{Bool, true, false, cond, not}
use Rattle.std.specs.Prelude.{Option, None as none, Some as some}
use mathlib.Core.List.{List, [], ◌∷◌}
use Prim.Native.Nat.{ℕ, suc, ◌≤◌, ◌<◌}
use native.Mathlib.Omega.{arith}
use lib.ListN.{length}
use lib.Dec.{leb}
use Rattle.model.specs.Limits.{max_plan_bytes}
use Rattle.model.specs.Refusals as refusal
use Rattle.model.specs.Result.{Result, ok, refused, and_then}
use Rattle.model.specs.Tap.{state_at, Clock}
use Rattle.model.specs.Text.{Bytes, bind, parts, ended, line_end}
use Rattle.model.proofs.Lists.{refuse_case}
use Rattle.recover_model.specs.ClockText.{clk_line, max_line_bytes}
use Rattle.recover_model.specs.Recover.{Follower, follow_clocks, if_followed}
use Rattle.recover_model.specs.RecoverCalls.{Progress, progress_of, can_go_on, added_text, resumed, Step, step_over, step_line, recover_line, go_on, recover_lines, behind, unless_long, recover_part}
use Rattle.recover_model.proofs.StepDone.{step_done, line_refused, line_stepped}
use Rattle.clock_writer.proofs.Table.{numbered}
use Rattle.recover_line.specs.Answers.{progress_after}
use Rattle.recoverer.specs.Parts.{answer_before, ListedAfter}
use Rattle.recoverer.proofs.PartLines.{line_as_long}

-- ---- one line

-- a progress in a state of the controller, or 19
abbrev Listed19 : Result Progress → Type 0
Listed19 (ok q) = q.state < 16
Listed19 (refused number place) = number ≡ refusal.clock_line

step_listed : (p : Progress) (l : Bytes) → Listed19 (progress_after (step_line p l))
unfolding step_line
step_listed p l = refuse_case (λ (r : Result Step). Listed19 (progress_after r)) (not (can_go_on p)) _ _ _ (λ h. refl) (λ h. clocks (clk_line l))
  where
    followed : (cs : List Clock) (o : Option Follower)
        → Listed19 (progress_after (if_followed (suc p.lines) (bind o (λ g. some (record { after = progress_of (suc p.lines) g; text = added_text (state_at p.state) cs }))) ok))
    followed cs none = refl
    followed cs (some g) = (numbered g.state).0

    clocks : (o : Option (List Clock)) → Listed19 (progress_after (if_followed (suc p.lines) (bind o (step_over p)) ok))
    clocks none = refl
    clocks (some cs) = followed cs (follow_clocks (resumed p) cs)

line_listed : (p : Progress) (l : Bytes) (plan : List ℕ) → max_plan_bytes ≤ length plan → Listed19 (recover_line p l plan).result
line_listed p l plan room = go (step_line p l) refl (step_listed p l)
  where
    go : (r : Result Step) → step_line p l ≡ r → Listed19 (progress_after r) → Listed19 (recover_line p l plan).result
    go (ok s) e k = rw (line_stepped p l plan s e (omega (arith, room, (step_done p l s e).short))) k
    go (refused number place) e k = rw (line_refused p l plan number place e) k

-- ---- lines in turn

after_listed : (p q : Progress) (r : Result Progress) → q.state < 16 → ListedAfter (ok q) r → ListedAfter (ok p) r
after_listed p q (ok x) h k = λ u. k h
after_listed p q (refused number place) h k = k

lines_listed : (ls : List Bytes) (p : Progress) (plan : List ℕ) → max_plan_bytes ≤ length plan → ListedAfter (ok p) (recover_lines p plan ls).result
unfolding recover_lines
lines_listed [] p plan room = λ h. h
lines_listed (l ∷ ls) p plan room =
    let later : (q : Progress) → ListedAfter (ok q) (recover_lines q (recover_line p l plan).plan ls).result =
    λ q. lines_listed ls q (recover_line p l plan).plan (omega (arith, room, line_as_long p l plan)) in
    go (recover_line p l plan).result refl later (line_listed p l plan room)
  where
    go : (r : Result Progress) → (recover_line p l plan).result ≡ r → ((q : Progress) → ListedAfter (ok q) (recover_lines q (recover_line p l plan).plan ls).result)
        → Listed19 r → ListedAfter (ok p) (go_on (recover_line p l plan) (λ q new. recover_lines q new ls)).result
    go (ok q) e later k = rw e (after_listed p q _ k (later q))
    go (refused number place) e later k = rw e k

-- ---- a part

listed_after : (p : Progress) (r : Result Progress) → Listed19 r → ListedAfter (ok p) r
listed_after p (ok q) k = λ h. k
listed_after p (refused number place) k = k

unless_long_listed : (p q : Progress) (rest : Bytes) → ListedAfter (ok p) (ok q) → ListedAfter (ok p) (unless_long rest q)
unless_long_listed p q rest k = go (leb max_line_bytes (length rest))
  where
    go : (t : Bool) → ListedAfter (ok p) (cond t (progress_after (step_line q rest)) (ok q))
    go true = listed_after p (progress_after (step_line q rest)) (step_listed q rest)
    go false = k

pub part_listed : (r : Result Progress) (plan : List ℕ) (text : Bytes) → max_plan_bytes ≤ length plan
    → ListedAfter r (recover_part (answer_before r plan) text).answer.result
unfolding recover_part
part_listed (refused number place) plan text room = refl
part_listed (ok p) plan text room = go (recover_lines p plan (ended (parts line_end text))).result (lines_listed (ended (parts line_end text)) p plan room)
  where
    go : (r : Result Progress) → ListedAfter (ok p) r → ListedAfter (ok p) (and_then r (unless_long (behind (parts line_end text))))
    go (ok q) k = unless_long_listed p q (behind (parts line_end text)) k
    go (refused number place) k = k
