-- Every text of clocks gives a plan of good form, or 19 at one of its lines.
-- Assumes nothing.
use mathlib.Core.Path.{◌≡◌, refl}
use mathlib.Core.Bool.{Bool, true, false, cond}
use Rattle.std.specs.Prelude.{Option, None as none, Some as some}
use mathlib.Core.List.{List, [], ◌∷◌}
use Prim.Native.Nat.{ℕ, suc, ◌+◌, ◌≤◌}
use native.Mathlib.Omega.{arith}
use Rattle.model.specs.Plan.{Plan}
use Rattle.model.specs.PlanText.{read_plan, write_plan}
use Rattle.model.specs.Refusals as refusal
use Rattle.model.specs.Result.{Result, ok, refused}
use Rattle.model.specs.Tap.{idle, is_in}
use Rattle.model.specs.Text.{Bytes, parts, line_end}
use Rattle.model.proofs.LineForms.{bound}
use Rattle.model.proofs.Lists.{true_false}
use Rattle.model.proofs.PlanTexts.{read_written}
use Rattle.recover_model.specs.ClockText.{clk_line}
use Rattle.recover_model.specs.Recover.{Follower, at_start, follow_clocks, follow_line, if_followed, at_rest_law, follow_lines, recover}
use Rattle.recover_model.specs.Recovered.{count_lines, Answer, PlanOr19}
use Rattle.recover_model.proofs.Following.{WithinLimits, within_clocks, within_at_start, plan_few, plan_short}

more_lines : (a b : ℕ) (r : Result Plan) → a ≤ b → Answer a r → Answer b r
more_lines a b (ok plan) l x = x
more_lines a b (refused number place) l x = (x.0, x.1, let m : place ≤ a = x.2 in omega arith)

-- outside Run-Test/Idle a line stands before
rest_answers : (n : ℕ) (f : Follower) → WithinLimits f → (is_in idle f.state ≡ false → 1 ≤ n) → Answer n (at_rest_law n f)
rest_answers n f k some-line = go (is_in idle f.state) refl
  where
    go : (t : Bool) → is_in idle f.state ≡ t → Answer n (cond t (ok f.plan) (refused refusal.clock_line n))
    go true q = (read_written f.plan (plan_few f k) (plan_short f k), plan_few f k)
    go false q = (refl, some-line q, omega arith)

answers : (ls : List Bytes) (n : ℕ) (f : Follower) → WithinLimits f → (is_in idle f.state ≡ false → 1 ≤ n) → Answer (n + count_lines ls) (follow_lines n f ls)
unfolding follow_lines follow_line
answers [] n f k s = more_lines n (n + 0) (at_rest_law n f) (omega arith) (rest_answers n f k s)
answers ([] ∷ []) n f k s = more_lines n (n + 0) (at_rest_law n f) (omega arith) (rest_answers n f k s)
answers ((b ∷ l) ∷ []) n f k s = (refl, omega arith, omega arith)
answers (l ∷ m ∷ ls) n f k s = go (follow_line f l) refl (λ g h. answers (m ∷ ls) (suc n) g h (λ q. omega arith))
  where
    go : (o : Option Follower) → follow_line f l ≡ o → ((g : Follower) → WithinLimits g → Answer (suc n + count_lines (m ∷ ls)) (follow_lines (suc n) g (m ∷ ls)))
        → Answer (n + suc (count_lines (m ∷ ls))) (if_followed (suc n) o (λ g. follow_lines (suc n) g (m ∷ ls)))
    go none q rest = (refl, omega arith, omega arith)
    go (some g) q rest =
        let c = bound (clk_line l) (follow_clocks f) g q in
        more_lines (suc n + count_lines (m ∷ ls)) (n + suc (count_lines (m ∷ ls))) (follow_lines (suc n) g (m ∷ ls)) (omega arith) (rest g (within_clocks f c.value g k c.then))

pub every_answer : PlanOr19
unfolding recover
every_answer t = more_lines (0 + count_lines (parts line_end t)) (count_lines (parts line_end t)) (recover t) (omega arith) (answers (parts line_end t) 0 at_start within_at_start (λ q. absurd (true_false q)))

-- the plan that is given back has good form
pub reads_back : (t : Bytes) (plan : Plan) → recover t ≡ ok plan → read_plan (write_plan plan) ≡ ok plan
reads_back t plan e = let a = every_answer t in let b : Answer (count_lines (parts line_end t)) (ok plan) = rw e at a in b.0
