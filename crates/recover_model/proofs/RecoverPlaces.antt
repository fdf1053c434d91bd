-- The calls that bring clocks back refuse only with their rows.
-- Assumes nothing.
use mathlib.Core.Path.{◌≡◌, refl, sym, ap, ◌∙◌, subst}
use mathlib.Core.Bool.{Bool, true, false, cond, not}
use mathlib.Core.Logic.{inl, inr}
use Rattle.std.specs.Prelude.{Option, None as none, Some as some}
use mathlib.Core.List.{List, [], ◌∷◌}
use Prim.Native.Nat.{ℕ, zero, suc, ◌≤◌}
use native.Mathlib.Omega.{arith}
use lib.ListN.{length, drop}
use lib.Seq.{drop-nil}
use lib.Dec.{eqb, ltb}
use borrow.Author.Tests.{ltb-true}
use Rattle.model.specs.Calls.{if_room, text_of}
use Rattle.model.specs.Limits.{max_plan_bytes}
use Rattle.model.specs.NetworkText.{at_end}
use Rattle.model.specs.Places.{behind_lines, RefusalRows, ◌or◌}
use Rattle.model.specs.Refusals as refusal
use Rattle.model.specs.Result.{Result, ok, refused, and_then}
use Rattle.model.specs.Tap.{idle, is_in, state_number}
use Rattle.model.specs.Text.{Bytes, bind, line_end, parts}
use Rattle.model.proofs.Ends.{Ends, gives, refuses, listed, ends_if, ends_then, ends_more, count_ends, line_at, is_line}
use Rattle.model.proofs.Lists.{true_false}
use Rattle.model.proofs.PlanTexts.{parts_more}
use Rattle.recover_model.specs.ClockText.{clk_line}
use Rattle.recover_model.specs.Recover.{Follower, at_start, follow_line, if_followed, at_rest_law, follow_lines, recover}
use Rattle.recover_model.specs.RecoverCalls.{Progress, can_go_on, Step, step_over, step_line, step_room, line_answer, recover_line, rest_answer, recover_end, recovered, recover_text, behind}
use Rattle.recover_model.specs.RecoverDemands.{RecoverListed, ClockTextRefusal, clock_line_law, clock_unended, ClockLineRefusal, this_line, last_line, ShortPlan, short_for}
use Rattle.recover_model.proofs.StepDone.{step_done}
use Rattle.recover_model.proofs.TextSteps.{recovered_short}

abbrev Ended : {A : Type 0} → RefusalRows → Result A → Type 0
Ended {A} rows r = Ends rows (λ (a : A). Unit {0}) r

-- ---- a whole text

behind_all : (m : ℕ) (ls : List Bytes) (l : Bytes) → drop m ls ≡ l ∷ [] → behind ls ≡ l
behind_all zero ls l e = ap behind e
behind_all (suc m) [] l e = let z : ◌≡◌ {A = ℕ} 0 1 = ap length e in absurd (omega arith)
behind_all (suc m) (k ∷ []) l e = let z : ◌≡◌ {A = ℕ} 0 1 = ap length (sym (drop-nil m) ∙ e) in absurd (omega arith)
behind_all (suc m) (k ∷ j ∷ ls) l e = behind_all m (j ∷ ls) l e

module _ (t : Bytes) where
  abbrev Refusals : RefusalRows
  Refusals = ClockTextRefusal t

  rest_ends : (m : ℕ) (f : Follower) → (m ≡ 0 → f.state ≡ idle) → suc m ≡ behind_lines t → Ended Refusals (at_rest_law m f)
  rest_ends m f start c = go (is_in idle f.state) refl
    where
      some_line : (m : ℕ) → (m ≡ 0 → f.state ≡ idle) → is_in idle f.state ≡ false → 1 ≤ m
      some_line zero s e = absurd (true_false (sym (ap (is_in idle) (s refl)) ∙ e))
      some_line (suc m) s e = omega arith

      go : (b : Bool) → is_in idle f.state ≡ b → Ended Refusals (cond b (ok f.plan) (refused refusal.clock_line m))
      go true e = gives tt
      go false e = refuses (clock_line_law (some_line m start e, omega arith))

  lines_end : (l : Bytes) (ls : List Bytes) (m : ℕ) (f : Follower) → (m ≡ 0 → f.state ≡ idle) → drop m (parts line_end t) ≡ l ∷ ls → Ended Refusals (follow_lines m f (l ∷ ls))
  unfolding follow_lines
  lines_end l [] m f s e = last l (behind_all m (parts line_end t) l e) (omega (arith, (line_at t m l [] e).count))
    where
      last : (l : Bytes) → behind (parts line_end t) ≡ l → suc m ≡ behind_lines t → Ended Refusals (and_then (at_end f refusal.clock_line l (suc m)) (at_rest_law m))
      last [] q c = rest_ends m f s c
      last (b ∷ bs) q c = refuses (subst (ClockTextRefusal t refusal.clock_line) (sym c) (clock_unended (λ z. let y : ◌≡◌ {A = ℕ} 0 1 = cc in absurd (omega arith))))
  lines_end l (k ∷ ls) m f s e = let a = line_at t m l (k ∷ ls) e in go (clock_line_law (is_line t m l k ls a)) (follow_line f l) (λ g. lines_end k ls (suc m) g (λ z. absurd (omega arith)) a.rest)
    where
      go : ClockTextRefusal t refusal.clock_line (suc m) → (o : Option Follower) → ((g : Follower) → Ended Refusals (follow_lines (suc m) g (k ∷ ls)))
          → Ended Refusals (if_followed (suc m) o (λ g. follow_lines (suc m) g (k ∷ ls)))
      go row none rest = refuses row
      go row (some g) rest = rest g

  pub recover_ends : Ended Refusals (recover t)
  unfolding recover
  recover_ends =
      let q = parts_more line_end t in
      subst (λ (ls : List Bytes). Ended Refusals (follow_lines 0 at_start ls)) (sym q.2) (lines_end q.0 q.1 0 at_start (λ z. refl) q.2)

  module _ (plan : List ℕ) where
    recovered_ends : Ended (ClockTextRefusal t or ShortPlan plan) (recovered t (length plan))
    recovered_ends =
        ends_then (if_room (length plan)) text_ends
        (λ text e short. ends_if (ltb (length plan) (length text)) refusal.buffer (length text) _ (λ h. inr (short_for (ltb-true _ _ h) short)) (λ h. gives tt))
      where
        text_ends : Ends (ClockTextRefusal t or ShortPlan plan) (λ (text : List ℕ). length text ≤ max_plan_bytes) (and_then (recover t) text_of)
        text_ends = ends_then text_of (ends_more (λ a b row. inl row) recover_ends) (λ p e x. gives (recovered_short t p e))

-- ---- one line

module _ (p : Progress) (l : Bytes) where
  step_ends : Ended (ClockLineRefusal p) (step_line p l)
  unfolding step_line
  step_ends = ends_if (not (can_go_on p)) refusal.clock_line p.lines _ (λ h. last_line) (λ h. go (bind (clk_line l) (step_over p)))
    where
      go : (o : Option Step) → Ended (ClockLineRefusal p) (if_followed (suc p.lines) o ok)
      go none = refuses this_line
      go (some s) = gives tt

  line_ends : (plan : List ℕ) → Ended (ClockLineRefusal p or ShortPlan plan) (recover_line p l plan).result
  unfolding recover_line
  line_ends plan = answer (ends_then (step_room (length plan)) (ends_more (λ a b row. inl row) step_ends) room)
    where
      room : (s : Step) → step_line p l ≡ ok s → Unit {0} → Ended (ClockLineRefusal p or ShortPlan plan) (step_room (length plan) s)
      room s e x = ends_if (ltb (length plan) s.after.plan_bytes) refusal.buffer s.after.plan_bytes _ (λ h. inr (short_for (ltb-true _ _ h) (step_done p l s e).short)) (λ h. gives tt)

      answer : {r : Result Step} → Ended (ClockLineRefusal p or ShortPlan plan) r → Ended (ClockLineRefusal p or ShortPlan plan) (line_answer p plan r).result
      answer (gives x) = gives tt
      answer (refuses row) = refuses row

-- ---- the end

end_ends : (p : Progress) (rest : Bytes) → Ended (ClockLineRefusal p) (recover_end p rest)
unfolding recover_end
end_ends p rest = ends_if (not (can_go_on p)) refusal.clock_line p.lines _ (λ h. last_line) (λ h. go rest)
  where
    go : (rest : Bytes) → Ended (ClockLineRefusal p) (and_then (at_end p refusal.clock_line rest (suc p.lines)) rest_answer)
    go [] = ends_if (not (eqb p.state (state_number idle))) refusal.clock_line p.lines _ (λ h. last_line) (λ h. gives tt)
    go (b ∷ bs) = refuses this_line

pub recover_listed : RecoverListed
unfolding recover_text
recover_listed = record {
  text = λ t plan. listed (count_ends (recovered_ends t plan));
  line = λ p l plan. listed (line_ends p l plan);
  end = λ p rest. listed (end_ends p rest);
}
