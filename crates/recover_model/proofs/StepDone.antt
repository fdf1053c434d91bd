-- The call for a line, by cases: what a line that is followed leaves, in progress and buffer, whatever progress came in.
-- Assumes nothing.
use mathlib.Core.Path.{◌≡◌, refl, ap, ◌∙◌, subst}
use mathlib.Core.Bool.{true, cond, not}
use Rattle.std.specs.Prelude.{Option, None as none, Some as some}
use mathlib.Core.List.{List, ◌++◌}
use Prim.Native.Nat.{ℕ, suc, ◌+◌, ◌≤◌, ◌<◌}
use native.Mathlib.Omega.{arith}
use lib.ListN.{length, take, drop}
use borrow.Author.Tests.{ltb-true, ltb-false, not-false}
use Rattle.model.specs.Calls.{write_over}
use Rattle.model.specs.Limits.{max_plan_bytes}
use Rattle.model.specs.Refusals as refusal
use Rattle.model.specs.Result.{Result, ok, refused}
use Rattle.model.specs.Tap.{state_at, state_number, Clock}
use Rattle.model.specs.Text.{Bytes, bind}
use Rattle.model.proofs.LineForms.{bound}
use Rattle.model.proofs.Lists.{some_same, not_ok, ok_is, refuse_case, passed_test}
use Rattle.recover_model.specs.ClockText.{clk_line}
use Rattle.recover_model.specs.Recover.{Follower, follow_clocks, if_followed}
use Rattle.recover_model.specs.RecoverCalls.{Progress, progress_of, max_count, under_way, can_go_on, added_text, bytes_written, resumed, Step, step_over, step_line, step_room, LineAnswer, line_answer, recover_line}
use Rattle.recover_model.proofs.GoesOn.{goes_on_clocks, bytes_grow, can_go_on_law, resumes}
use Rattle.recover_model.proofs.PlanSoFar.{clocks_counted}

-- ---- a line that is followed

pub record StepDone (p : Progress) (s : Step) : Type 0 where
  pub could_go_on : can_go_on p ≡ true
  pub one_line : s.after.lines ≡ suc p.lines
  pub goes_on : s.after.lines < max_count → can_go_on s.after ≡ true
  pub short : s.after.plan_bytes ≤ max_plan_bytes
  pub grows : p.plan_bytes ≤ s.after.plan_bytes
  pub counted : cond (under_way s.after.state) 1 0 ≤ s.after.plan_bytes
  -- what stands in the buffer grows by the line's text
  pub stands : bytes_written p + length s.text ≡ bytes_written s.after

pub if_followed_law : {A B : Type 0} (n : ℕ) (o : Option A) (go : A → Result B) (b : B) → if_followed n o go ≡ ok b → (a : A) × (o ≡ some a) × (go a ≡ ok b)
if_followed_law n none go b e = absurd (not_ok e)
if_followed_law n (some a) go b e = (a, refl, e)

clocks_done : (p : Progress) (cs : List Clock) (g : Follower) → can_go_on p ≡ true → follow_clocks (resumed p) cs ≡ some g
    → StepDone p record { after = progress_of (suc p.lines) g; text = added_text (state_at p.state) cs }
clocks_done p cs g c e =
    let r = resumes p c in
    let k = goes_on_clocks cs (resumed p) g r.goes_on e in
    let u : ◌≡◌ {A = ℕ} (cond (under_way (state_number (state_at p.state))) 1 0) (cond (under_way p.state) 1 0) = ap (λ (n : ℕ). cond (under_way n) 1 0) r.same_state in
    record {
      could_go_on = c;
      one_line = refl;
      goes_on = λ l. can_go_on_law (suc p.lines) g k l;
      short = k.short;
      grows = bytes_grow cs (resumed p) g e;
      counted = k.counted;
      stands = omega (arith, r.goes_on.counted, k.counted, clocks_counted cs (resumed p) g e);
    }

pub step_done : (p : Progress) (l : Bytes) (s : Step) → step_line p l ≡ ok s → StepDone p s
unfolding step_line
step_done p l s e =
    let a = passed_test (not (can_go_on p)) _ _ _ s e in
    let b = if_followed_law (suc p.lines) (bind (clk_line l) (step_over p)) ok s a.1 in
    let c = bound (clk_line l) (step_over p) b.0 b.1 in
    let d = bound (follow_clocks (resumed p) c.value) _ b.0 c.then in
    subst (StepDone p) (some_same _ b.0 d.then ∙ ok_is b.2) (clocks_done p c.value d.value (not-false (can_go_on p) a.0) d.given)

-- ---- the call

-- what a line that is followed leaves, where the buffer has room
abbrev pub stepped : Progress → List ℕ → Step → LineAnswer
stepped p plan s = record { result = ok s.after; plan = take (bytes_written p) plan ++ write_over s.text (drop (bytes_written p) plan) }

-- the room is looked at
data RoomFor (room : ℕ) (s : Step) : Result Step → Type 0 where
  short : room < s.after.plan_bytes → RoomFor room s (refused refusal.buffer s.after.plan_bytes)
  enough : s.after.plan_bytes ≤ room → RoomFor room s (ok s)

room_for : (room : ℕ) (s : Step) → RoomFor room s (step_room room s)
room_for room s = refuse_case (RoomFor room s) _ _ _ _ (λ e. short (ltb-true room s.after.plan_bytes e)) (λ e. enough (ltb-false room s.after.plan_bytes e))

module _ (p : Progress) (l : Bytes) (plan : List ℕ) where
  pub line_refused : (number place : ℕ) → step_line p l ≡ refused number place → recover_line p l plan ≡ record { result = refused number place; plan = plan }
  unfolding recover_line
  line_refused number place e = rw e

  line_by_room : (s : Step) → step_line p l ≡ ok s → recover_line p l plan ≡ line_answer p plan (step_room (length plan) s)
  unfolding recover_line
  line_by_room s e = rw e

  pub line_stepped : (s : Step) → step_line p l ≡ ok s → s.after.plan_bytes ≤ length plan → recover_line p l plan ≡ stepped p plan s
  line_stepped s e fits = line_by_room s e ∙ go (step_room (length plan) s) (room_for (length plan) s)
    where
      go : (r : Result Step) → RoomFor (length plan) s r → line_answer p plan r ≡ stepped p plan s
      go r (short less) = absurd (omega arith)
      go r (enough h) = refl

  pub line_short : (s : Step) → step_line p l ≡ ok s → length plan < s.after.plan_bytes → recover_line p l plan ≡ record { result = refused refusal.buffer s.after.plan_bytes; plan = plan }
  line_short s e less = line_by_room s e ∙ go (step_room (length plan) s) (room_for (length plan) s)
    where
      go : (r : Result Step) → RoomFor (length plan) s r → line_answer p plan r ≡ record { result = refused refusal.buffer s.after.plan_bytes; plan = plan }
      go r (short h) = refl
      go r (enough fits) = absurd (omega arith)

pub data LineCase (p : Progress) (l : Bytes) (plan : List ℕ) : Type 0 where
  refuses : (number place : ℕ) → recover_line p l plan ≡ record { result = refused number place; plan = plan } → LineCase p l plan
  steps : (s : Step) → step_line p l ≡ ok s → s.after.plan_bytes ≤ length plan → recover_line p l plan ≡ stepped p plan s → LineCase p l plan

pub line_case : (p : Progress) (l : Bytes) (plan : List ℕ) → LineCase p l plan
line_case p l plan = go (step_line p l) refl
  where
    room : (s : Step) → step_line p l ≡ ok s → (r : Result Step) → RoomFor (length plan) s r → recover_line p l plan ≡ line_answer p plan r → LineCase p l plan
    room s e r (short less) q = refuses refusal.buffer s.after.plan_bytes q
    room s e r (enough fits) q = steps s e fits q

    go : (r : Result Step) → step_line p l ≡ r → LineCase p l plan
    go (refused number place) e = refuses number place (line_refused p l plan number place e)
    go (ok s) e = room s e (step_room (length plan) s) (room_for (length plan) s) (line_by_room p l plan s e)
