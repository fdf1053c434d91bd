-- The call for a line: where it leads, test by test, and what it writes.
-- Assumes nothing.
use mathlib.Core.Path.{◌≡◌, refl, sym, ap, ◌∙◌}
use mathlib.Core.Bool.{true, false, cond, not}
use Rattle.std.specs.Prelude.{Option, None as none, Some as some, option_map}
use mathlib.Core.List.{List, [], ◌∷◌, ◌++◌, map}
use Prim.Native.Nat.{ℕ, suc, ◌+◌, ◌≤◌, ◌<◌}
use native.Mathlib.Omega.{arith}
use native.Mathlib.Numerals.{add-one}
use lib.ListN.{length, take, drop}
use lib.Seq.{drop-drop}
use Rattle.model.specs.Calls.{write_over}
use Rattle.model.specs.Limits.{max_plan_bytes}
use Rattle.model.specs.Refusals as refusal
use Rattle.model.specs.Result.{Result, ok, refused}
use Rattle.model.specs.Tap.{Clock, state_at}
use Rattle.model.specs.Text.{Bytes, bind}
use Rattle.model.proofs.LineForms.{bound}
use Rattle.model.proofs.Lists.{some_same, not_ok, ok_is, passed_test}
use Rattle.recover_model.specs.ClockText.{clk_line}
use Rattle.recover_model.specs.Recover.{Follower, follow_clocks, if_followed}
use Rattle.recover_model.specs.RecoverCalls.{Progress, progress_of, under_way, can_go_on, added_text, bytes_written, resumed, Step, step_over, step_line, LineAnswer, recover_line}
use Rattle.recover_model.proofs.ClockLines.{tms_of}
use Rattle.recover_model.proofs.GoesOn.{tested, resumes}
use Rattle.recover_model.proofs.StepDone.{if_followed_law, step_done, line_refused, line_stepped, line_short}
use Rattle.plan_text.specs.Writing.{write_at}
use Rattle.plan_text.proofs.Writing.{write_none}
use Rattle.clock_writer.specs.Machine.{is_one}
use Rattle.clock_line.proofs.Lines.{HasClocks, uncounted}
use Rattle.clock_follower.specs.Counts.{counts_by}
use Rattle.clock_follower.proofs.Counts.{counts_followed}
use Rattle.recover_line.specs.Answers.{progress_after, line_clocks, text_of_line, CanPut}
use Rattle.recover_line.proofs.Pins.{ones}

-- ---- where a line leads

-- what was followed over the line after n lines
abbrev pub after_line : ℕ → Option Progress → Result Progress
after_line n none = refused refusal.clock_line (n + 1)
after_line n (some q) = ok record { lines = n + 1; state = q.state; entries = q.entries; plan_bytes = q.plan_bytes }

module _ (p : Progress) (l : Bytes) where
  pub cannot_go_on : can_go_on p ≡ false → refused refusal.clock_line p.lines ≡ progress_after (step_line p l)
  unfolding step_line
  cannot_go_on e = rw e

  module _ (can : can_go_on p ≡ true) where
    pub no_clocks : none ≡ option_map length (clk_line l) → refused refusal.clock_line (p.lines + 1) ≡ progress_after (step_line p l)
    unfolding step_line
    no_clocks e = rw (can, uncounted l e, add-one)

    step_by : (cs : List Clock) → clk_line l ≡ some cs → progress_after (step_line p l) ≡ after_line p.lines (counts_by p (map tms_of cs))
    unfolding step_line
    step_by cs e =
        let counts = counts_followed p.lines cs (resumed p) in
        rw (can, e) (go (follow_clocks (resumed p) cs)) ∙ ap (after_line p.lines) (rw (resumes p can).same_state at counts)
      where
        go : (o : Option Follower)
            → progress_after (if_followed (suc p.lines) (bind o (λ g. some (record { after = progress_of (suc p.lines) g; text = added_text (state_at p.state) cs }))) ok)
            ≡ after_line p.lines (bind o (λ g. some (progress_of p.lines g)))
        go none = rw add-one
        go (some g) = rw add-one

    pub step_followed : (n : ℕ) → HasClocks l n → (o : Option Progress) → o ≡ counts_by p (map is_one (take n (drop 4 l)))
        → after_line p.lines o ≡ progress_after (step_line p l)
    step_followed n h o f =
        let ms : map is_one (take n (drop 4 l)) ≡ map tms_of h.clocks = ap (map is_one) h.tms ∙ ones tms_of h.clocks in
        ap (after_line p.lines) (f ∙ ap (counts_by p) ms) ∙ sym (step_by h.clocks h.good)

-- ---- back to the step

after_refused : (r : Result Step) (number place : ℕ) → refused number place ≡ progress_after r → r ≡ refused number place
after_refused (ok s) number place e = absurd (not_ok e)
after_refused (refused a b) number place e = cc

after_ok : (r : Result Step) (q : Progress) → ok q ≡ progress_after r → (s : Step) × (r ≡ ok s) × (s.after ≡ q)
after_ok (ok s) q e = (s, refl, ok_is (sym e))
after_ok (refused a b) q e = absurd (not_ok (sym e))

module _ (p : Progress) (l : Bytes) where
  -- its text is that of the line's clocks
  pub step_text : (s : Step) → step_line p l ≡ ok s → (cs : List Clock) × (clk_line l ≡ some cs) × (s.text ≡ added_text (state_at p.state) cs)
  unfolding step_line
  step_text s e =
      let a = passed_test (not (can_go_on p)) _ _ _ s e in
      let b = if_followed_law (suc p.lines) (bind (clk_line l) (step_over p)) ok s a.1 in
      let c = bound (clk_line l) (step_over p) b.0 b.1 in
      let d = bound (follow_clocks (resumed p) c.value) _ b.0 c.then in
      (c.value, c.given, ap (λ (x : Step). x.text) (sym (some_same _ b.0 d.then ∙ ok_is b.2)))

-- ---- what is written

-- at most what was counted
pub written_fewer : (p : Progress) → bytes_written p ≤ p.plan_bytes
written_fewer p = omega arith

pub written_behind : (at : ℕ) (new plan : List ℕ) → write_at at new plan ≡ take at plan ++ write_over new (drop at plan)
unfolding write_at write_over
written_behind at new plan = ap (λ (x : List ℕ). take at plan ++ (new ++ x)) (sym (drop-drop (length new) at plan))

-- ---- the call

module _ (p : Progress) (l : Bytes) (plan : List ℕ) where
  -- what it answers and leaves
  abbrev Leaves : Result Progress → List ℕ → Type 0
  Leaves r plan' = (r ≡ (recover_line p l plan).result) × (plan' ≡ (recover_line p l plan).plan)

  leaves : (a : LineAnswer) → recover_line p l plan ≡ a → Leaves a.result a.plan
  leaves a e = (ap (λ (x : LineAnswer). x.result) (sym e), ap (λ (x : LineAnswer). x.plan) (sym e))

  pub call_refused : (number place : ℕ) → refused number place ≡ progress_after (step_line p l) → Leaves (refused number place) plan
  call_refused number place e = leaves _ (line_refused p l plan number place (after_refused (step_line p l) number place e))

  module _ (q : Progress) (e : ok q ≡ progress_after (step_line p l)) where
    done : (s : Step) × (step_line p l ≡ ok s) × (s.after ≡ q)
    done = after_ok (step_line p l) q e

    bytes_are : done.0.after.plan_bytes ≡ q.plan_bytes
    bytes_are = ap (λ (x : Progress). x.plan_bytes) done.2

    could : can_go_on p ≡ true
    could = (step_done p l done.0 done.1).could_go_on

    pub counted_before : cond (under_way p.state) 1 0 ≤ p.plan_bytes
    counted_before = (tested p could).counted

    pub counted_after : cond (under_way q.state) 1 0 ≤ q.plan_bytes
    counted_after = rw done.2 at (step_done p l done.0 done.1).counted

    pub bytes_short : q.plan_bytes ≤ max_plan_bytes
    bytes_short = omega (arith, (step_done p l done.0 done.1).short, bytes_are)

    pub call_short : length plan < q.plan_bytes → Leaves (refused refusal.buffer q.plan_bytes) plan
    call_short h =
        let r = leaves _ (line_short p l plan done.0 done.1 (omega (arith, bytes_are))) in
        (ap (λ (n : ℕ). refused refusal.buffer n) (sym bytes_are) ∙ r.0, r.1)

    module _ (fits : q.plan_bytes ≤ length plan) (at : ℕ) (place : at ≡ bytes_written p) where
      text_is : done.0.text ≡ text_of_line p.state l
      text_is = let t = step_text p l done.0 done.1 in t.2 ∙ ap (λ (o : Option (List Clock)). added_text (state_at p.state) (line_clocks o)) (sym t.1)

      pub call_room : CanPut p.state at l plan
      call_room =
          let t = step_text p l done.0 done.1 in
          let d = step_done p l done.0 done.1 in
          record { clocks = t.0; good = t.1; room = omega (arith, ap length text_is, d.stands, bytes_are, written_fewer done.0.after) }

      pub call_written : (plan' : List ℕ) → plan' ≡ write_at at (text_of_line p.state l) plan → Leaves (ok q) plan'
      call_written plan' w =
          let r = leaves _ (line_stepped p l plan done.0 done.1 (omega (arith, bytes_are))) in (
            ap ok (sym done.2) ∙ r.0,
            w ∙ written_behind at (text_of_line p.state l) plan
                ∙ ap (λ (k : ℕ). take k plan ++ write_over (text_of_line p.state l) (drop k plan)) place
                ∙ ap (λ (x : List ℕ). take (bytes_written p) plan ++ write_over x (drop (bytes_written p) plan)) (sym text_is) ∙ r.1,
          )

      -- a line that adds nothing
      pub call_unwritten : bytes_written q ≤ at → Leaves (ok q) plan
      call_unwritten h =
          let n : length (text_of_line p.state l) ≡ 0 = omega (arith, (step_done p l done.0 done.1).stands, ap length text_is, ap bytes_written done.2) in
          call_written plan (sym (ap (λ (x : List ℕ). write_at at x plan) (none_of (text_of_line p.state l) n) ∙ write_none at plan))
        where
          none_of : (x : Bytes) → length x ≡ 0 → x ≡ []
          none_of [] e = refl
          none_of (b ∷ x) e = absurd (omega arith)
