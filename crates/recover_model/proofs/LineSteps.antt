-- One line of a text: the progress after it is that of the model's follower, and the plan's text grows by the text that it adds.
-- Assumes nothing.
use mathlib.Core.Path.{◌≡◌, refl, ap}
use mathlib.Core.Bool.{Bool, true, false, cond}
use Rattle.std.specs.Prelude.{Option, None as none, Some as some}
use mathlib.Core.List.{List, [], ◌∷◌, ◌++◌}
use Prim.Native.Nat.{ℕ, suc, ◌≤◌, ◌<◌}
use native.Mathlib.Omega.{arith}
use lib.ListN.{length}
use Rattle.model.specs.NetworkText.{at_end}
use Rattle.model.specs.Plan.{Plan}
use Rattle.model.specs.PlanText.{write_plan}
use Rattle.model.specs.Refusals as refusal
use Rattle.model.specs.Result.{ok, refused, and_then}
use Rattle.model.specs.Tap.{idle, is_in, state_number, Clock}
use Rattle.model.specs.Text.{Bytes}
use Rattle.model.proofs.Lists.{not_ok, ok_is}
use Rattle.recover_model.specs.ClockText.{clk_line}
use Rattle.recover_model.specs.Recover.{Follower, at_start, follow_clocks, follow_line, at_rest_law}
use Rattle.recover_model.specs.RecoverCalls.{Progress, progress_of, max_count, can_go_on, added_text, step_line}
use Rattle.recover_model.proofs.Following.{WithinLimits, within_clocks, within_at_start}
use Rattle.recover_model.proofs.GoesOn.{GoesOn, start_goes_on, goes_on_clocks, bytes_grow, can_go_on_law}
use Rattle.recover_model.proofs.PlanSoFar.{so_far, Blank, blank_clocks, blank_start, so_far_clocks}
use Rattle.recover_model.proofs.Resumed.{step_from_law}
use Rattle.recover_model.proofs.TapStates.{inside, unended_in, is_idle}

-- ---- a follower as the text leaves it

pub record Kept (f : Follower) : Type 0 where
  pub within : WithinLimits f
  pub blank : Blank f
  pub goes_on : GoesOn f

pub kept_start : Kept at_start
kept_start = record { within = within_at_start; blank = blank_start; goes_on = start_goes_on }

pub kept_clocks : (cs : List Clock) (f g : Follower) → Kept f → follow_clocks f cs ≡ some g → Kept g
kept_clocks cs f g k e = record { within = within_clocks f cs g k.within e; blank = blank_clocks cs f g k.blank e; goes_on = goes_on_clocks cs f g k.goes_on e }

-- ---- one line

pub record LineFollowed (n : ℕ) (f : Follower) (l : Bytes) (g : Follower) (text : Bytes) : Type 0 where
  pub follows : follow_line f l ≡ some g
  pub steps : step_line (progress_of n f) l ≡ ok record { after = progress_of (suc n) g; text = text }
  pub kept : Kept g
  pub grows : so_far g ≡ so_far f ++ text
  pub bytes_grow : f.plan_bytes ≤ g.plan_bytes

-- the line after n lines offends, or leads on
pub data LineStep (n : ℕ) (f : Follower) (l : Bytes) : Type 0 where
  offending : follow_line f l ≡ none → step_line (progress_of n f) l ≡ refused refusal.clock_line (suc n) → LineStep n f l
  leads : (g : Follower) (text : Bytes) → LineFollowed n f l g text → LineStep n f l

pub line_step : (n : ℕ) (f : Follower) (l : Bytes) → Kept f → n < max_count → LineStep n f l
unfolding step_line follow_line
line_step n f l k few = by_line (clk_line l) refl
  where
    goes : can_go_on (progress_of n f) ≡ true
    goes = can_go_on_law n f k.goes_on few

    by_clocks : (cs : List Clock) → clk_line l ≡ some cs → (o : Option Follower) → follow_clocks f cs ≡ o → LineStep n f l
    by_clocks cs e none q = offending (rw (e, q)) (rw (goes, e, step_from_law n f cs, q))
    by_clocks cs e (some g) q = leads g (added_text f.state cs) record {
      follows = rw (e, q);
      steps = rw (goes, e, step_from_law n f cs, q);
      kept = kept_clocks cs f g k q;
      grows = so_far_clocks cs f g k.blank q;
      bytes_grow = bytes_grow cs f g q;
    }

    by_line : (o : Option (List Clock)) → clk_line l ≡ o → LineStep n f l
    by_line none e = offending (rw e) (rw (goes, e))
    by_line (some cs) e = by_clocks cs e (follow_clocks f cs) refl

-- ---- at rest

-- what is kept after n lines, at rest with this plan
abbrev pub rested_after : ℕ → Plan → Progress
rested_after n plan = record { lines = n; state = state_number idle; entries = length plan; plan_bytes = length (write_plan plan) }

pub rested : (n : ℕ) (f : Follower) → Kept f → f.state ≡ idle → progress_of n f ≡ rested_after n f.plan
rested n f k e =
    let c = k.within.counts in
    let u : unended_in f.state ≡ 0 = ap unended_in e in
    let b : length f.bits ≡ 0 = ap length (k.blank (ap inside e)) in
    let x : f.entries ≡ length f.plan = omega (arith, c.entries_are) in
    let y : f.plan_bytes ≡ length (write_plan f.plan) = omega (arith, c.bytes_are) in
    rw (e, x, y)

-- the end of the text is accepted
pub record RestedAt (l : Bytes) (f : Follower) (plan : Plan) : Type 0 where
  pub none_behind : l ≡ []
  pub at_rest : f.state ≡ idle
  pub its_plan : f.plan ≡ plan

pub rest_at : (n : ℕ) (f : Follower) (l : Bytes) (plan : Plan) → and_then (at_end f refusal.clock_line l (suc n)) (at_rest_law n) ≡ ok plan → RestedAt l f plan
rest_at n f (b ∷ l) plan e = absurd (not_ok e)
rest_at n f [] plan e = go (is_in idle f.state) refl e
  where
    go : (t : Bool) → is_in idle f.state ≡ t → cond t (ok f.plan) (refused refusal.clock_line n) ≡ ok plan → RestedAt [] f plan
    go false q x = absurd (not_ok x)
    go true q x = record { none_behind = refl; at_rest = is_idle f.state q; its_plan = ok_is x }
