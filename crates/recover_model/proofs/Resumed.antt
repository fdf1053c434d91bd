-- State and counts are enough to go on: a line from a progress is followed as from the follower that the progress stands for.
-- Assumes nothing.
use mathlib.Core.Path.{◌≡◌, refl, sym, ap, ◌∙◌, subst}
use mathlib.Core.Bool.{Bool, true, false, cond}
use Rattle.std.specs.Prelude.{Option, None as none, Some as some}
use mathlib.Core.List.{List, [], ◌∷◌}
use Prim.Native.Nat.{ℕ, suc}
use Rattle.model.specs.Tap.{Tap, reset, idle, selectDR, captureDR, shiftDR, exit1DR, pauseDR, exit2DR, updateDR, selectIR, captureIR, shiftIR, exit1IR, pauseIR, exit2IR, updateIR, next, state_at, state_number, Clock}
use Rattle.model.specs.Text.{bind}
use Rattle.recover_model.specs.Recover.{Follower, moved, offends, follow_clock, follow_clocks}
use Rattle.recover_model.specs.RecoverCalls.{progress_of, added_text, resumed, Step, step_over}
use Rattle.recover_model.proofs.Following.{moved_state, moved_more}

-- ---- followers with the same state and counts

pub record Alike (f g : Follower) : Type 0 where
  pub state : f.state ≡ g.state
  pub entries : f.entries ≡ g.entries
  pub plan_bytes : f.plan_bytes ≡ g.plan_bytes

pub alike_progress : (n : ℕ) (f g : Follower) → Alike f g → progress_of n f ≡ progress_of n g
alike_progress n f g a = rw (a.state, a.entries, a.plan_bytes)

alike_offends : (f g : Follower) → Alike f g → offends f ≡ offends g
alike_offends f g a = rw (a.state, a.entries, a.plan_bytes)

moved_alike : (f g : Follower) (c : Clock) → Alike f g → Alike (moved f c) (moved g c)
moved_alike f g c a = record {
  state = moved_state f c ∙ ap (λ (t : Tap). next t c.tms) a.state ∙ sym (moved_state g c);
  entries = (moved_more f c).entries ∙ rw (a.state, a.entries) (sym (moved_more g c).entries);
  plan_bytes = (moved_more f c).plan_bytes_law ∙ rw (a.state, a.plan_bytes) (sym (moved_more g c).plan_bytes_law);
}

-- both are followed, or neither
pub data Both : Option Follower → Option Follower → Type 0 where
  neither : Both none none
  both : {f g : Follower} → Alike f g → Both (some f) (some g)

clock_alike : (f g : Follower) (c : Clock) → Alike f g → Both (follow_clock f c) (follow_clock g c)
unfolding follow_clock
clock_alike f g c a =
    let m = moved_alike f g c a in
    subst (λ (t : Bool). Both (cond (offends (moved f c)) none (some (moved f c))) (cond t none (some (moved g c)))) (alike_offends (moved f c) (moved g c) m) (go m (offends (moved f c)))
  where
    go : Alike (moved f c) (moved g c) → (t : Bool) → Both (cond t none (some (moved f c))) (cond t none (some (moved g c)))
    go m true = neither
    go m false = both m

both_then : {x y : Option Follower} (k : Follower → Option Follower) → Both x y → ((f g : Follower) → Alike f g → Both (k f) (k g)) → Both (bind x k) (bind y k)
both_then k neither h = neither
both_then k (both a) h = h _ _ a

pub clocks_alike : (cs : List Clock) (f g : Follower) → Alike f g → Both (follow_clocks f cs) (follow_clocks g cs)
unfolding follow_clocks
clocks_alike [] f g a = both a
clocks_alike (c ∷ cs) f g a = both_then (λ h. follow_clocks h cs) (clock_alike f g c a) (λ h k b. clocks_alike cs h k b)

-- ---- states and their numbers

pub state_numbered : (t : Tap) → state_at (state_number t) ≡ t
state_numbered reset = refl
state_numbered idle = refl
state_numbered selectDR = refl
state_numbered captureDR = refl
state_numbered shiftDR = refl
state_numbered exit1DR = refl
state_numbered pauseDR = refl
state_numbered exit2DR = refl
state_numbered updateDR = refl
state_numbered selectIR = refl
state_numbered captureIR = refl
state_numbered shiftIR = refl
state_numbered exit1IR = refl
state_numbered pauseIR = refl
state_numbered exit2IR = refl
state_numbered updateIR = refl

-- ---- a line from a progress

-- where these clocks lead a follower after n lines, and the text that they add
abbrev pub step_from : ℕ → Follower → List Clock → Option Step
step_from n f cs = bind (follow_clocks f cs) (λ g. some (record { after = progress_of (suc n) g; text = added_text f.state cs }))

pub step_from_law : (n : ℕ) (f : Follower) (cs : List Clock) → step_over (progress_of n f) cs ≡ step_from n f cs
step_from_law n f cs = go (follow_clocks (resumed (progress_of n f)) cs) (follow_clocks f cs) (clocks_alike cs _ _ record { state = state_numbered f.state; entries = refl; plan_bytes = refl })
  where
    step_to : Tap → Follower → Option Step
    step_to t g = some (record { after = progress_of (suc n) g; text = added_text t cs })

    go : (x y : Option Follower) → Both x y → bind x (step_to (state_at (state_number f.state))) ≡ bind y (step_to f.state)
    go x y neither = refl
    go x y (both a) = rw (state_numbered f.state, alike_progress (suc n) _ _ a)
