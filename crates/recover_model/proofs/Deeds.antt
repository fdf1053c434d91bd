-- Only the clocks in Capture-DR, Shift-DR and Update-DR act on the test frame: what they do in turn fixes its registers and what shows.
-- Assumes nothing.
use mathlib.Core.Path.{◌≡◌, refl, ap, ◌∙◌}
use mathlib.Core.Bool.{Bool, false}
use Rattle.std.specs.Prelude.{Option, None as none}
use mathlib.Core.List.{List, [], ◌∷◌, map}
use Prim.Native.Nat.{ℕ, suc}
use Rattle.model.specs.Frame.{Registers, setting, Captures, act_on, shows_on, tick, shown, play, showing}
use Rattle.model.specs.Network.{Network}
use Rattle.model.specs.Path.{Walk, path, stop, walk}
use Rattle.model.specs.Tap.{Tap, next, state_after, Action, capture, shift, update, keep, action, Clock}
use Rattle.model.proofs.Playing.{fr}
use Rattle.recover_model.specs.Recovered.{add_shown, bits_shown}
use Rattle.recover_model.proofs.ClockLines.{tms_of}

pub data Deed : Type 0 where
  captures : (ℕ → Bool) → Deed
  shifts : Bool → Deed
  updates : Deed

abbrev pub add_deed : Action → (ℕ → Bool) → Bool → List Deed → List Deed
add_deed capture fed tdi later = captures fed ∷ later
add_deed shift fed tdi later = shifts tdi ∷ later
add_deed update fed tdi later = updates ∷ later
add_deed keep fed tdi later = later

-- the deeds of these clocks from state t, the first of them clock i
unfoldable pub deeds : Captures → Tap → ℕ → List Clock → List Deed
deeds fed t i [] = []
deeds fed t i (c ∷ cs) = add_deed (action t) (fed i) c.tdi (deeds fed (next t c.tms) (suc i) cs)

-- ---- deeds in turn

-- what a deed reads besides the registers is fixed, so the other input may be any bit
abbrev did : Network → Registers → Deed → Registers
did net rs (captures fed) = act_on (walk net (setting rs)) capture fed false rs
did net rs (shifts tdi) = act_on (walk net (setting rs)) shift (λ k. false) tdi rs
did net rs updates = act_on (walk net (setting rs)) update (λ k. false) false rs

abbrev says : Network → Registers → Deed → Option Bool
says net rs (captures fed) = shows_on (walk net (setting rs)) capture false rs
says net rs (shifts tdi) = shows_on (walk net (setting rs)) shift tdi rs
says net rs updates = shows_on (walk net (setting rs)) update false rs

unfoldable pub registers_after : Network → Registers → List Deed → Registers
registers_after net rs [] = rs
registers_after net rs (x ∷ xs) = registers_after net (did net rs x) xs

unfoldable pub shown_by : Network → Registers → List Deed → List Bool
shown_by net rs [] = []
shown_by net rs (x ∷ xs) = add_shown (says net rs x) (shown_by net (did net rs x) xs)

on_capture : (w : Walk) (fed : ℕ → Bool) (d : Bool) (rs : Registers) → act_on w capture fed d rs ≡ act_on w capture fed false rs
on_capture (path p) fed d rs = refl
on_capture (stop m) fed d rs = refl

on_shift : (w : Walk) (fed : ℕ → Bool) (d : Bool) (rs : Registers) → act_on w shift fed d rs ≡ act_on w shift (λ k. false) d rs
on_shift (path p) fed d rs = refl
on_shift (stop m) fed d rs = refl

on_update : (w : Walk) (fed : ℕ → Bool) (d : Bool) (rs : Registers) → act_on w update fed d rs ≡ act_on w update (λ k. false) false rs
on_update (path p) fed d rs = refl
on_update (stop m) fed d rs = refl

on_keep : (w : Walk) (fed : ℕ → Bool) (d : Bool) (rs : Registers) → act_on w keep fed d rs ≡ rs
on_keep (path p) fed d rs = refl
on_keep (stop m) fed d rs = refl

says_capture : (w : Walk) (d : Bool) (rs : Registers) → shows_on w capture d rs ≡ none
says_capture (path p) d rs = refl
says_capture (stop m) d rs = refl

says_update : (w : Walk) (d : Bool) (rs : Registers) → shows_on w update d rs ≡ none
says_update (path p) d rs = refl
says_update (stop m) d rs = refl

says_keep : (w : Walk) (d : Bool) (rs : Registers) → shows_on w keep d rs ≡ none
says_keep (path p) d rs = refl
says_keep (stop m) d rs = refl

module _ (net : Network) (fed : Captures) where
  one_deed : (a : Action) (g : ℕ → Bool) (d : Bool) (rs : Registers) (later : List Deed)
      → registers_after net (act_on (walk net (setting rs)) a g d rs) later ≡ registers_after net rs (add_deed a g d later)
  unfolding registers_after
  one_deed capture g d rs later = rw (on_capture (walk net (setting rs)) g d rs)
  one_deed shift g d rs later = rw (on_shift (walk net (setting rs)) g d rs)
  one_deed update g d rs later = rw (on_update (walk net (setting rs)) g d rs)
  one_deed keep g d rs later = rw (on_keep (walk net (setting rs)) g d rs)

  one_shown : (a : Action) (g : ℕ → Bool) (d : Bool) (rs : Registers) (later : List Deed)
      → add_shown (shows_on (walk net (setting rs)) a d rs) (shown_by net (act_on (walk net (setting rs)) a g d rs) later) ≡ shown_by net rs (add_deed a g d later)
  unfolding shown_by
  one_shown capture g d rs later = rw (says_capture (walk net (setting rs)) d rs, says_capture (walk net (setting rs)) false rs, on_capture (walk net (setting rs)) g d rs)
  one_shown shift g d rs later = rw (on_shift (walk net (setting rs)) g d rs)
  one_shown update g d rs later = rw (says_update (walk net (setting rs)) d rs, says_update (walk net (setting rs)) false rs, on_update (walk net (setting rs)) g d rs)
  one_shown keep g d rs later = rw (says_keep (walk net (setting rs)) d rs, on_keep (walk net (setting rs)) g d rs)

  pub played_state : (cs : List Clock) (t : Tap) (i : ℕ) (rs : Registers) → (play net fed i (fr t rs) cs).state ≡ state_after t (map tms_of cs)
  unfolding play tick state_after
  played_state [] t i rs = refl
  played_state (c ∷ cs) t i rs = played_state cs (next t c.tms) (suc i) (act_on (walk net (setting rs)) (action t) (fed i) c.tdi rs)

  pub played_registers : (cs : List Clock) (t : Tap) (i : ℕ) (rs : Registers) → (play net fed i (fr t rs) cs).registers ≡ registers_after net rs (deeds fed t i cs)
  unfolding play tick deeds registers_after
  played_registers [] t i rs = refl
  played_registers (c ∷ cs) t i rs =
      played_registers cs (next t c.tms) (suc i) (act_on (walk net (setting rs)) (action t) (fed i) c.tdi rs)
      ∙ one_deed (action t) (fed i) c.tdi rs (deeds fed (next t c.tms) (suc i) cs)

  pub played_shows : (cs : List Clock) (t : Tap) (i : ℕ) (rs : Registers) → bits_shown (showing net fed i (fr t rs) cs) ≡ shown_by net rs (deeds fed t i cs)
  unfolding showing shown tick deeds shown_by
  played_shows [] t i rs = refl
  played_shows (c ∷ cs) t i rs =
      ap (add_shown (shows_on (walk net (setting rs)) (action t) c.tdi rs))
      (played_shows cs (next t c.tms) (suc i) (act_on (walk net (setting rs)) (action t) (fed i) c.tdi rs))
      ∙ one_shown (action t) (fed i) c.tdi rs (deeds fed (next t c.tms) (suc i) cs)
