-- The controller's table: its rule, and the clock machine over it, clock by clock.
-- Assumes nothing.
use mathlib.Core.Path.{◌≡◌, refl, sym, ap, ◌∙◌}
use mathlib.Core.Bool.{false}
use mathlib.Core.List.{List, [], ◌∷◌, map}
use Prim.Native.Nat.{ℕ, ◌+◌, ◌≤◌, ◌<◌}
use native.Mathlib.Nat.{zero-add}
use native.Mathlib.Numerals.{add-one}
use lib.ListN.{length, get_or, drop, drop_of_length-le, get_or-map}
use lib.Seq.{drop-cons}
use lib.Dec.{eqb, lit<}
use borrow.Author.Tests.{ne_eqb}
use Rattle.model.specs.Tap.{Tap, reset, idle, selectDR, captureDR, shiftDR, exit1DR, pauseDR, exit2DR, updateDR, selectIR, captureIR, shiftIR, exit1IR, pauseIR, exit2IR, updateIR, next, states, state_at, state_number, state_after}
use Rattle.model.specs.Text.{Bytes}
use Rattle.model.proofs.Lists.{get_d_tabulate}
use Rattle.clock_writer.specs.declared.State.{State}
use Rattle.clock_writer.specs.declared.State.TheVariants.{TestLogicReset, RunTestIdle, SelectDR, CaptureDR, ShiftDR, Exit1DR, PauseDR, Exit2DR, UpdateDR, SelectIR, CaptureIR, ShiftIR, Exit1IR, PauseIR, Exit2IR, UpdateIR}
use Rattle.clock_writer.specs.Machine.{is_one, state_code, next_number}

-- ---- the states and their numbers

pub number_at : (s : ℕ) → s < 16 → state_number (state_at s) ≡ s
number_at s h = sym (get_or-map state_number states s reset) ∙ get_d_tabulate (λ k. k) 0 16 s 0 h ∙ zero-add s

pub numbered : (t : Tap) → (state_number t < 16) × (state_at (state_number t) ≡ t)
numbered reset = (lit< tt, refl)
numbered idle = (lit< tt, refl)
numbered selectDR = (lit< tt, refl)
numbered captureDR = (lit< tt, refl)
numbered shiftDR = (lit< tt, refl)
numbered exit1DR = (lit< tt, refl)
numbered pauseDR = (lit< tt, refl)
numbered exit2DR = (lit< tt, refl)
numbered updateDR = (lit< tt, refl)
numbered selectIR = (lit< tt, refl)
numbered captureIR = (lit< tt, refl)
numbered shiftIR = (lit< tt, refl)
numbered exit1IR = (lit< tt, refl)
numbered pauseIR = (lit< tt, refl)
numbered exit2IR = (lit< tt, refl)
numbered updateIR = (lit< tt, refl)

-- ---- the code's states and their numbers

abbrev in_order : List State
in_order =
    TestLogicReset ∷ RunTestIdle ∷ SelectDR ∷ CaptureDR ∷ ShiftDR ∷ Exit1DR ∷ PauseDR ∷ Exit2DR ∷ UpdateDR
    ∷ SelectIR ∷ CaptureIR ∷ ShiftIR ∷ Exit1IR ∷ PauseIR ∷ Exit2IR ∷ UpdateIR ∷ []

coded : (s : State) → (state_code s < 16) × (get_or in_order (state_code s) TestLogicReset ≡ s)
coded TestLogicReset = (lit< tt, refl)
coded RunTestIdle = (lit< tt, refl)
coded SelectDR = (lit< tt, refl)
coded CaptureDR = (lit< tt, refl)
coded ShiftDR = (lit< tt, refl)
coded Exit1DR = (lit< tt, refl)
coded PauseDR = (lit< tt, refl)
coded Exit2DR = (lit< tt, refl)
coded UpdateDR = (lit< tt, refl)
coded SelectIR = (lit< tt, refl)
coded CaptureIR = (lit< tt, refl)
coded ShiftIR = (lit< tt, refl)
coded Exit1IR = (lit< tt, refl)
coded PauseIR = (lit< tt, refl)
coded Exit2IR = (lit< tt, refl)
coded UpdateIR = (lit< tt, refl)

pub code_small : (s : State) → state_code s < 16
code_small s = (coded s).0

pub code_same : (s t : State) → state_code s ≡ state_code t → s ≡ t
code_same s t e = sym (coded s).1 ∙ ap (λ (n : ℕ). get_or in_order n TestLogicReset) e ∙ (coded t).1

pub code_other : (s t : State) → (s ≡ t → ⊥) → eqb (state_code s) (state_code t) ≡ false
code_other s t f = ne_eqb (state_code s) (state_code t) (λ e. f (code_same s t e))

-- ---- the state s from clock i on, where t is the last state

module _ (tms : Bytes) (s i : ℕ) (t : Tap) (whole : state_after (state_at s) (map is_one (drop i tms)) ≡ t) where
  pub run_end : s < 16 → length tms ≤ i → s ≡ state_number t
  unfolding state_after
  run_end h l =
      let e : state_after (state_at s) (map is_one (drop i tms)) ≡ state_at s = rw (drop_of_length-le tms l) in
      sym (number_at s h) ∙ ap state_number (sym e ∙ whole)

  pub run_next : (r : ℕ) → i < length tms → r ≡ next_number s (is_one (get_or tms i 0)) → state_after (state_at r) (map is_one (drop (i + 1) tms)) ≡ t
  unfolding state_after
  run_next r l e =
      let n = numbered (next (state_at s) (is_one (get_or tms i 0))) in
      rw (e, n.1, add-one) (sym (rw (drop-cons tms i 0 l)) ∙ whole)
