-- Tables over the sixteen states: which are inside a passage, and what a state's action says of it.
-- Assumes nothing.
use mathlib.Core.Path.{◌≡◌, refl, sym}
use mathlib.Core.Bool.{Bool, true, false, cond}
use Prim.Native.Nat.{ℕ, ◌+◌}
use Rattle.model.specs.Tap.{Tap, reset, idle, selectDR, captureDR, shiftDR, exit1DR, pauseDR, exit2DR, updateDR, selectIR, captureIR, shiftIR, exit1IR, pauseIR, exit2IR, updateIR, by_tms, next, state_number, is_in, Action, capture, shift, update, keep, action}
use Rattle.model.proofs.Lists.{true_false}
use Rattle.recover_model.specs.RecoverCalls.{under_way}

-- ---- inside a passage: behind its Capture-DR clock, up to its Update-DR clock

abbrev pub inside : Tap → Bool
inside shiftDR = true
inside exit1DR = true
inside pauseDR = true
inside exit2DR = true
inside updateDR = true
inside reset = false
inside idle = false
inside selectDR = false
inside captureDR = false
inside selectIR = false
inside captureIR = false
inside shiftIR = false
inside exit1IR = false
inside pauseIR = false
inside exit2IR = false
inside updateIR = false

-- what a clock's action says of before and after it
abbrev pub inside_before : Action → Bool → Bool
inside_before capture i = false
inside_before shift i = true
inside_before update i = true
inside_before keep i = i

abbrev pub inside_after : Action → Bool → Bool
inside_after capture i = true
inside_after shift i = true
inside_after update i = false
inside_after keep i = i

pub inside_before_law : (t : Tap) → inside t ≡ inside_before (action t) (inside t)
inside_before_law reset = refl
inside_before_law idle = refl
inside_before_law selectDR = refl
inside_before_law captureDR = refl
inside_before_law shiftDR = refl
inside_before_law exit1DR = refl
inside_before_law pauseDR = refl
inside_before_law exit2DR = refl
inside_before_law updateDR = refl
inside_before_law selectIR = refl
inside_before_law captureIR = refl
inside_before_law shiftIR = refl
inside_before_law exit1IR = refl
inside_before_law pauseIR = refl
inside_before_law exit2IR = refl
inside_before_law updateIR = refl

either : (a b : Tap) (i : Bool) → inside a ≡ i → inside b ≡ i → (m : Bool) → inside (by_tms a b m) ≡ i
either a b i p q false = p
either a b i p q true = q

pub inside_next : (t : Tap) (m : Bool) → inside (next t m) ≡ inside_after (action t) (inside t)
inside_next reset = either _ _ _ refl refl
inside_next idle = either _ _ _ refl refl
inside_next selectDR = either _ _ _ refl refl
inside_next captureDR = either _ _ _ refl refl
inside_next shiftDR = either _ _ _ refl refl
inside_next exit1DR = either _ _ _ refl refl
inside_next pauseDR = either _ _ _ refl refl
inside_next exit2DR = either _ _ _ refl refl
inside_next updateDR = either _ _ _ refl refl
inside_next selectIR = either _ _ _ refl refl
inside_next captureIR = either _ _ _ refl refl
inside_next shiftIR = either _ _ _ refl refl
inside_next exit1IR = either _ _ _ refl refl
inside_next pauseIR = either _ _ _ refl refl
inside_next exit2IR = either _ _ _ refl refl
inside_next updateIR = either _ _ _ refl refl

-- ---- what an action counts: an entry to its state, a bit of its clock

abbrev pub counts_entry : Action → ℕ
counts_entry capture = 1
counts_entry shift = 0
counts_entry update = 0
counts_entry keep = 0

abbrev pub counts_bit : Action → ℕ
counts_bit capture = 0
counts_bit shift = 1
counts_bit update = 0
counts_bit keep = 0

-- a passage that has not ended: one inside it, or at its Capture-DR clock
abbrev pub unended_in : Tap → ℕ
unended_in t = cond (inside t) 1 0 + counts_entry (action t)

pub record CountsOfState (t : Tap) : Type 0 where
  pub entry : counts_entry (action t) ≡ cond (is_in captureDR t) 1 0
  pub bit : counts_bit (action t) ≡ cond (is_in shiftDR t) 1 0
  pub under_way_law : unended_in t ≡ cond (under_way (state_number t)) 1 0

pub counts_of_state : (t : Tap) → CountsOfState t
counts_of_state reset = record { entry = refl; bit = refl; under_way_law = refl }
counts_of_state idle = record { entry = refl; bit = refl; under_way_law = refl }
counts_of_state selectDR = record { entry = refl; bit = refl; under_way_law = refl }
counts_of_state captureDR = record { entry = refl; bit = refl; under_way_law = refl }
counts_of_state shiftDR = record { entry = refl; bit = refl; under_way_law = refl }
counts_of_state exit1DR = record { entry = refl; bit = refl; under_way_law = refl }
counts_of_state pauseDR = record { entry = refl; bit = refl; under_way_law = refl }
counts_of_state exit2DR = record { entry = refl; bit = refl; under_way_law = refl }
counts_of_state updateDR = record { entry = refl; bit = refl; under_way_law = refl }
counts_of_state selectIR = record { entry = refl; bit = refl; under_way_law = refl }
counts_of_state captureIR = record { entry = refl; bit = refl; under_way_law = refl }
counts_of_state shiftIR = record { entry = refl; bit = refl; under_way_law = refl }
counts_of_state exit1IR = record { entry = refl; bit = refl; under_way_law = refl }
counts_of_state pauseIR = record { entry = refl; bit = refl; under_way_law = refl }
counts_of_state exit2IR = record { entry = refl; bit = refl; under_way_law = refl }
counts_of_state updateIR = record { entry = refl; bit = refl; under_way_law = refl }

-- ---- Run-Test/Idle

pub is_idle : (t : Tap) → is_in idle t ≡ true → t ≡ idle
is_idle idle e = refl
is_idle reset e = absurd (true_false (sym e))
is_idle selectDR e = absurd (true_false (sym e))
is_idle captureDR e = absurd (true_false (sym e))
is_idle shiftDR e = absurd (true_false (sym e))
is_idle exit1DR e = absurd (true_false (sym e))
is_idle pauseDR e = absurd (true_false (sym e))
is_idle exit2DR e = absurd (true_false (sym e))
is_idle updateDR e = absurd (true_false (sym e))
is_idle selectIR e = absurd (true_false (sym e))
is_idle captureIR e = absurd (true_false (sym e))
is_idle shiftIR e = absurd (true_false (sym e))
is_idle exit1IR e = absurd (true_false (sym e))
is_idle pauseIR e = absurd (true_false (sym e))
is_idle exit2IR e = absurd (true_false (sym e))
is_idle updateIR e = absurd (true_false (sym e))
