-- A stretch of clocks: where it leads, and what it adds to the plan's text.
-- Assumes nothing.
use mathlib.Core.Path.{◌≡◌, refl, sym, ap, ◌∙◌}
use mathlib.Core.Bool.{Bool, true, false, cond}
use mathlib.Core.List.{[], ◌∷◌, ◌++◌, map, append_assoc}
use Prim.Native.Nat.{ℕ, zero, suc, ◌+◌, ◌-◌, ◌≤◌, ◌<◌, min}
use native.Mathlib.Omega.{arith}
use native.Mathlib.Nat.{add-zero}
use lib.ListN.{length, take, drop, get_or, length-append, length-drop, drop_of_length-le}
use lib.Seq.{drop-drop, get_or-drop}
use lib.Dec.{eqb}
use borrow.Author.Tests.{eqb-true}
use Rattle.model.specs.Text.{Bytes}
use Rattle.model.specs.Tap.{Tap, reset, idle, selectDR, captureDR, shiftDR, exit1DR, pauseDR, exit2DR, updateDR, selectIR, captureIR, shiftIR, exit1IR, pauseIR, exit2IR, updateIR, next, state_at, state_number, state_after, action, bit_byte}
use Rattle.model.proofs.Lists.{drop_map}
use Rattle.recover_model.specs.RecoverCalls.{at_entry, at_clock, added_text}
use Rattle.text_runs.specs.Runs.{run_length, is_zero}
use Rattle.text_runs.proofs.RunLaws.{run_bytes}
use Rattle.plan_text.specs.Writing.{write_at}
use Rattle.plan_text.proofs.Writing.{write_none, write_length, write_behind}
use Rattle.clock_writer.specs.declared.State.{State}
use Rattle.clock_writer.specs.declared.State.TheVariants.{CaptureDR, ShiftDR, UpdateDR}
use Rattle.clock_writer.specs.Machine.{is_one, state_code, next_number}
use Rattle.clock_writer.proofs.Table.{number_at, numbered, code_other, run_end}
use Rattle.clock_follower.specs.Stretches.{EndsStretch, clocks_text, entry_text, stretch_text, clocks_from, AreBits, Wrote}
use Rattle.clock_follower.proofs.Counts.{Staying, staying, IsStretch, stretch_rest}

-- ---- one clock

pub record TextOfState (t : Tap) : Type 0 where
  pub clock : (d : Bool) → at_clock (action t) d ≡ clocks_text (state_number t) (bit_byte d ∷ [])
  pub entry : at_entry (action t) ≡ entry_text (state_number t)

pub text_of_state : (t : Tap) → TextOfState t
text_of_state reset = record { clock = λ d. refl; entry = refl }
text_of_state idle = record { clock = λ d. refl; entry = refl }
text_of_state selectDR = record { clock = λ d. refl; entry = refl }
text_of_state captureDR = record { clock = λ d. refl; entry = refl }
text_of_state shiftDR = record { clock = λ d. refl; entry = refl }
text_of_state exit1DR = record { clock = λ d. refl; entry = refl }
text_of_state pauseDR = record { clock = λ d. refl; entry = refl }
text_of_state exit2DR = record { clock = λ d. refl; entry = refl }
text_of_state updateDR = record { clock = λ d. refl; entry = refl }
text_of_state selectIR = record { clock = λ d. refl; entry = refl }
text_of_state captureIR = record { clock = λ d. refl; entry = refl }
text_of_state shiftIR = record { clock = λ d. refl; entry = refl }
text_of_state exit1IR = record { clock = λ d. refl; entry = refl }
text_of_state pauseIR = record { clock = λ d. refl; entry = refl }
text_of_state exit2IR = record { clock = λ d. refl; entry = refl }
text_of_state updateIR = record { clock = λ d. refl; entry = refl }

-- a state by its number, and the one behind it
module _ (s b t : ℕ) (leads : next_number s (is_one b) ≡ t) where
  pub state_next : next (state_at s) (is_one b) ≡ state_at t
  state_next = sym (numbered (next (state_at s) (is_one b))).1 ∙ ap state_at leads

  clock_text : s < 16 → (d : ℕ) (rest : Bytes) → bit_byte (is_one d) ≡ d
      → at_clock (action (state_at s)) (is_one d) ++ (at_entry (action (next (state_at s) (is_one b))) ++ rest) ≡ clocks_text s (d ∷ []) ++ (entry_text t ++ rest)
  clock_text small d rest is-bit =
      let n = next (state_at s) (is_one b) in
      ap (λ (l : Bytes). l ++ (at_entry (action n) ++ rest))
      ((text_of_state (state_at s)).clock (is_one d) ∙ ap (λ (k : ℕ). clocks_text k (bit_byte (is_one d) ∷ [])) (number_at s small) ∙ ap (λ (v : ℕ). clocks_text s (v ∷ [])) is-bit)
      ∙ ap (λ (l : Bytes). clocks_text s (d ∷ []) ++ (l ++ rest)) ((text_of_state n).entry ∙ ap entry_text leads)

-- ---- a stretch

pub stretch_state : (count s t : ℕ) (tms : Bytes) → IsStretch s tms (suc count) t → state_after (state_at s) (map is_one tms) ≡ state_after (state_at t) (map is_one (drop (suc count) tms))
unfolding state_after
stretch_state count s t [] x = absurd (omega (arith, x.within))
stretch_state zero s t (b ∷ tms) x = ap (λ (y : Tap). state_after y (map is_one tms)) (state_next s b t (x.leads 0 refl))
stretch_state (suc count) s t (b ∷ tms) x =
    ap (λ (y : Tap). state_after y (map is_one tms)) (state_next s b s (x.stays 0 (omega arith))) ∙ stretch_state count s t tms (stretch_rest s b count t tms x)

-- a clock that stays adds its bit to those of the others
text_more : (s d : ℕ) (bits rest : Bytes) → Staying s → clocks_text s (d ∷ []) ++ (entry_text s ++ (clocks_text s bits ++ rest)) ≡ clocks_text s (d ∷ bits) ++ rest
text_more s d bits rest in-state = rw (in-state.no_capture, in-state.no_update) (go (eqb s 4))
  where
    go : (shifts : Bool) → cond shifts (d ∷ []) [] ++ (cond shifts bits [] ++ rest) ≡ cond shifts (d ∷ bits) [] ++ rest
    go true = refl
    go false = refl

pub stretch_text_law : (count s t : ℕ) (tms tdi : Bytes) → s < 16 → length tdi ≡ length tms → AreBits tdi → IsStretch s tms (suc count) t
    → added_text (state_at s) (clocks_from tms tdi) ≡ clocks_text s (take (suc count) tdi) ++ (entry_text t ++ added_text (state_at t) (clocks_from (drop (suc count) tms) (drop (suc count) tdi)))
unfolding added_text
stretch_text_law count s t [] tdi small same bits x = absurd (omega (arith, x.within))
stretch_text_law count s t (b ∷ tms) [] small same bits x = absurd (omega arith)
stretch_text_law zero s t (b ∷ tms) (d ∷ tdi) small same bits x =
    let leads = x.leads 0 refl in
    clock_text s b t leads small d _ (ap (λ (l : Bytes). get_or l 0 0) bits)
    ∙ ap (λ (y : Tap). clocks_text s (d ∷ []) ++ (entry_text t ++ added_text y (clocks_from tms tdi))) (state_next s b t leads)
stretch_text_law (suc count) s t (b ∷ tms) (d ∷ tdi) small same bits x =
    let stays : next_number s (is_one b) ≡ s = x.stays 0 (omega arith) in
    clock_text s b s stays small d _ (ap (λ (l : Bytes). get_or l 0 0) bits)
    ∙ ap (λ (y : Tap). clocks_text s (d ∷ []) ++ (entry_text s ++ added_text y (clocks_from tms tdi))) (state_next s b s stays)
    ∙ ap (λ (l : Bytes). clocks_text s (d ∷ []) ++ (entry_text s ++ l)) (stretch_text_law count s t tms tdi small (omega arith) (ap (drop 1) bits) (stretch_rest s b count t tms x))
    ∙ text_more s d (take (suc count) tdi) _ (staying s (is_one b) stays)

-- ---- states that write nothing

pub no_clocks_text : (s : State) (bits : Bytes) → (s ≡ ShiftDR → ⊥) → (s ≡ UpdateDR → ⊥) → clocks_text (state_code s) bits ≡ []
no_clocks_text s bits f g = rw (code_other s ShiftDR f, code_other s UpdateDR g)

pub no_entry_text : (t : State) → (t ≡ CaptureDR → ⊥) → entry_text (state_code t) ≡ []
no_entry_text t f = rw (code_other t CaptureDR f)

pub ruleset writing_nothing = (no_clocks_text, no_entry_text, write_none)

pub ruleset writing_both = (write_behind, length-append)

-- ---- stretches as the code finds them

pub stretch_small : (s t count : ℕ) (tms : Bytes) → IsStretch s tms count t → t < 16
stretch_small s t zero tms x = absurd (omega (arith, x.some_clock))
stretch_small s t (suc count) tms x = rw (← x.leads count refl) (numbered (next (state_at s) (is_one (get_or tms count 0)))).0

-- zeros that stay, or some of them, and the clock behind them
pub zeros_end : (s at last : ℕ) (tms : Bytes) → next_number s false ≡ s → last ≡ at + run_length is_zero (drop at tms) → at < length tms → EndsStretch s tms at (min (last + 1) (length tms))
zeros_end s at last tms stays is more =
    record { some_clock = omega arith; within = omega arith; stays = λ k h. rw (eqb-true (get_or (drop at tms) k 0) 48 (run_bytes is_zero (drop at tms) k (omega arith))) stays }

-- its clocks, with the state that the last one leads to
pub stretch_of : (s at end t : ℕ) (tms : Bytes) → EndsStretch s tms at end → t ≡ next_number s (is_one (get_or tms (end - 1) 0)) → IsStretch s (drop at tms) (end - at) t
stretch_of s at end t tms x leads = record {
  some_clock = omega (arith, x.some_clock);
  within = omega (arith, x.some_clock, x.within, length-drop at tms);
  stays = λ k h. x.stays k (omega (arith, x.some_clock));
  leads = λ k h. let z : at + k ≡ end - 1 = omega (arith, x.some_clock) in rw (get_or-drop, z) (sym leads);
}

-- ---- the plan's text written stretch by stretch

abbrev rest_text : ℕ → ℕ → Bytes → Bytes → Bytes
rest_text state i tms tdi = added_text (state_at state) (clocks_from (drop i tms) (drop i tdi))

-- up to clock i: what the clocks from there on add, written from a place on, makes the plan and the state whole
pub record WrittenTo (state₀ at₀ : ℕ) (tms tdi plan₀ plan : Bytes) (state at i : ℕ) : Type 0 where
  pub within : i ≤ length tms
  pub small : state < 16
  pub size : length plan ≡ length plan₀
  pub leads : state_after (state_at state) (map is_one (drop i tms)) ≡ state_after (state_at state₀) (map is_one tms)
  pub behind : at + length (rest_text state i tms tdi) ≡ at₀ + length (added_text (state_at state₀) (clocks_from tms tdi))
  pub left : write_at at (rest_text state i tms tdi) plan ≡ write_at at₀ (added_text (state_at state₀) (clocks_from tms tdi)) plan₀

-- the bits of the clocks from clock i on up to an end
abbrev pub bits_from : ℕ → ℕ → Bytes → Bytes
bits_from i end tdi = take (end - i) (drop i tdi)

module _ (state₀ at₀ : ℕ) (tms tdi plan₀ plan : Bytes) (state at i : ℕ) (so : WrittenTo state₀ at₀ tms tdi plan₀ plan state at i) where
  pub written_end : length tms ≤ i → Wrote state₀ at₀ tms tdi plan₀ state at plan
  unfolding state_after added_text
  written_end l =
      let none : rest_text state i tms tdi ≡ [] = rw (drop_of_length-le tms l) in
      record {
        leads = run_end tms state i _ so.leads so.small l;
        behind = sym (add-zero at) ∙ ap (λ (x : Bytes). at + length x) (sym none) ∙ so.behind;
        left = sym (write_none at plan) ∙ ap (λ (x : Bytes). write_at at x plan) (sym none) ∙ so.left;
      }

  module _ (same : length tdi ≡ length tms) (bits : AreBits tdi) (end t : ℕ) (e : EndsStretch state tms i end) (leads : t ≡ next_number state (is_one (get_or tms (end - 1) 0))) where
    x : IsStretch state (drop i tms) (end - i) t
    x = stretch_of state i end t tms e leads

    behind_x : i + (end - i) ≡ end
    behind_x = omega (arith, e.some_clock)

    abbrev new : Bytes
    new = stretch_text state (bits_from i end tdi) t

    parts : rest_text state i tms tdi ≡ new ++ rest_text t end tms tdi
    parts = go (end - i) x ∙ ap (λ (n : ℕ). clocks_text state (bits_from i end tdi) ++ (entry_text t ++ rest_text t n tms tdi)) behind_x ∙ sym (append_assoc (clocks_text state (bits_from i end tdi)) (entry_text t) _)
      where
        go : (n : ℕ) → IsStretch state (drop i tms) n t → rest_text state i tms tdi ≡ clocks_text state (take n (drop i tdi)) ++ (entry_text t ++ rest_text t (i + n) tms tdi)
        go zero y = absurd (omega (arith, y.some_clock))
        go (suc n) y =
            rw (← drop-drop (suc n) i tms, ← drop-drop (suc n) i tdi)
            (stretch_text_law n state t (drop i tms) (drop i tdi) so.small (omega (arith, length-drop i tms, length-drop i tdi)) (sym (drop_map _ i tdi) ∙ ap (drop i) bits) y)

    state_on : state_after (state_at t) (map is_one (drop end tms)) ≡ state_after (state_at state₀) (map is_one tms)
    state_on = ap (λ (n : ℕ). state_after (state_at t) (map is_one (drop n tms))) (sym behind_x) ∙ go (end - i) x
      where
        go : (n : ℕ) → IsStretch state (drop i tms) n t → state_after (state_at t) (map is_one (drop (i + n) tms)) ≡ state_after (state_at state₀) (map is_one tms)
        go zero y = absurd (omega (arith, y.some_clock))
        go (suc n) y = rw (← drop-drop (suc n) i tms) (sym (stretch_state n state t (drop i tms) y) ∙ so.leads)

    -- where there is room for all, there is room for the next stretch
    pub stretch_fits : at₀ + length (added_text (state_at state₀) (clocks_from tms tdi)) ≤ length plan₀ → at + length new ≤ length plan
    stretch_fits fits = omega (arith, so.behind, so.size, ap length parts, length-append new (rest_text t end tms tdi))

    pub written_on : at + length new ≤ length plan → (at' : ℕ) (plan' : Bytes) → (at' ≡ at + length new) × (plan' ≡ write_at at new plan) → WrittenTo state₀ at₀ tms tdi plan₀ plan' t at' end
    written_on room at' plan' w =
        let rest = rest_text t end tms tdi in
        let text : write_at at' rest plan' ≡ write_at at (rest_text state i tms tdi) plan =
        ap (λ (n : ℕ). write_at n rest plan') w.0 ∙ ap (write_at (at + length new) rest) w.1 ∙ write_behind at new plan room rest ∙ ap (λ (l : Bytes). write_at at l plan) (sym parts) in
        record {
          within = e.within;
          small = stretch_small state t (end - i) (drop i tms) x;
          size = ap length w.1 ∙ write_length at new plan room ∙ so.size;
          leads = state_on;
          behind = omega (arith, so.behind, w.0, ap length parts, length-append new rest);
          left = text ∙ so.left;
        }
