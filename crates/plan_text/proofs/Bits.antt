-- The bits at the front of a text.
-- Assumes nothing.
use mathlib.Core.Path.{◌≡◌, refl, ap, ◌∙◌}
use mathlib.Core.Bool.{Bool, true, false, cond, ◌&&◌}
use Rattle.std.specs.Prelude.{None as none, Some as some}
use mathlib.Core.List.{List, [], ◌∷◌, ◌++◌, map}
use Prim.Native.Nat.{ℕ, suc, ◌+◌, ◌-◌, ◌≤◌}
use native.Mathlib.Omega.{arith}
use lib.ListN.{length, take, drop, length-drop}
use lib.Dec.{eqb, leb}
use borrow.Author.Tests.{ne_eqb, eqb-true, eqb-false, leb-true, leb-false}
use Rattle.model.specs.Text.{Bytes, line_end, bit}
use Rattle.model.specs.Tap.{bit_byte}
use Rattle.text_runs.specs.Runs.{in_run, run_length}
use Rattle.plan_text.specs.Lines.{or_stop, bit_run}

-- ---- one byte

bit_other : (b : ℕ) → (48 ≤ b → b ≤ 49 → ⊥) → bit b ≡ none
bit_other b h = rw (ne_eqb b 48 (λ e. h (omega arith) (omega arith)), ne_eqb b 49 (λ e. h (omega arith) (omega arith)))

bit_known : (b : ℕ) → 48 ≤ b → b ≤ 49 → (v : Bool) × (bit b ≡ some v)
bit_known b l h = go (eqb b 48) refl
  where
    go : (t : Bool) → eqb b 48 ≡ t → (v : Bool) × (cond t (some false) (cond (eqb b 49) (some true) none) ≡ some v)
    go true e = (false, refl)
    go false e = (true, (let q : b ≡ 49 = omega (arith, eqb-false b 48 e) in rw q))

-- ---- the bits of a whole text

-- as many as the bytes of a run up to `1`
pub run_is : (t : Bytes) → run_length (in_run 49) t ≡ length (bit_run t)
unfolding bit_run run_length
run_is [] = refl
run_is (b ∷ t) = go (leb 48 b) refl (leb b 49) refl (run_is t)
  where
    go : (x : Bool) → leb 48 b ≡ x → (y : Bool) → leb b 49 ≡ y → run_length (in_run 49) t ≡ length (bit_run t) → cond (x && y) (suc (run_length (in_run 49) t)) 0 ≡ length (or_stop (bit b) (bit_run t))
    go true p true q e = rw (bit_known b (leb-true 48 b p) (leb-true b 49 q)).1 (ap suc e)
    go true p false q e = rw (bit_other b (λ l h. omega (arith, leb-false b 49 q)))
    go false p y q e = rw (bit_other b (λ l h. omega (arith, leb-false 48 b p)))

-- they are what stands there
pub run_front : (t : Bytes) → (length (bit_run t) ≤ length t) × (take (length (bit_run t)) t ≡ map bit_byte (bit_run t))
unfolding bit_run
run_front [] = (omega arith, refl)
run_front (b ∷ t) = go (eqb b 48) refl (eqb b 49) refl (run_front t)
  where
    go : (x : Bool) → eqb b 48 ≡ x → (y : Bool) → eqb b 49 ≡ y → (length (bit_run t) ≤ length t) × (take (length (bit_run t)) t ≡ map bit_byte (bit_run t))
        → let bs = or_stop (cond x (some false) (cond y (some true) none)) (bit_run t) in (length bs ≤ suc (length t)) × (take (length bs) (b ∷ t) ≡ map bit_byte bs)
    go true p y q r = (omega (arith, r.0), rw (eqb-true b 48 p, r.1))
    go false p true q r = (omega (arith, r.0), rw (eqb-true b 49 q, r.1))
    go false p false q r = (omega arith, refl)

-- the place behind the bits from a place on, and the part between the two
pub run_part : (t : Bytes) (at end : ℕ) → at ≤ length t → end ≡ at + length (bit_run (drop at t))
    → (end ≤ length t) × (take (end - at) (drop at t) ≡ map bit_byte (bit_run (drop at t)))
run_part t at end h e =
    let n : end - at ≡ length (bit_run (drop at t)) = omega arith in
    (omega (arith, (run_front (drop at t)).0, length-drop at t), ap (λ (k : ℕ). take k (drop at t)) n ∙ (run_front (drop at t)).1)

-- bits that a line's end follows
pub run_written : (bs : List Bool) (t : Bytes) → bit_run (map bit_byte bs ++ line_end ∷ t) ≡ bs
unfolding bit_run
run_written [] t = refl
run_written (true ∷ bs) t = ap (λ (l : List Bool). true ∷ l) (run_written bs t)
run_written (false ∷ bs) t = ap (λ (l : List Bool). false ∷ l) (run_written bs t)
