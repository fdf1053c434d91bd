-- The run at the front of a text: byte by byte and by blocks, for any test of a byte.
-- Assumes nothing.
use mathlib.Core.Path.{◌≡◌, refl, ap}
use mathlib.Core.Bool.{Bool, true, false, cond, not, ◌&&◌}
use mathlib.Core.List.{List, [], ◌∷◌}
use Prim.Native.Nat.{ℕ, zero, suc, ◌+◌, ◌-◌, ◌≤◌, ◌<◌}
use native.Mathlib.Omega.{arith}
use native.Mathlib.Numerals.{add-one}
use lib.ListN.{length, drop, get_or, drop_of_length-le, length-drop}
use lib.Seq.{drop-cons, drop-drop}
use lib.Dec.{eqb, leb}
use Rattle.std.proofs.lemmas.Bool.Decides.{nat_tests}
use borrow.Author.Tests.{leb-true, leb-false, le-leb, lt-leb}
use Rattle.model.specs.Text.{Bytes, parts, in_first}
use Rattle.model.proofs.Lists.{and_parts}
use Rattle.text.specs.Places.{bytes_before}
use Rattle.text_runs.specs.Runs.{in_run, other, run_length}

-- ---- the run from place i on, by the byte there

run_by : (good : ℕ → Bool) (t : Bytes) (i : ℕ) → i < length t → (v : Bool) → good (get_or t i 0) ≡ v
    → run_length good (drop i t) ≡ cond v (suc (run_length good (drop (suc i) t))) 0
unfolding run_length
run_by good t i h v e = rw (drop-cons t i 0 h, e)

pub run_none : (good : ℕ → Bool) (t : Bytes) (i : ℕ) → length t ≤ i → run_length good (drop i t) ≡ 0
unfolding run_length
run_none good t i h = rw (drop_of_length-le t h)

pub run_here : (good : ℕ → Bool) (t : Bytes) (i : ℕ) → i < length t → good (get_or t i 0) ≡ false → run_length good (drop i t) ≡ 0
run_here good t i h e = run_by good t i h false e

pub run_more : (good : ℕ → Bool) (t : Bytes) (i : ℕ) → i < length t → good (get_or t i 0) ≡ true → run_length good (drop i t) ≡ 1 + run_length good (drop (i + 1) t)
run_more good t i h e = rw add-one (omega (arith, run_by good t i h true e))

-- ---- the run from a place on, a part of it passed at once

run_drop : (good : ℕ → Bool) (t : Bytes) (n : ℕ) → n ≤ run_length good t → run_length good t ≡ n + run_length good (drop n t)
unfolding run_length
run_drop good t zero h = omega arith
run_drop good [] (suc n) h = absurd (omega arith)
run_drop good (b ∷ t) (suc n) h = go (good b) (run_drop good t n) h
  where
    go : (v : Bool) → (n ≤ run_length good t → run_length good t ≡ n + run_length good (drop n t))
        → suc n ≤ cond v (suc (run_length good t)) 0 → cond v (suc (run_length good t)) 0 ≡ suc n + run_length good (drop n t)
    go false f l = absurd (omega arith)
    go true f l = omega (arith, f (omega arith))

pub run_past : (good : ℕ → Bool) (t : Bytes) (at n : ℕ) → n ≤ run_length good (drop at t) → run_length good (drop at t) ≡ n + run_length good (drop (at + n) t)
run_past good t at n h = rw (← drop-drop n at t) (run_drop good (drop at t) n h)

-- the test of a block, one byte more
module _ (good : ℕ → Bool) (t : Bytes) (at j : ℕ) (inside : at + j < length t) where
  abbrev count : ℕ
  count = run_length good (drop at t)

  block_by : (x : Bool) → leb j count ≡ x → (v : Bool) → good (get_or t (at + j) 0) ≡ v → leb (j + 1) count ≡ (x && v)
  block_by false e v p = lt-leb (j + 1) count (omega (arith, leb-false j count e))
  block_by true e false p = lt-leb (j + 1) count (omega (arith, run_past good t at j (leb-true j count e), run_here good t (at + j) inside p))
  block_by true e true p = le-leb (j + 1) count (omega (arith, run_past good t at j (leb-true j count e), run_more good t (at + j) inside p))

  pub run_block : leb (j + 1) (run_length good (drop at t)) ≡ (leb j (run_length good (drop at t)) && good (get_or t (at + j) 0))
  run_block = block_by (leb j count) refl (good (get_or t (at + j) 0)) refl

-- ---- the bytes of the run

pub run_within : (good : ℕ → Bool) (t : Bytes) → run_length good t ≤ length t
unfolding run_length
run_within good [] = omega arith
run_within good (b ∷ t) = go (good b) (run_within good t)
  where
    go : (v : Bool) → run_length good t ≤ length t → cond v (suc (run_length good t)) 0 ≤ suc (length t)
    go true h = omega arith
    go false h = omega arith

pub run_fits : (good : ℕ → Bool) (t : Bytes) (i : ℕ) → i ≤ length t → i + run_length good (drop i t) ≤ length t
run_fits good t i h = omega (arith, run_within good (drop i t), length-drop i t)

-- a run that passes a place behind which all are of it
pub run_to_end : (good : ℕ → Bool) (t : Bytes) (at i last : ℕ) → at ≤ last → last ≤ i → last ≤ length t → i + run_length good (drop i t) ≡ at + run_length good (drop at t)
    → length t ≤ last + run_length good (drop last t) → length t ≡ at + run_length good (drop at t)
run_to_end good t at i last a b c whole all =
    let to_last : at + (last - at) ≡ last = omega arith in
    let past : run_length good (drop at t) ≡ last - at + run_length good (drop last t) = rw to_last at (run_past good t at (last - at) (omega arith)) in
    omega (arith, past, run_fits good t last c)

pub ruleset runs = (nat_tests, run_none, run_here, run_more, run_past, run_block, run_fits)

pub run_bytes : (good : ℕ → Bool) (t : Bytes) (k : ℕ) → k < run_length good t → good (get_or t k 0) ≡ true
unfolding run_length
run_bytes good [] k h = absurd (omega arith)
run_bytes good (b ∷ t) k h = go (good b) refl k h (run_bytes good t)
  where
    go : (v : Bool) → good b ≡ v → (k : ℕ) → k < cond v (suc (run_length good t)) 0 → ((j : ℕ) → j < run_length good t → good (get_or t j 0) ≡ true)
        → good (get_or (b ∷ t) k 0) ≡ true
    go false e k l f = absurd (omega arith)
    go true e zero l f = e
    go true e (suc k) l f = f k (omega arith)

-- of a run of zeros each byte is one
pub run_zero : (t : Bytes) (k : ℕ) → k < run_length (in_run 48) t → get_or t k 0 ≡ 48
run_zero t k h =
    let b = get_or t k 0 in
    let p = and_parts (leb 48 b) (leb b 48) (run_bytes (in_run 48) t k h) in
    omega (arith, leb-true 48 b p.0, leb-true b 48 p.1)

-- ---- up to a separator

pub run_before : (sep : ℕ) (t : Bytes) → run_length (other sep) t ≡ bytes_before sep t
unfolding run_length bytes_before parts
run_before sep [] = refl
run_before sep (b ∷ t) = go (eqb b sep) (parts sep t) (run_before sep t)
  where
    go : (x : Bool) (ps : List Bytes) → run_length (other sep) t ≡ length (get_or ps 0 [])
        → cond (not x) (suc (run_length (other sep) t)) 0 ≡ length (get_or (cond x ([] ∷ ps) (in_first b ps)) 0 [])
    go true ps e = refl
    go false [] e = ap suc e
    go false (p ∷ ps) e = ap suc e
