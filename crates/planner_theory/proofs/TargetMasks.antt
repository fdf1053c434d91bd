-- Laws of the number that has a binary digit for each target.
-- Assumes nothing.
use mathlib.Core.Path.{◌≡◌, refl, sym, ap, ◌∙◌}
use mathlib.Core.Bool.{Bool, true, false, ◌&&◌, ◌||◌}
use mathlib.Core.List.Memᴰ
use mathlib.Core.List.{List, [], ◌∷◌, ◌++◌, Memᴰ}
use Prim.Native.Nat.{ℕ, ◌≤◌, ◌<◌, ◌+◌, ◌*◌, ◌-◌, ◌/◌, ◌%◌, ◌^◌, max}
use native.Mathlib.Nat.{two-pow-succ}
use native.Mathlib.Omega.{arith}
use lib.Dec.{eqb}
use lib.ListN.{length}
use lib.Bits.{bit_or, or_step}
use borrow.Author.Tests.{eqb-true, eqb-false, eq-eqb, ne_eqb}
use Rattle.model.specs.Network.{Target}
use Rattle.model.specs.NetworkText.{target_segment}
use Rattle.model.specs.Path.{ScanPath, bit_value, on}
use Rattle.model.specs.Plan.{OnSome}
use Rattle.model.proofs.Lists.{true_false, and_parts, and_both, or_right, or_false_right, or_assoc}
use Rattle.planner_theory.specs.Moves.{mask_of, on_path, all_of}

bit_small : (b : Bool) → bit_value b ≤ 1
bit_small true = omega arith
bit_small false = omega arith

pub mask_small : (f : Target → Bool) (ts : List Target) → mask_of f ts < 2 ^ length ts
unfolding mask_of
mask_small f [] = omega arith
mask_small f (t ∷ ts) = rw (two-pow-succ (length ts)) (omega (arith, bit_small (f t), mask_small f ts))

-- ---- the targets of both

pub mask_or : (f g h : Target → Bool) → ((t : Target) → h t ≡ (f t || g t)) → (ts : List Target) → mask_of h ts ≡ bit_or (mask_of f ts) (mask_of g ts)
unfolding mask_of
mask_or f g h e [] = refl
mask_or f g h e (t ∷ ts) = rw (e t, mask_or f g h e ts) (by (f t) (g t) (mask_of f ts) (mask_of g ts))
  where
    half : (b : Bool) (a : ℕ) → (bit_value b + 2 * a) / 2 ≡ a
    half b a = omega (arith, bit_small b)

    low : (b : Bool) (a : ℕ) → (bit_value b + 2 * a) % 2 ≡ bit_value b
    low b a = omega (arith, bit_small b)

    top : (b d : Bool) → max (bit_value b) (bit_value d) ≡ bit_value (b || d)
    top true true = refl
    top true false = refl
    top false true = refl
    top false false = refl

    by : (b d : Bool) (x y : ℕ) → bit_value (b || d) + 2 * bit_or x y ≡ bit_or (bit_value b + 2 * x) (bit_value d + 2 * y)
    by b d x y =
        sym (or_step (bit_value b + 2 * x) (bit_value d + 2 * y)
        ∙ rw (half b x, half d y, low b x, low d y, top b d) (omega arith))

-- ---- all targets

unfoldable pub all : (Target → Bool) → List Target → Bool
all f [] = true
all f (t ∷ ts) = f t && all f ts

pub mask_all : (f : Target → Bool) (ts : List Target) → eqb (mask_of f ts) (all_of ts) ≡ all f ts
unfolding mask_of all
mask_all f [] = refl
mask_all f (t ∷ ts) = rw (two-pow-succ (length ts)) (by (f t) (all f ts) (mask_all f ts) (mask_small f ts))
  where
    n : ℕ
    n = 2 ^ length ts

    by : (b r : Bool) → eqb (mask_of f ts) (n - 1) ≡ r → mask_of f ts < n → eqb (bit_value b + 2 * mask_of f ts) (n + n - 1) ≡ (b && r)
    by false r e lt = ne_eqb (0 + 2 * mask_of f ts) (n + n - 1) (λ z. omega arith)
    by true true e lt = let z : mask_of f ts ≡ n - 1 = eqb-true (mask_of f ts) (n - 1) e in eq-eqb (1 + 2 * mask_of f ts) (n + n - 1) (omega arith)
    by true false e lt = ne_eqb (1 + 2 * mask_of f ts) (n + n - 1) (λ z. eqb-false (mask_of f ts) (n - 1) e (omega arith))

pub all_each : (f : Target → Bool) (ts : List Target) → all f ts ≡ true → (t : Target) → Memᴰ t ts → f t ≡ true
unfolding all
all_each f [] e t m = absurd (Memᴰ.not-nil m)
all_each f (u ∷ ts) e t (Memᴰ.head z) = ap f z ∙ (and_parts (f u) (all f ts) e).0
all_each f (u ∷ ts) e t (Memᴰ.tail m) = all_each f ts (and_parts (f u) (all f ts) e).1 t m

pub each_all : (f : Target → Bool) (ts : List Target) → ((t : Target) → Memᴰ t ts → f t ≡ true) → all f ts ≡ true
unfolding all
each_all f [] e = refl
each_all f (t ∷ ts) e = and_both (f t) (all f ts) (e t (Memᴰ.head refl)) (each_all f ts (λ u m. e u (Memᴰ.tail m)))

-- ---- the targets that have been on one of these paths

unfoldable pub met : List ScanPath → Target → Bool
met [] t = false
met (p ∷ ps) t = on_path p t || met ps t

pub met_none : (ts : List Target) → mask_of (met []) ts ≡ 0
unfolding met mask_of
met_none [] = refl
met_none (t ∷ ts) = omega (arith, met_none ts)

pub met_more : (ps : List ScanPath) (p : ScanPath) (t : Target) → met (ps ++ p ∷ []) t ≡ (met ps t || on_path p t)
unfolding met
met_more [] p t = or_false_right (on_path p t)
met_more (q ∷ ps) p t = rw (met_more ps p t) (or_assoc (on_path q t) (met ps t) (on_path p t))

pub met_on : (ps : List ScanPath) (t : Target) → met ps t ≡ true → OnSome ps (target_segment t)
unfolding met
met_on [] t e = absurd (true_false (sym e))
met_on (p ∷ ps) t e = by (on_path p t) refl e (λ f. met_on ps t f)
  where
    by : (b : Bool) → on_path p t ≡ b → (b || met ps t) ≡ true → (met ps t ≡ true → OnSome ps (target_segment t)) → OnSome (p ∷ ps) (target_segment t)
    by true q f g = (p, Memᴰ.head refl, q)
    by false q f g = let r = g f in (r.0, Memᴰ.tail r.1, r.2)

pub on_met : (ps : List ScanPath) (t : Target) → OnSome ps (target_segment t) → met ps t ≡ true
unfolding met
on_met [] t x = absurd (Memᴰ.not-nil x.1)
on_met (p ∷ ps) t x = by x.0 x.1 x.2 (λ y. on_met ps t y)
  where
    by : (r : ScanPath) → Memᴰ r (p ∷ ps) → on r (target_segment t) ≡ true → (OnSome ps (target_segment t) → met ps t ≡ true) → (on_path p t || met ps t) ≡ true
    by r (Memᴰ.head e) o f = rw (ap (λ (y : ScanPath). on y (target_segment t)) (sym e) ∙ o)
    by r (Memᴰ.tail m) o f = or_right (on_path p t) (met ps t) (f (r, m, o))
