-- Laws of the settings by number: from a setting to its number and back.
-- Assumes nothing.
use mathlib.Core.Path.{◌≡◌, refl, sym, ap, ◌∙◌}
use mathlib.Core.Bool.{Bool, true, false, cond, ◌&&◌}
use Rattle.std.specs.Prelude.{None as none, Some as some}
use mathlib.Core.List.{List, [], ◌∷◌, Memᴰ}
use Prim.Native.Nat.{ℕ, zero, suc, ◌≤◌, ◌<◌, ◌+◌, ◌*◌, ◌/◌, ◌%◌, ◌^◌}
use native.Mathlib.Nat.{pow-suc, pow-succ', div-div-eq-div-mul, le_of_suc-le-suc, not-suc-le-zero}
use native.Mathlib.Omega.{arith}
use lib.Dec.{eqb}
use lib.ListN.{length, get_or}
use Rattle.model.specs.Path.{ScanPath, on}
use Rattle.model.specs.Text.{Trit}
use Rattle.model.proofs.Lists.{eqb_is, eqb_same, true_false, and_parts, and_both}
use Rattle.planner_theory.specs.Settings.{Distinct, distinct_nil, distinct_cons, digit_of, trit_of, Look, setting_of, look_up, base_of}
use Rattle.planner_theory.proofs.Steering.{get_d_in}

-- ---- the test of a place

pub same_place : (q : ℕ × ℕ) (s b : ℕ) → (eqb q.0 s && eqb q.1 b) ≡ true → q ≡ (s, b)
same_place q s b e =
    let p = and_parts (eqb q.0 s) (eqb q.1 b) e in
    let x : q.0 ≡ s = eqb_is q.0 s p.0 in
    let y : q.1 ≡ b = eqb_is q.1 b p.1 in
    ap (λ (k : ℕ). (k, q.1)) x ∙ ap (λ (k : ℕ). (s, k)) y

pub place_same : (q : ℕ × ℕ) → (eqb q.0 q.0 && eqb q.1 q.1) ≡ true
place_same q = and_both (eqb q.0 q.0) (eqb q.1 q.1) (eqb_same q.0) (eqb_same q.1)

pub place_other : (q : ℕ × ℕ) (s b : ℕ) → (q ≡ (s, b) → ⊥) → (eqb q.0 s && eqb q.1 b) ≡ false
place_other q s b ne = by (eqb q.0 s && eqb q.1 b) refl
  where
    by : (t : Bool) → (eqb q.0 s && eqb q.1 b) ≡ t → (eqb q.0 s && eqb q.1 b) ≡ false
    by true e = absurd (ne (same_place q s b e))
    by false e = e

-- ---- digits

pub trit_digit : (t : Trit) → trit_of (digit_of t) ≡ t
trit_digit none = refl
trit_digit (some false) = refl
trit_digit (some true) = refl

digit_small : (t : Trit) → digit_of t ≤ 2
digit_small none = omega arith
digit_small (some false) = omega arith
digit_small (some true) = omega arith

digit_trit : (d : ℕ) → d < 3 → digit_of (trit_of d) ≡ d
digit_trit zero l = refl
digit_trit (suc zero) l = refl
digit_trit (suc (suc zero)) l = refl
digit_trit (suc (suc (suc d))) l = absurd (omega arith)

-- ---- numbers

pub setting_same : (sb : List (ℕ × ℕ)) (look look' : Look) → ((q : ℕ × ℕ) → Memᴰ q sb → look q.0 q.1 ≡ look' q.0 q.1) → setting_of sb look ≡ setting_of sb look'
unfolding setting_of
setting_same [] look look' e = refl
setting_same (q ∷ sb) look look' e = rw (e q (mathlib.Core.List.Memᴰ.head refl), setting_same sb look look' (λ r m. e r (mathlib.Core.List.Memᴰ.tail m)))

pub setting_small : (sb : List (ℕ × ℕ)) (look : Look) → setting_of sb look < 3 ^ length sb
unfolding setting_of
setting_small [] look = omega arith
setting_small (q ∷ sb) look = rw (pow-suc 3 (length sb)) (omega (arith, digit_small (look q.0 q.1), setting_small sb look))

-- a setting's values are those that its number was made of
pub look_setting : (sb : List (ℕ × ℕ)) (look : Look) (s b : ℕ) → Memᴰ (s, b) sb → look_up sb (setting_of sb look) s b ≡ look s b
unfolding setting_of look_up
look_setting [] look s b m = absurd (mathlib.Core.List.Memᴰ.not-nil m)
look_setting (q ∷ sb) look s b m = by (eqb q.0 s && eqb q.1 b) refl m (λ k. look_setting sb look s b k)
  where
    d : ℕ
    d = digit_of (look q.0 q.1)

    n : ℕ
    n = setting_of sb look

    low : (d + n * 3) % 3 ≡ d
    low = omega (arith, digit_small (look q.0 q.1))

    rest : (d + n * 3) / 3 ≡ n
    rest = omega (arith, digit_small (look q.0 q.1))

    by : (t : Bool) → (eqb q.0 s && eqb q.1 b) ≡ t → Memᴰ (s, b) (q ∷ sb) → (Memᴰ (s, b) sb → look_up sb n s b ≡ look s b)
        → cond t (trit_of ((d + n * 3) % 3)) (look_up sb ((d + n * 3) / 3) s b) ≡ look s b
    by true e k f = let z : q ≡ (s, b) = same_place q s b e in rw low (trit_digit (look q.0 q.1) ∙ ap (λ (r : ℕ × ℕ). look r.0 r.1) z)
    by false e (mathlib.Core.List.Memᴰ.tail k) f = rw rest (f k)
    by false e (mathlib.Core.List.Memᴰ.head z) f = absurd (true_false (sym (place_same q) ∙ ap (λ (r : ℕ × ℕ). eqb q.0 r.0 && eqb q.1 r.1) (sym z) ∙ e))

-- the value of steering bit j in setting x is digit j of x
pub look_at : (sb : List (ℕ × ℕ)) → Distinct sb → (x j : ℕ) → j < length sb → look_up sb x (get_or sb j (0, 0)).0 (get_or sb j (0, 0)).1 ≡ trit_of (x / 3 ^ j % 3)
unfolding look_up
look_at [] d x j l = absurd (not-suc-le-zero l)
look_at (q ∷ sb) d x zero l = let z : x ≡ x / 3 ^ 0 = omega arith in rw (place_same q) (ap (λ (k : ℕ). trit_of (k % 3)) z)
look_at (q ∷ sb) (distinct_cons fresh d) x (suc j) l =
    let r = get_or sb j (0, 0) in
    let m : Memᴰ r sb = get_d_in sb j (0, 0) (le_of_suc-le-suc l) in
    let e : x / 3 ^ suc j ≡ x / 3 / 3 ^ j = ap (λ (k : ℕ). x / k) (pow-succ' 3 j) ∙ sym (div-div-eq-div-mul x 3 (3 ^ j)) in
    rw (place_other q r.0 r.1 (λ z. fresh (mathlib.Core.List.Memᴰ.cast z m)), e) (look_at sb d (x / 3) j (le_of_suc-le-suc l))

-- the number with 0 in the steering bits on a path
pub base_is : (sb : List (ℕ × ℕ)) → Distinct sb → (p : ScanPath) (x : ℕ) → setting_of sb (λ s b. cond (on p s) (some false) (look_up sb x s b)) ≡ base_of sb p x
unfolding setting_of base_of look_up
base_is _ distinct_nil p x = refl
base_is _ (distinct_cons {a = q} {l = sb} fresh d) p x =
    let first : digit_of (cond (on p q.0) (some false) (look_up (q ∷ sb) x q.0 q.1)) ≡ cond (on p q.0) 0 (x % 3)
    = rw (place_same q) (digit (on p q.0)) in
    let later : setting_of sb (λ s b. cond (on p s) (some false) (look_up (q ∷ sb) x s b)) ≡ setting_of sb (λ s b. cond (on p s) (some false) (look_up sb (x / 3) s b))
    = setting_same sb _ _ (λ r m. rw (place_other q r.0 r.1 (λ z. fresh (mathlib.Core.List.Memᴰ.cast z m)))) in
    rw (first, later, base_is sb d p (x / 3))
  where
    digit : (t : Bool) → digit_of (cond t (some false) (trit_of (x % 3))) ≡ cond t 0 (x % 3)
    digit true = refl
    digit false = digit_trit (x % 3) (omega arith)
