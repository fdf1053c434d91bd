-- Laws of the loops that go through the digits from the highest down: the number of the words' setting.
-- Assumes nothing.
use mathlib.Core.Path.{◌≡◌, refl, sym, ap, ◌∙◌}
use mathlib.Core.Bool.{Bool, true, false, cond}
use Rattle.std.specs.Prelude.{None as none, Some as some}
use mathlib.Core.List.{List, [], ◌∷◌}
use Prim.Native.Nat.{ℕ, suc, ◌+◌, ◌*◌, ◌-◌, ◌^◌, ◌≤◌, ◌<◌}
use native.Mathlib.Nat.{pow-le-pow_right, sub_self}
use native.Mathlib.Omega.{arith}
use lib.ListN.{get_or}
use Rattle.model.specs.Network.{tabulate}
use Rattle.model.specs.Path.{bit_value}
use Rattle.model.proofs.Lists.{length_tabulate}
use Rattle.network_words.specs.Words.{word_bit, trit_at}
use Rattle.planner_theory.specs.Settings.{digit_of, Look, setting_of}
use Rattle.planner_theory.proofs.SettingNumbers.{setting_small}
use Rattle.planner_steering.specs.declared.SteeringBit.{SteeringBit}
use Rattle.planner_steering.specs.Steering.{segment_at, bit_number, pair_at, bits_of}

-- ---- the list from j on

-- one more in front
pub front : {A : Type 0} (f : ℕ → A) (k j : ℕ) → 0 < j → j ≤ k → tabulate f (j - 1) (k - (j - 1)) ≡ f (j - 1) ∷ tabulate f j (k - j)
front f k j a b =
    let e : k - (j - 1) ≡ suc (k - j) = omega arith in
    let g : suc (j - 1) ≡ j = omega arith in
    ap (tabulate f (j - 1)) e ∙ ap (λ (i : ℕ). f (j - 1) ∷ tabulate f i (k - j)) g

pub none_left : {A : Type 0} (f : ℕ → A) (k : ℕ) → tabulate f k (k - k) ≡ []
none_left f k = ap (tabulate f k) (sub_self k)

pub all_left : {A : Type 0} (f : ℕ → A) (k j : ℕ) → j ≤ 0 → tabulate f j (k - j) ≡ tabulate f 0 k
all_left f k j l = let e : j ≡ 0 = omega arith in let g : k - 0 ≡ k = omega arith in rw (e, g)

-- at most 6 digits
pub digits_small : (k j : ℕ) → k ≤ 6 → 3 ^ (k - j) ≤ 729
digits_small k j l = pow-le-pow_right {n = 3} (omega arith) {j = 6} (let z : k - j ≤ 6 = omega arith in z)

-- ---- the number of a setting

pub record Numbered (listed : List SteeringBit) (k : ℕ) (look : Look) (j n : ℕ) : Type 0 where
  pub passed : j ≤ k
  pub is : n ≡ setting_of (tabulate (pair_at listed) j (k - j)) look
  pub small : n < 729

module _ (listed : List SteeringBit) (k : ℕ) (few : k ≤ 6) (look : Look) where
  numbered_small : (j : ℕ) → setting_of (tabulate (pair_at listed) j (k - j)) look < 729
  numbered_small j =
      omega (arith, setting_small (tabulate (pair_at listed) j (k - j)) look, digits_small k j few, ap (λ (m : ℕ). 3 ^ m) (length_tabulate (pair_at listed) j (k - j)))

  pub numbered_none : Numbered listed k look k 0
  unfolding setting_of
  numbered_none = record { passed = omega arith; is = rw (none_left (pair_at listed) k); small = omega arith }

  pub numbered_more : (j n d : ℕ) → 0 < j → d ≡ digit_of (look (segment_at listed (j - 1)) (bit_number listed (j - 1))) → Numbered listed k look j n
      → Numbered listed k look (j - 1) (n * 3 + d)
  unfolding setting_of
  numbered_more j n d lt e p =
      let is : n * 3 + d ≡ setting_of (tabulate (pair_at listed) (j - 1) (k - (j - 1))) look =
      rw (front (pair_at listed) k j lt p.passed) (omega (arith, e, p.is)) in
      record { passed = omega (arith, p.passed); is = is; small = omega (arith, is, numbered_small (j - 1)) }
