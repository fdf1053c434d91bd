-- Laws of the loops that make the other two numbers of a row from the marks of a path: the setting with 0 in the steering bits on
-- the path, and the targets on it.
-- Assumes nothing.
use mathlib.Core.Path.{◌≡◌, sym, ap, ◌∙◌}
use mathlib.Core.Bool.{cond}
use mathlib.Core.List.{List}
use Prim.Native.Nat.{ℕ, suc, ◌+◌, ◌*◌, ◌-◌, ◌/◌, ◌%◌, ◌^◌, ◌≤◌, ◌<◌}
use native.Mathlib.Nat.{pow-suc, pow-le-pow_right, div-div-eq-div-mul, sub_self}
use native.Mathlib.Omega.{arith}
use lib.Dec.{eqb}
use lib.ListN.{get_or}
use borrow.Author.Tests.{eq-eqb, ne_eqb}
use Rattle.model.specs.Network.{tabulate}
use Rattle.model.specs.Path.{ScanPath, bit_value, on}
use Rattle.network_words.proofs.WordLaws.{value_is}
use Rattle.network_draft.specs.declared.store.Summary.{Summary}
use Rattle.network_draft.specs.Represents.{InLimits, stored_at, target_at}
use Rattle.network_draft.proofs.TargetLaws.{target_names}
use Rattle.planner_theory.specs.Settings.{base_of}
use Rattle.planner_theory.specs.Moves.{mask_of, on_path}
use Rattle.planner_steering.specs.declared.SteeringBit.{SteeringBit}
use Rattle.planner_steering.specs.Steering.{segment_at, pair_at}
use Rattle.planner_settings.specs.Route.{MarksOf, BaseBy, MaskBy}
use Rattle.planner_steering.proofs.Numbering.{front, none_left, all_left, digits_small}

-- ---- one digit

pub power_small : (j : ℕ) → j ≤ 6 → 3 ^ j ≤ 729
power_small j l = pow-le-pow_right {n = 3} (omega arith) {j = 6} l

pub power_positive : (w j : ℕ) → w ≡ 3 ^ j → 0 < w
power_positive w j e = omega (arith, pow-le-pow_right {n = 3} (omega arith) {i = 0} {j = j} (omega arith))

-- one digit more
more_digits : (b k j : ℕ) → 0 < j → j ≤ k → b ^ (k - (j - 1)) ≡ b ^ (k - j) * b
more_digits b k j lt le = ap (λ (i : ℕ). b ^ i) (let z : k - (j - 1) ≡ suc (k - j) = omega arith in z) ∙ pow-suc b (k - j)

-- ---- the setting with 0 in the steering bits on the path

pub record Based (marks : List ℕ) (listed : List SteeringBit) (k x j base : ℕ) : Type 0 where
  pub passed : j ≤ k
  pub is : (p : ScanPath) → MarksOf marks p → base ≡ base_of (tabulate (pair_at listed) j (k - j)) p (x / 3 ^ j)
  pub small : base < 3 ^ (k - j)

module _ (marks : List ℕ) (listed : List SteeringBit) (k : ℕ) (few : k ≤ 6) (x : ℕ) where
  pub based_none : Based marks listed k x k 0
  unfolding base_of
  based_none = record { passed = omega arith; is = λ p m. rw (none_left (pair_at listed) k); small = rw (sub_self k) (omega arith) }

  module _ (j base : ℕ) (b : Based marks listed k x j base) where
    pub based_small : base < 729
    based_small = omega (arith, b.small, digits_small k j few)

    pub based_more : (d : ℕ) → 0 < j → segment_at listed (j - 1) ≤ 128 → d ≡ cond (eqb (get_or marks (segment_at listed (j - 1)) 0) 1) 0 (x / 3 ^ (j - 1) % 3) → d ≤ 2
        → Based marks listed k x (j - 1) (base * 3 + d)
    unfolding base_of
    based_more d lt within e most =
        let next : x / 3 ^ (j - 1) / 3 ≡ x / 3 ^ j =
        div-div-eq-div-mul x (3 ^ (j - 1)) 3 ∙ ap (λ (n : ℕ). x / n) (sym (pow-suc 3 (j - 1)) ∙ ap (λ (n : ℕ). 3 ^ n) (omega arith)) in
        record {
          passed = omega (arith, b.passed);
          is = λ p m.
              let here : d ≡ cond (on p (segment_at listed (j - 1))) 0 (x / 3 ^ (j - 1) % 3) =
              e ∙ rw (value_is (on p (segment_at listed (j - 1))) (get_or marks (segment_at listed (j - 1)) 0) (m (segment_at listed (j - 1)) within)) in
              rw (front (pair_at listed) k j lt b.passed, next) (omega (arith, here, b.is p m));
          small = omega (arith, b.small, more_digits 3 k j lt b.passed);
        }

    pub based_all : j ≤ 0 → BaseBy marks listed k x base
    based_all l =
        let z : j ≡ 0 = omega arith in
        let w : x / 3 ^ j ≡ x = ap (λ (n : ℕ). x / 3 ^ n) z ∙ (let o : x / 1 ≡ x = omega arith in o) in
        record { is = λ p m. b.is p m ∙ rw (all_left (pair_at listed) k j l, w); small = based_small }

-- ---- the targets on the path

pub record Masked (marks : List ℕ) (t : Summary) (i mask : ℕ) : Type 0 where
  pub passed : i ≤ t.target_count
  pub is : (ns : List ℕ) (p : ScanPath) → MarksOf marks p → mask ≡ mask_of (on_path p) (tabulate (target_at ns t) i (t.target_count - i))
  pub small : mask < 2 ^ (t.target_count - i)

module _ (marks : List ℕ) (t : Summary) (in_limits : InLimits t) where
  pub masked_none : Masked marks t t.target_count 0
  unfolding mask_of
  masked_none = record {
    passed = omega arith;
    is = λ ns p m. rw (none_left (target_at ns t) t.target_count);
    small = rw (sub_self t.target_count) (omega arith);
  }

  module _ (i mask : ℕ) (q : Masked marks t i mask) where
    pub masked_more : (s : ℕ) → 0 < i → s ≡ (stored_at t (i - 1)).segment → s ≤ 128 → get_or marks s 0 ≤ 1 → Masked marks t (i - 1) (mask * 2 + get_or marks s 0)
    unfolding mask_of
    masked_more s lt e within most = record {
      passed = omega (arith, q.passed);
      is = λ ns p m.
          let here : get_or marks s 0 ≡ bit_value (on_path p (target_at ns t (i - 1))) = m s within ∙ ap (λ (r : ℕ). bit_value (on p r)) (e ∙ sym (target_names ns t (i - 1))) in
          rw (front (target_at ns t) t.target_count i lt q.passed) (omega (arith, here, q.is ns p m));
      small = omega (arith, q.small, more_digits 2 t.target_count i lt q.passed);
    }
