-- Laws of sets of sets of targets: one bit, one set more in a union, and the loops over the 16 sets of targets.
-- Assumes nothing.
use mathlib.Core.Path.{◌≡◌, refl, sym, ap, ◌∙◌}
use mathlib.Core.Bool.{Bool, true, false, ◌&&◌, ◌||◌}
use mathlib.Core.Logic.{◌⊎◌, inl, inr}
use Prim.Native.Nat.{ℕ, ◌+◌, ◌/◌, ◌^◌, ◌≤◌, ◌<◌}
use native.Mathlib.Omega.{arith}
use native.Mathlib.Decide.{dec_lt}
use borrow.Author.Tests.{ne_eqb, eqb-true}
use lib.Bits.{bit_and, bit_or, and_mask, or_lt, or_zero_r}
use lib.Dec.{eqb}
use Rattle.model.proofs.Lists.{true_false, eqb_same, or_left, or_right, or_false_right}
use Rattle.network_words.specs.Words.{word_bit}
use Rattle.network_words.proofs.WordTests.{word_bit_or, word_bit_and, word_bit_pow}
use Rattle.planner_table.specs.Sets.{Before, Joined}

-- ---- one bit

pub bit_tested : (w i : ℕ) → eqb (bit_and (w / 2 ^ i) 1) 1 ≡ word_bit w i
bit_tested w i = ap (λ (n : ℕ). eqb n 1) (and_mask (w / 2 ^ i) 1)

-- two sets of targets together
pub together_small : (m g : ℕ) → m < 16 → g < 16 → bit_or m g < 16
together_small m g a b = or_lt 4 m g a b

-- one of two has it
pub or_cases : (a b : Bool) → (a || b) ≡ true → (a ≡ true) ⊎ (b ≡ true)
or_cases true b e = inl refl
or_cases false b e = inr e

-- a set besides
pub with_one : (r m y : ℕ) → word_bit (bit_or r (2 ^ m)) y ≡ (word_bit r y || eqb m y)
with_one r m y = word_bit_or r (2 ^ m) y ∙ ap (λ (t : Bool). word_bit r y || t) (word_bit_pow m y)

-- ---- each of sets together with g

-- with no target
pub joined_alone : (sets g : ℕ) → g ≡ 0 → Joined sets g sets
joined_alone sets g z = record {
  has = λ m lt e. rw (z, or_zero_r m) e;
  from = λ y lt e. record { from = y; small = lt; is = e; makes = rw z (or_zero_r y) };
}

-- of the first n sets of targets
pub record JoinedBelow (sets g n r : ℕ) : Type 0 where
  pub has : (m : ℕ) → m < n → word_bit sets m ≡ true → word_bit r (bit_or m g) ≡ true
  pub from : (y : ℕ) → y < 16 → word_bit r y ≡ true → Before sets g y

pub joined_in : (sets g n r : ℕ) → n < 16 → word_bit sets n ≡ true → JoinedBelow sets g n r → JoinedBelow sets g (n + 1) (bit_or r (2 ^ bit_or n g))
joined_in sets g n r lt e p = record { has = has; from = from }
  where
    has : (m : ℕ) → m < n + 1 → word_bit sets m ≡ true → word_bit (bit_or r (2 ^ bit_or n g)) (bit_or m g) ≡ true
    has m less f =
        with_one r (bit_or n g) (bit_or m g)
        ∙ elim (dec_lt m n) [
          | yes h ↦ or_left (word_bit r (bit_or m g)) (eqb (bit_or n g) (bit_or m g)) (p.has m h f)
          | no h ↦ let z : m ≡ n = omega arith in or_right (word_bit r (bit_or m g)) (eqb (bit_or n g) (bit_or m g)) (rw z (eqb_same (bit_or n g)))
        ]

    from : (y : ℕ) → y < 16 → word_bit (bit_or r (2 ^ bit_or n g)) y ≡ true → Before sets g y
    from y less f = by (or_cases (word_bit r y) (eqb (bit_or n g) y) (sym (with_one r (bit_or n g) y) ∙ f))
      where
        by : (word_bit r y ≡ true) ⊎ (eqb (bit_or n g) y ≡ true) → Before sets g y
        by (inl f) = p.from y less f
        by (inr f) = record { from = n; small = lt; is = e; makes = eqb-true (bit_or n g) y f }

pub joined_out : (sets g n r : ℕ) → word_bit sets n ≡ false → JoinedBelow sets g n r → JoinedBelow sets g (n + 1) r
joined_out sets g n r out p = record { has = has; from = p.from }
  where
    has : (m : ℕ) → m < n + 1 → word_bit sets m ≡ true → word_bit r (bit_or m g) ≡ true
    has m less e = elim (dec_lt m n) [
      | yes h ↦ p.has m h e
      | no h ↦ let z : m ≡ n = omega arith in absurd (true_false (sym (rw z at e) ∙ out))
    ]

-- ---- those of sets that together with g are in all

-- with no target
pub kept_alone : (sets g all : ℕ) → g ≡ 0 → (m : ℕ) → m < 16 → word_bit (bit_and sets all) m ≡ (word_bit sets m && word_bit all (bit_or m g))
kept_alone sets g all z m lt = rw (z, or_zero_r m) (word_bit_and sets all m)

-- of the first n sets of targets
pub record KeptBelow (sets g all n r : ℕ) : Type 0 where
  pub below : (m : ℕ) → m < n → word_bit r m ≡ (word_bit sets m && word_bit all (bit_or m g))
  pub beyond : (m : ℕ) → n ≤ m → m < 16 → word_bit r m ≡ false

pub kept_in : (sets g all n r : ℕ) → word_bit sets n ≡ true → word_bit all (bit_or n g) ≡ true → KeptBelow sets g all n r → KeptBelow sets g all (n + 1) (bit_or r (2 ^ n))
kept_in sets g all n r e there p = record { below = below; beyond = λ m a b. other m (λ z. omega arith) ∙ p.beyond m (omega arith) b }
  where
    other : (m : ℕ) → (n ≡ m → ⊥) → word_bit (bit_or r (2 ^ n)) m ≡ word_bit r m
    other m ne = with_one r n m ∙ ap (λ (v : Bool). word_bit r m || v) (ne_eqb n m ne) ∙ or_false_right (word_bit r m)

    below : (m : ℕ) → m < n + 1 → word_bit (bit_or r (2 ^ n)) m ≡ (word_bit sets m && word_bit all (bit_or m g))
    below m less = elim (dec_lt m n) [
      | yes h ↦ other m (λ z. omega arith) ∙ p.below m h
      | no h ↦ let z : m ≡ n = omega arith in rw (z, e, there) (with_one r n n ∙ or_right (word_bit r n) (eqb n n) (eqb_same n))
    ]

pub kept_out : (sets g all n r : ℕ) → n < 16 → (word_bit sets n && word_bit all (bit_or n g)) ≡ false → KeptBelow sets g all n r → KeptBelow sets g all (n + 1) r
kept_out sets g all n r lt out p = record { below = below; beyond = λ m a b. p.beyond m (omega arith) b }
  where
    below : (m : ℕ) → m < n + 1 → word_bit r m ≡ (word_bit sets m && word_bit all (bit_or m g))
    below m less = elim (dec_lt m n) [
      | yes h ↦ p.below m h
      | no h ↦ let z : m ≡ n = omega arith in rw z (p.beyond n (omega arith) lt ∙ sym out)
    ]
