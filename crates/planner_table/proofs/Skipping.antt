-- Laws of settings that are skipped because their entries are 0.
-- Assumes nothing.
use mathlib.Core.Path.{◌≡◌, refl, ap, ◌∙◌}
use mathlib.Core.List.{List, [], ◌∷◌}
use Prim.Native.Nat.{ℕ, zero, suc, ◌+◌, ◌-◌, ◌≤◌, ◌<◌}
use native.Mathlib.Omega.{arith}
use native.Mathlib.Decide.{dec_lt}
use lib.Bits.{bit_or, or_add_and, and_le_l, and_le_r}
use lib.ListN.{length, get_or, take, drop, length-take, length-drop}
use lib.Seq.{get_or-take, get_or-drop}
use Rattle.std.specs.Prelude.{fold}
use Rattle.planner_table.specs.Table.{Skipped}

or_left : (a b : ℕ) → bit_or a b ≡ 0 → a ≡ 0
or_left a b e = omega (arith, or_add_and a b, and_le_r a b)

or_right : (a b : ℕ) → bit_or a b ≡ 0 → b ≡ 0
or_right a b e = omega (arith, or_add_and a b, and_le_l a b)

-- the n entries from number `at` on are 0
abbrev pub NoneFrom : List ℕ → ℕ → ℕ → Type 0
NoneFrom tab at n = (k : ℕ) → k < n → get_or tab (at + k) 0 ≡ 0

-- where a union is 0, each part of it is
union_parts : (all : ℕ) (xs : List ℕ) → fold bit_or all xs ≡ 0 → (all ≡ 0) × ((k : ℕ) → get_or xs k 0 ≡ 0)
union_parts all [] e = (e, λ k. refl)
union_parts all (x ∷ xs) e = let p = union_parts (bit_or all x) xs e in (or_left all x p.0, at p)
  where
    at : (bit_or all x ≡ 0) × ((k : ℕ) → get_or xs k 0 ≡ 0) → (k : ℕ) → get_or (x ∷ xs) k 0 ≡ 0
    at p zero = or_right all x p.0
    at p (suc k) = p.1 k

pub union_none : (tab : List ℕ) (at n m : ℕ) → fold bit_or 0 (take m (drop at tab)) ≡ 0 → m ≡ n → NoneFrom tab at n
union_none tab at n m e z k l = let h = (union_parts 0 (take m (drop at tab)) e).1 k in let lt : k < m = omega arith in rw (get_or-take, get_or-drop) at h

-- n more
pub skipped_more : (tab : List ℕ) (at from end x n : ℕ) → x + n ≤ end → Skipped tab at from end x → NoneFrom tab (at + x) n → Skipped tab at from end (x + n)
skipped_more tab at from end x n l p none = record { least = omega (arith, p.least); most = l; empty = empty }
  where
    empty : (y : ℕ) → from ≤ y → y < x + n → get_or tab (at + y) 0 ≡ 0
    empty y a b = elim (dec_lt y x) [
      | yes h ↦ p.empty y a h
      | no h ↦ let z : at + y ≡ at + x + (y - x) = omega arith in ap (λ (k : ℕ). get_or tab k 0) z ∙ none (y - x) (omega arith)
    ]

-- the entries from x on, of which the first n are 0
module _ (tab : List ℕ) (at from end x : ℕ) (fits : at + end ≤ length tab) (p : Skipped tab at from end x) where
  abbrev part : List ℕ
  part = take (at + end - (at + x)) (drop (at + x) tab)

  as_long : length part ≡ end - x
  as_long = omega (arith, p.most, fits, length-take (at + end - (at + x)) (drop (at + x) tab), length-drop (at + x) tab)

  pub skipped_part : (n : ℕ) → n ≤ length part → ((j : ℕ) → j < n → get_or part j 0 ≡ 0) → Skipped tab at from end (x + n)
  skipped_part n l zeros = skipped_more tab at from end x n (omega (arith, p.most, as_long)) p (λ k m. let le : k < at + end - (at + x) = omega (arith, as_long) in rw (get_or-take, get_or-drop) at (zeros k m))

  pub skipped_rest : ((j : ℕ) → j < length part → get_or part j 0 ≡ 0) → Skipped tab at from end end
  skipped_rest zeros = let z : x + length part ≡ end = omega (arith, p.most, as_long) in rw z at (skipped_part (length part) (omega arith) zeros)
