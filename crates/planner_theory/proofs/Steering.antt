-- Laws of the list of steering bits: it has each steering bit, once, and nothing else.
-- Assumes nothing.
use mathlib.Core.Path.{◌≡◌, refl, sym, ap, ◌∙◌, subst}
use mathlib.Core.Bool.{Bool, true, false, cond, not, ◌&&◌, ◌||◌}
use mathlib.Core.Logic.{◌⊎◌, inl, inr}
use mathlib.Core.List.Memᴰ
use mathlib.Core.List.{List, [], ◌∷◌, ◌++◌, Memᴰ}
use Prim.Native.Nat.{ℕ, zero, suc, ◌≤◌, ◌<◌, ◌+◌}
use native.Mathlib.Nat.{le_of_suc-le-suc, not-suc-le-zero}
use native.Mathlib.Omega.{arith}
use native.Mathlib.Decide.{dec_lt}
use lib.Dec.{eqb, leb}
use lib.ListN.{length, get_or, get_or-eq_default}
use Rattle.model.specs.Network.{Node, segment, multiplexer, at, no_node, len_of, has_shadow, steers_at, steers, steering_in, steering_from, steering_bits}
use Rattle.model.specs.Accepted.{GoodNode}
use Rattle.model.proofs.Lists.{eqb_is, true_false, and_parts}
use Rattle.planner_theory.specs.Settings.{Distinct, distinct_nil, distinct_cons}

-- ---- no element twice

pub distinct_append : {A : Type 0} {l k : List A} → Distinct l → Distinct k → ((a : A) → Memᴰ a l → Memᴰ a k → ⊥) → Distinct (l ++ k)
distinct_append distinct_nil d f = d
distinct_append {k = k} (distinct_cons {a = a} {l = l} fresh rest) d f =
    distinct_cons (λ m. by (Memᴰ.append_cases l m)) (distinct_append rest d (λ x m n. f x (Memᴰ.tail m) n))
  where
    by : Memᴰ a l ⊎ Memᴰ a k → ⊥
    by (inl m) = fresh m
    by (inr m) = f a (Memᴰ.head refl) m

pub get_d_in : {A : Type 0} (l : List A) (i : ℕ) (d : A) → i < length l → Memᴰ (get_or l i d) l
get_d_in [] i d h = absurd (not-suc-le-zero h)
get_d_in (a ∷ l) zero d h = Memᴰ.head refl
get_d_in (a ∷ l) (suc i) d h = Memᴰ.tail (get_d_in l i d (le_of_suc-le-suc h))

-- ---- the steering bits of one segment

-- bit q stands among bits b to b + n of segment s, and steers
pub record BitIn (ns : List Node) (s b n : ℕ) (q : ℕ × ℕ) : Type 0 where
  pub seg : q.0 ≡ s
  pub low : b ≤ q.1
  pub high : q.1 < b + n
  pub steering : steers ns q.0 q.1 ≡ true

module _ (ns : List Node) (s : ℕ) where
  pub bit_in : (b n : ℕ) (q : ℕ × ℕ) → Memᴰ q (steering_in ns s b n) → BitIn ns s b n q
  unfolding steering_in
  bit_in b zero q m = absurd (Memᴰ.not-nil m)
  bit_in b (suc n) q m = by (steers ns s b) refl m (λ k. bit_in (suc b) n q k)
    where
      up : BitIn ns s (suc b) n q → BitIn ns s b (suc n) q
      up r = record { seg = r.seg; low = omega (arith, r.low); high = omega (arith, r.high); steering = r.steering }

      first : (r : ℕ × ℕ) → steers ns s b ≡ true → r ≡ (s, b) → BitIn ns s b (suc n) r
      first r t e = rw e (record { seg = refl; low = omega arith; high = omega arith; steering = t })

      by : (t : Bool) → steers ns s b ≡ t → Memᴰ q (cond t ((s, b) ∷ steering_in ns s (suc b) n) (steering_in ns s (suc b) n)) → (Memᴰ q (steering_in ns s (suc b) n) → BitIn ns s (suc b) n q)
          → BitIn ns s b (suc n) q
      by true t (Memᴰ.head e) f = first q t e
      by true t (Memᴰ.tail k) f = up (f k)
      by false t k f = up (f k)

  pub in_bits : (b n i : ℕ) → b ≤ i → i < b + n → steers ns s i ≡ true → Memᴰ (s, i) (steering_in ns s b n)
  unfolding steering_in
  in_bits b zero i l h t = absurd (omega arith)
  in_bits b (suc n) i l h t = by (steers ns s b) refl (dec_lt b i) (λ k. in_bits (suc b) n i k (omega arith) t)
    where
      by : (u : Bool) → steers ns s b ≡ u → Dec (b < i) → (suc b ≤ i → Memᴰ (s, i) (steering_in ns s (suc b) n))
          → Memᴰ (s, i) (cond u ((s, b) ∷ steering_in ns s (suc b) n) (steering_in ns s (suc b) n))
      by true e (yes k) f = Memᴰ.tail (f k)
      by false e (yes k) f = f k
      by true e (no k) f = let z : i ≡ b = omega arith in Memᴰ.head (ap (λ (j : ℕ). (s, j)) z)
      by false e (no k) f = let z : i ≡ b = omega arith in absurd (true_false (sym t ∙ ap (steers ns s) z ∙ e))

  distinct_in : (b n : ℕ) → Distinct (steering_in ns s b n)
  unfolding steering_in
  distinct_in b zero = distinct_nil
  distinct_in b (suc n) = by (steers ns s b) (distinct_in (suc b) n)
    where
      fresh : Memᴰ (s, b) (steering_in ns s (suc b) n) → ⊥
      fresh m = omega (arith, (bit_in (suc b) n (s, b) m).low)

      by : (t : Bool) → Distinct (steering_in ns s (suc b) n) → Distinct (cond t ((s, b) ∷ steering_in ns s (suc b) n) (steering_in ns s (suc b) n))
      by true d = distinct_cons fresh d
      by false d = d

-- ---- those of all segments

-- bit q is a steering bit of node s + k
pub record BitFrom (all ns : List Node) (s : ℕ) (q : ℕ × ℕ) : Type 0 where
  pub index : ℕ
  pub within : index < length ns
  pub seg : q.0 ≡ s + index
  pub inside : q.1 < len_of (get_or ns index no_node)
  pub steering : steers all q.0 q.1 ≡ true

module _ (all : List Node) where
  pub bit_from : (s : ℕ) (ns : List Node) (q : ℕ × ℕ) → Memᴰ q (steering_from all s ns) → BitFrom all ns s q
  unfolding steering_from
  bit_from s [] q m = absurd (Memᴰ.not-nil m)
  bit_from s (n ∷ ns) q m = by (Memᴰ.append_cases (steering_in all s 0 (len_of n)) m) (λ k. bit_from (suc s) ns q k)
    where
      by : Memᴰ q (steering_in all s 0 (len_of n)) ⊎ Memᴰ q (steering_from all (suc s) ns) → (Memᴰ q (steering_from all (suc s) ns) → BitFrom all ns (suc s) q) → BitFrom all (n ∷ ns) s q
      by (inl k) f = let r = bit_in all s 0 (len_of n) q k in record { index = 0; within = omega arith; seg = omega (arith, r.seg); inside = omega (arith, r.high); steering = r.steering }
      by (inr k) f = let r = f k in record { index = suc r.index; within = omega (arith, r.within); seg = omega (arith, r.seg); inside = r.inside; steering = r.steering }

  pub in_from : (s : ℕ) (ns : List Node) (k i : ℕ) → k < length ns → i < len_of (get_or ns k no_node) → steers all (s + k) i ≡ true → Memᴰ (s + k, i) (steering_from all s ns)
  unfolding steering_from
  in_from s [] k i l h t = absurd (not-suc-le-zero l)
  in_from s (n ∷ ns) zero i l h t =
      let z : s + 0 ≡ s = omega arith in
      rw z (Memᴰ.append_left (steering_from all (suc s) ns) (in_bits all s 0 (len_of n) i (omega arith) (omega arith) (rw z at t)))
  in_from s (n ∷ ns) (suc k) i l h t =
      let z : s + suc k ≡ suc s + k = omega arith in
      rw z (Memᴰ.append_right (steering_in all s 0 (len_of n)) (in_from (suc s) ns k i (le_of_suc-le-suc l) h (rw z at t)))

  distinct_from : (s : ℕ) (ns : List Node) → Distinct (steering_from all s ns)
  unfolding steering_from
  distinct_from s [] = distinct_nil
  distinct_from s (n ∷ ns) =
      distinct_append (distinct_in all s 0 (len_of n)) (distinct_from (suc s) ns)
      (λ q m k. let a = bit_in all s 0 (len_of n) q m in let b = bit_from (suc s) ns q k in omega (arith, a.seg, b.seg))

-- ---- the list of a network

pub distinct_bits : (ns : List Node) → Distinct (steering_bits ns)
distinct_bits ns = distinct_from ns 1 ns

pub record SteeringBit (ns : List Node) (q : ℕ × ℕ) : Type 0 where
  pub least : 1 ≤ q.0
  pub most : q.0 ≤ length ns
  pub inside : q.1 < len_of (at ns q.0 no_node)
  pub steering : steers ns q.0 q.1 ≡ true

pub steering_bit : (ns : List Node) (q : ℕ × ℕ) → Memᴰ q (steering_bits ns) → SteeringBit ns q
steering_bit ns q m =
    let r = bit_from ns 1 ns q m in
    let z : q.0 ≡ suc r.index = omega (arith, r.seg) in
    record { least = omega arith; most = omega (arith, r.within); inside = rw z r.inside; steering = r.steering }

-- the node that a steering bit addresses
steering_node : (ns : List Node) (s b : ℕ) → steers ns s b ≡ true → (n : ℕ) × (n < length ns) × (steers_at (get_or ns n no_node) s b ≡ true)
unfolding steers
steering_node [] s b e = absurd (true_false (sym e))
steering_node (x ∷ ns) s b e = by (steers_at x s b) refl e (λ f. steering_node ns s b f)
  where
    by : (t : Bool) → steers_at x s b ≡ t → (t || steers ns s b) ≡ true → (steers ns s b ≡ true → (n : ℕ) × (n < length ns) × (steers_at (get_or ns n no_node) s b ≡ true))
        → (n : ℕ) × (n < suc (length ns)) × (steers_at (get_or (x ∷ ns) n no_node) s b ≡ true)
    by true t f g = (0, omega arith, t)
    by false t f g = let r = g f in (suc r.0, omega (arith, r.1), r.2)

-- within its segment
address_inside : (ns : List Node) (k : ℕ) (nd : Node) (s b : ℕ) → GoodNode ns k nd → steers_at nd s b ≡ true → (has_shadow (at ns s no_node) ≡ true) × (b < len_of (at ns s no_node))
address_inside ns k (segment from len shadow) s b g e = absurd (true_false (sym e))
address_inside ns k (multiplexer t a ins) s b g e =
    let p = and_parts (eqb t s) (eqb a b || not (leb (length ins) 2) && eqb (suc a) b) e in
    let z : t ≡ s = eqb_is t s p.0 in
    (rw z at g.shadow, by (eqb a b) refl (leb (length ins) 2) p.1 (rw z at g.within))
  where
    by : (u : Bool) → eqb a b ≡ u → (v : Bool) → (u || not v && eqb (suc a) b) ≡ true → a + cond v 1 2 ≤ len_of (at ns s no_node) → b < len_of (at ns s no_node)
    by true q true f w = let y : a ≡ b = eqb_is a b q in omega arith
    by true q false f w = let y : a ≡ b = eqb_is a b q in omega arith
    by false q true f w = absurd (true_false (sym f))
    by false q false f w = let y : suc a ≡ b = eqb_is (suc a) b f in omega arith

shadow_within : (ns : List Node) (s : ℕ) → has_shadow (at ns s no_node) ≡ true → (n : ℕ) × (n < length ns) × (s ≡ suc n)
shadow_within ns zero e = absurd (true_false (sym e))
shadow_within ns (suc n) e = by (dec_lt n (length ns))
  where
    by : Dec (n < length ns) → (k : ℕ) × (k < length ns) × (suc n ≡ suc k)
    by (yes l) = (n, l, refl)
    by (no l) = absurd (true_false (sym e ∙ ap has_shadow (get_or-eq_default ns no_node (let z : length ns ≤ n = omega arith in z))))

pub bit_listed : (ns : List Node) → ((n : ℕ) → n < length ns → GoodNode ns (suc n) (get_or ns n no_node)) → (s b : ℕ) → steers ns s b ≡ true → Memᴰ (s, b) (steering_bits ns)
bit_listed ns good s b e =
    let r = steering_node ns s b e in
    let a = address_inside ns (suc r.0) (get_or ns r.0 no_node) s b (good r.0 r.1) r.2 in
    let w = shadow_within ns s a.0 in
    let z : s ≡ 1 + w.0 = omega (arith, w.2) in
    subst (λ (k : ℕ). Memᴰ (k, b) (steering_bits ns)) (sym z)
    (in_from ns 1 ns w.0 b w.1 (subst (λ (k : ℕ). b < len_of (at ns k no_node)) w.2 a.1) (subst (λ (k : ℕ). steers ns k b ≡ true) z e))
