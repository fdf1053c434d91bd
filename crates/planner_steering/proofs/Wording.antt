-- Laws of the words of a setting: the loop that sets them.
-- Assumes nothing.
use mathlib.Core.Path.{◌≡◌, refl, sym, ap, ◌∙◌}
use mathlib.Core.Bool.{Bool, true, false, ◌&&◌, ◌||◌}
use mathlib.Core.List.Memᴰ
use mathlib.Core.List.{List, [], ◌∷◌, Memᴰ}
use Prim.Native.Nat.{ℕ, zero, suc, ◌+◌, ◌/◌, ◌%◌, ◌^◌, ◌≤◌, ◌<◌}
use native.Mathlib.Nat.{zero-add, pow-suc, div-div-eq-div-mul, le_of_suc-le-suc, not-suc-le-zero}
use native.Mathlib.Numerals.{add-one}
use native.Mathlib.Omega.{arith}
use native.Mathlib.Decide.{dec_lt}
use lib.Dec.{eqb, ltb}
use lib.ListN.{length, get_or, set, length-set}
use lib.Seq.{get_or-set_same, get_or-set_other}
use borrow.Author.Tests.{eq-eqb}
use Rattle.model.proofs.Lists.{get_d_tabulate, eqb_same, eqb_is, true_false, or_false_right, and_true_right}
use Rattle.network_words.specs.Words.{word_bit}
use Rattle.network_path.specs.Layout.{look_in}
use Rattle.network_path.specs.Answers.{ConfigSized}
use Rattle.network_words.proofs.WordLaws.{zero_bit}
use Rattle.network_draft.specs.Store.{BitMarked}
use Rattle.planner_theory.specs.Settings.{Distinct, distinct_cons, trit_of, look_up}
use Rattle.planner_theory.proofs.Steering.{get_d_in}
use Rattle.planner_theory.proofs.SettingNumbers.{look_at, place_other}
use Rattle.planner_steering.specs.declared.Problem.{Problem}
use Rattle.planner_steering.specs.declared.SteeringBit.{SteeringBit}
use Rattle.planner_steering.specs.Steering.{segment_at, bit_number, pair_at, bits_of, steering_of, SteeringListed, Cleared, DigitSet, SetTo}
use Rattle.planner_steering.proofs.Listing.{length_bits}

-- ---- the steering bits by their indices

pub pair_at_law : (listed : List SteeringBit) (k i : ℕ) → i < k → get_or (bits_of listed k) i (0, 0) ≡ pair_at listed i
pair_at_law listed k i l = get_d_tabulate (pair_at listed) 0 k i (0, 0) l ∙ ap (pair_at listed) (zero-add i)

distinct_apart : {A : Type 0} (l : List A) → Distinct l → (i j : ℕ) (d : A) → i < j → j < length l → get_or l i d ≡ get_or l j d → ⊥
distinct_apart [] p i j d a b e = not-suc-le-zero b
distinct_apart (x ∷ l) p i zero d a b e = not-suc-le-zero a
distinct_apart (x ∷ l) (distinct_cons fresh p) zero (suc j) d a b e = fresh (Memᴰ.cast e (get_d_in l j d (le_of_suc-le-suc b)))
distinct_apart (x ∷ l) (distinct_cons fresh p) (suc i) (suc j) d a b e = distinct_apart l p i j d (le_of_suc-le-suc a) (le_of_suc-le-suc b) e

pub index_in : {A : Type 0} (l : List A) (d a : A) → Memᴰ a l → (i : ℕ) × (i < length l) × (get_or l i d ≡ a)
index_in [] d a m = absurd (Memᴰ.not-nil m)
index_in (x ∷ l) d a (Memᴰ.head e) = (0, omega arith, sym e)
index_in (x ∷ l) d a (Memᴰ.tail m) = let r = index_in l d a m in (suc r.0, omega (arith, r.1), r.2)

-- ---- the loop that sets them: those before j have their digits, the others are clear

pub record Setting (pb : Problem) (x j : ℕ) (bits known : List ℕ) (y : ℕ) : Type 0 where
  pub passed : j ≤ pb.width
  pub rest : y ≡ x / 3 ^ j
  pub sized : ConfigSized bits known
  pub done : (i : ℕ) → i < j → look_in bits known (segment_at pb.steering i) (bit_number pb.steering i) ≡ trit_of (x / 3 ^ i % 3)
  pub words : (i : ℕ) → j ≤ i → i < pb.width → word_bit (get_or bits (segment_at pb.steering i) 0) (bit_number pb.steering i) ≡ false
  pub marks : (i : ℕ) → j ≤ i → i < pb.width → word_bit (get_or known (segment_at pb.steering i) 0) (bit_number pb.steering i) ≡ false

no_more : (a b : Bool) → (a || (b && false)) ≡ a
no_more true b = refl
no_more false true = refl
no_more false false = refl

module _ (pb : Problem) (ls : SteeringListed pb) where
  other_pair : (i j : ℕ) → i < pb.width → j < pb.width → (i ≡ j → ⊥) → (eqb (segment_at pb.steering j) (segment_at pb.steering i) && eqb (bit_number pb.steering j) (bit_number pb.steering i)) ≡ false
  other_pair i j a b ne = place_other (pair_at pb.steering j) (segment_at pb.steering i) (bit_number pb.steering i) (λ e. apart (dec_lt i j) e)
    where
      same : (u v : ℕ) → u < pb.width → v < pb.width → pair_at pb.steering u ≡ pair_at pb.steering v → get_or (steering_of pb) u (0, 0) ≡ get_or (steering_of pb) v (0, 0)
      same u v l m e = pair_at_law pb.steering pb.width u l ∙ e ∙ sym (pair_at_law pb.steering pb.width v m)

      apart : Dec (i < j) → pair_at pb.steering j ≡ pair_at pb.steering i → ⊥
      apart (yes l) e = distinct_apart (steering_of pb) ls.distinct i j (0, 0) l (omega (arith, length_bits pb.steering pb.width)) (same i j a b (sym e))
      apart (no l) e = distinct_apart (steering_of pb) ls.distinct j i (0, 0) (omega arith) (omega (arith, length_bits pb.steering pb.width)) (same j i b a e)

  module _ (x j : ℕ) (bits known bits' known' : List ℕ) (y : ℕ) (lt : j < pb.width) (q : DigitSet bits known (segment_at pb.steering j) (bit_number pb.steering j) (y % 3) bits' known') (p : Setting pb x j bits known y) where
    word_kept : (i : ℕ) → i < pb.width → (i ≡ j → ⊥) → word_bit (get_or bits' (segment_at pb.steering i) 0) (bit_number pb.steering i) ≡ word_bit (get_or bits (segment_at pb.steering i) 0) (bit_number pb.steering i)
    word_kept i l ne = q.words (segment_at pb.steering i) (bit_number pb.steering i) (ls.within i l) (ls.inside i l) ∙ rw (other_pair i j l lt ne) (no_more (word_bit (get_or bits (segment_at pb.steering i) 0) (bit_number pb.steering i)) (eqb (y % 3) 1))

    mark_kept : (i : ℕ) → i < pb.width → (i ≡ j → ⊥) → word_bit (get_or known' (segment_at pb.steering i) 0) (bit_number pb.steering i) ≡ word_bit (get_or known (segment_at pb.steering i) 0) (bit_number pb.steering i)
    mark_kept i l ne = q.marks (segment_at pb.steering i) (bit_number pb.steering i) (ls.within i l) (ls.inside i l) ∙ rw (other_pair i j l lt ne) (no_more (word_bit (get_or known (segment_at pb.steering i) 0) (bit_number pb.steering i)) (ltb (y % 3) 2))

    word_new : word_bit (get_or bits' (segment_at pb.steering j) 0) (bit_number pb.steering j) ≡ eqb (y % 3) 1
    word_new =
        q.words (segment_at pb.steering j) (bit_number pb.steering j) (ls.within j lt) (ls.inside j lt)
        ∙ rw (p.words j (omega arith) lt, eqb_same (segment_at pb.steering j), eqb_same (bit_number pb.steering j)) (and_true_right (eqb (y % 3) 1))

    mark_new : word_bit (get_or known' (segment_at pb.steering j) 0) (bit_number pb.steering j) ≡ ltb (y % 3) 2
    mark_new =
        q.marks (segment_at pb.steering j) (bit_number pb.steering j) (ls.within j lt) (ls.inside j lt)
        ∙ rw (p.marks j (omega arith) lt, eqb_same (segment_at pb.steering j), eqb_same (bit_number pb.steering j)) (and_true_right (ltb (y % 3) 2))

    pub setting_more : Setting pb x (j + 1) bits' known' (y / 3)
    setting_more = record {
      passed = omega arith;
      rest = ap (λ (n : ℕ). n / 3) p.rest ∙ div-div-eq-div-mul x (3 ^ j) 3 ∙ ap (λ (n : ℕ). x / n) (sym (pow-suc 3 j)) ∙ ap (λ (n : ℕ). x / 3 ^ n) (sym (add-one j));
      sized = q.sized;
      done = λ i l. done i (dec_lt i j) l;
      words = λ i a l. word_kept i l (λ z. omega arith) ∙ p.words i (omega arith) l;
      marks = λ i a l. mark_kept i l (λ z. omega arith) ∙ p.marks i (omega arith) l;
    }
      where
        done : (i : ℕ) → Dec (i < j) → i < j + 1 → look_in bits' known' (segment_at pb.steering i) (bit_number pb.steering i) ≡ trit_of (x / 3 ^ i % 3)
        done i (yes h) l = rw (mark_kept i (omega arith) (λ z. omega arith), word_kept i (omega arith) (λ z. omega arith)) (p.done i h)
        done i (no h) l =
            let z : i ≡ j = omega arith in
            rw (z, mark_new, word_new) (ap (λ (n : ℕ). trit_of (n % 3)) p.rest)

  pub setting_all : (x j : ℕ) (bits known : List ℕ) (y : ℕ) → pb.width ≤ j → Setting pb x j bits known y → SetTo (steering_of pb) x bits known
  setting_all x j bits known y l p = record { sized = p.sized; holds = holds }
    where
      holds : (s b : ℕ) → Memᴰ (s, b) (steering_of pb) → look_in bits known s b ≡ look_up (steering_of pb) x s b
      holds s b m =
          let r = index_in (steering_of pb) (0, 0) (s, b) m in
          let small : r.0 < pb.width = omega (arith, r.1, length_bits pb.steering pb.width) in
          let e : pair_at pb.steering r.0 ≡ (s, b) = sym (pair_at_law pb.steering pb.width r.0 small) ∙ r.2 in
          ap (λ (q : ℕ × ℕ). look_in bits known q.0 q.1) (sym e) ∙ p.done r.0 (omega arith)
          ∙ sym (look_at (steering_of pb) ls.distinct x r.0 r.1) ∙ ap (λ (q : ℕ × ℕ). look_up (steering_of pb) x q.0 q.1) r.2
