-- Laws of the start: the loop that fills it, and the configuration that it gives.
-- Assumes nothing.
use mathlib.Core.Path.{◌≡◌, refl, sym, ap, ◌∙◌}
use mathlib.Core.Bool.{Bool, true, false, cond}
use mathlib.Core.List.{List}
use Prim.Native.Nat.{ℕ, ◌+◌, ◌-◌, ◌*◌, ◌^◌, ◌≤◌, ◌<◌}
use native.Mathlib.Omega.{arith}
use native.Mathlib.Decide.{dec_lt}
use lib.ListN.{length, get_or, set, length-set, replicate}
use lib.Seq.{get_or-set_same, get_or-set_other}
use lib.Pow.{pow-add}
use lib.Dec.{eqb}
use borrow.Author.Tests.{eq-eqb, ne_eqb, eqb-true, eqb-false}
use Rattle.model.specs.Network.{len_of, map_from, start_bit, silent_bits, start_of}
use Rattle.model.specs.NetworkText.{Draft, has_out}
use Rattle.model.proofs.Lists.{tabulate_cong, map_from_tabulate}
use Rattle.network_words.specs.Words.{trits_of}
use Rattle.network_path.specs.Layout.{node_at, config_of}
use Rattle.network_words.proofs.WordLaws.{trits_zero, trits_unknown}
use Rattle.network_draft.specs.declared.store.Summary.{Summary}
use Rattle.network_draft.specs.Represents.{given_or, Arrays, arrays, Represents}
use Rattle.network_draft.proofs.SteeringWords.{not_steering, is_steering_law}
use Rattle.network_reader.specs.Start.{free_marks, start_bits, start_marks, OneFilled, StartFilled}

-- the marks of len bits are twice the highest, less one
pub twice_top : (len top : ℕ) → (len ≡ 0 → ⊥) → top ≡ 2 ^ (len - 1) → 2 ^ len ≡ 2 * top
twice_top len top ne e = let z : len ≡ (len - 1) + 1 = omega arith in let p = ap (λ (k : ℕ). 2 ^ k) z ∙ pow-add 2 (len - 1) 1 in omega arith

-- ---- one segment

pub one_given : (a : Arrays) (s : ℕ) → (get_or a.held s 0 ≡ 0 → ⊥) → OneFilled a s a.bits a.known
one_given a s ne =
    let t = ne_eqb (get_or a.held s 0) 0 ne in
    record { bits_size = refl; known_size = refl; word = rw t; mark = rw t; bits_others = λ r f. refl; known_others = λ r f. refl }

pub one_free : (a : Arrays) (s v : ℕ) → get_or a.held s 0 ≡ 0 → s < length a.bits → s < length a.known
    → (len : ℕ) → len ≡ len_of (node_at a.nodes s) → v ≡ free_marks (get_or a.steering s 0) len → OneFilled a s (set a.bits s 0) (set a.known s v)
one_free a s v z hb hk len l e =
    let t = eq-eqb (get_or a.held s 0) 0 z in
    record {
      bits_size = length-set a.bits s 0;
      known_size = length-set a.known s v;
      word = rw t (get_or-set_same a.bits s 0 0 hb);
      mark = rw t (get_or-set_same a.known s v 0 hk ∙ e ∙ ap (free_marks (get_or a.steering s 0)) l);
      bits_others = λ r f. get_or-set_other a.bits s r 0 0 f;
      known_others = λ r f. get_or-set_other a.known s r v 0 f;
    }

-- ---- the loop: the segments below i are filled, the others as they were

pub record Filling (a : Arrays) (i : ℕ) (bits known : List ℕ) : Type 0 where
  pub bits_size : length bits ≡ length a.bits
  pub known_size : length known ≡ length a.known
  pub words : (s : ℕ) → 1 ≤ s → s < i → get_or bits s 0 ≡ start_bits a s
  pub marks : (s : ℕ) → 1 ≤ s → s < i → get_or known s 0 ≡ start_marks a s
  pub bits_others : (s : ℕ) → (1 ≤ s → s < i → ⊥) → get_or bits s 0 ≡ get_or a.bits s 0
  pub known_others : (s : ℕ) → (1 ≤ s → s < i → ⊥) → get_or known s 0 ≡ get_or a.known s 0

pub filling_none : (a : Arrays) → Filling a 1 a.bits a.known
filling_none a = record { bits_size = refl; known_size = refl; words = λ s l m. absurd (omega arith); marks = λ s l m. absurd (omega arith); bits_others = λ s f. refl; known_others = λ s f. refl }

module _ {a : Arrays} {i : ℕ} {bits known : List ℕ} (p : Filling a i bits known) where
  pub filling_more : {bits' known' : List ℕ} → 1 ≤ i → OneFilled (arrays a.nodes bits known a.steering a.held) i bits' known' → Filling a (i + 1) bits' known'
  filling_more {bits'} {known'} lo q = record {
    bits_size = q.bits_size ∙ p.bits_size;
    known_size = q.known_size ∙ p.known_size;
    words = λ s l m. words s l (dec_lt s i) m;
    marks = λ s l m. marks s l (dec_lt s i) m;
    bits_others = λ s f. q.bits_others s (λ z. f (omega arith) (omega arith)) ∙ p.bits_others s (λ l m. f l (omega arith));
    known_others = λ s f. q.known_others s (λ z. f (omega arith) (omega arith)) ∙ p.known_others s (λ l m. f l (omega arith));
  }
    where
      words : (s : ℕ) → 1 ≤ s → Dec (s < i) → s < i + 1 → get_or bits' s 0 ≡ start_bits a s
      words s l (yes h) m = q.bits_others s (λ z. omega arith) ∙ p.words s l h
      words s l (no h) m = let z : i ≡ s = omega arith in rw (← z) (q.word ∙ ap (λ (x : ℕ). cond (eqb (get_or a.held i 0) 0) 0 x) (p.bits_others i (λ b c. omega arith)))

      marks : (s : ℕ) → 1 ≤ s → Dec (s < i) → s < i + 1 → get_or known' s 0 ≡ start_marks a s
      marks s l (yes h) m = q.known_others s (λ z. omega arith) ∙ p.marks s l h
      marks s l (no h) m =
          let z : i ≡ s = omega arith in
          rw (← z) (q.mark ∙ ap (λ (x : ℕ). cond (eqb (get_or a.held i 0) 0) (free_marks (get_or a.steering i 0) (len_of (node_at a.nodes i))) x) (p.known_others i (λ b c. omega arith)))

  pub filling_all : (count : ℕ) → i ≡ count + 1 → StartFilled a count bits known
  filling_all count e = record {
    bits_size = p.bits_size;
    known_size = p.known_size;
    words = λ s l m. p.words s l (omega arith);
    marks = λ s l m. p.marks s l (omega arith);
    bits_others = λ s f. p.bits_others s (λ l m. f l (omega arith));
    known_others = λ s f. p.known_others s (λ l m. f l (omega arith));
  }

-- ---- the configuration

module _ {a : Arrays} {t : Summary} {d : Draft} {n : ℕ} (w : Represents a t d n) (out : has_out d ≡ true)
    {bits known : List ℕ} (f : StartFilled a t.count bits known) where
  pub start_row : (s : ℕ) → 1 ≤ s → s ≤ t.count
      → trits_of (len_of (node_at a.nodes s)) (get_or bits s 0) (get_or known s 0) ≡ given_or (silent_bits d.nodes s (len_of (node_at a.nodes s))) d s
  start_row s lo hi =
      rw (f.words s lo hi, f.marks s lo hi)
      (by_flag_law (eqb (get_or a.held s 0) 0) (eqb (get_or a.steering s 0) 0) refl ∙ sym (w.start_is s within (silent_bits d.nodes s (len_of (node_at a.nodes s)))))
    where
      within : s ≤ 128
      within = omega (arith, w.in_limits.nodes_fit)

      by_flag_law : (b z : Bool) → eqb (get_or a.steering s 0) 0 ≡ z
          → trits_of (len_of (node_at a.nodes s)) (cond b 0 (get_or a.bits s 0)) (cond b (cond z 0 (2 ^ len_of (node_at a.nodes s) - 1)) (get_or a.known s 0))
          ≡ cond b (silent_bits d.nodes s (len_of (node_at a.nodes s))) (trits_of (len_of (node_at a.nodes s)) (get_or a.bits s 0) (get_or a.known s 0))
      by_flag_law false z e = refl
      by_flag_law true true e =
          trits_unknown 0 (len_of (node_at a.nodes s))
          ∙ ap (λ (x : Bool). replicate (len_of (node_at a.nodes s)) (start_bit x)) (sym (not_steering w out s within (eqb-true (get_or a.steering s 0) 0 e)))
      by_flag_law true false e =
          trits_zero (len_of (node_at a.nodes s)) (len_of (node_at a.nodes s)) (omega arith)
          ∙ ap (λ (x : Bool). replicate (len_of (node_at a.nodes s)) (start_bit x)) (sym (is_steering_law w out s within (eqb-false (get_or a.steering s 0) 0 e)))

  pub start_config : config_of a.nodes bits known t.count ≡ start_of d.nodes d.resets d.holds
  unfolding config_of start_of
  start_config =
      tabulate_cong _ (λ k. given_or (silent_bits d.nodes k (len_of (node_at a.nodes k))) d k) 1 t.count (λ x l. start_row (1 + x) (omega arith) (omega arith))
      ∙ sym (map_from_tabulate (λ s n. given_or (silent_bits d.nodes s (len_of n)) d s) (node_at a.nodes) 1 t.count)
      ∙ ap (map_from 1 (λ s n. given_or (silent_bits d.nodes s (len_of n)) d s)) w.nodes_are
