-- Laws of the words of steering bits: a segment steers if its word is not 0.
-- Assumes nothing.
use mathlib.Core.Path.{◌≡◌, refl, sym, ap, ◌∙◌}
use mathlib.Core.Bool.{Bool, true, false, cond, ◌||◌}
use mathlib.Core.List.{List, [], ◌∷◌}
use Prim.Native.Nat.{ℕ, zero, suc, ◌+◌, ◌*◌, ◌/◌, ◌%◌, ◌^◌, ◌≤◌, ◌<◌}
use native.Mathlib.Omega.{arith}
use native.Mathlib.Nat.{pow-suc}
use lib.ListN.{length, get_or}
use lib.Pow.{pow_pos, shr-shr}
use lib.Dec.{eqb, leb}
use borrow.Author.Tests.{eqb-true, eqb-false, leb-true, not-false}
use Rattle.model.specs.Network.{Node, segment, multiplexer, at, no_node, has_shadow, len_of, address_bits, steers, steers_at, address_in, is_steering}
use Rattle.model.specs.NetworkText.{Draft, has_out, is_some, bad_address}
use Rattle.model.specs.Drafted.{Stage, no_out, behind_out}
use Rattle.model.proofs.Lists.{true_false, and_parts, or_left, or_right, eqb_same}
use Rattle.model.proofs.Accepted.{no_bad, unsteered_bits}
use Rattle.network_words.specs.Words.{word_width, word_bit}
use Rattle.network_words.proofs.WordLaws.{zero_bit}
use Rattle.network_draft.specs.declared.store.Summary.{Summary}
use Rattle.network_draft.specs.Represents.{Arrays, Represents}
use Rattle.network_draft.proofs.Representing.{represented_short}

-- ---- words by their bits

next_bit : (w b : ℕ) → word_bit (w / 2) b ≡ word_bit w (suc b)
next_bit w b = ap (λ (x : ℕ). eqb (x % 2) 1) (shr-shr w 1 b ∙ ap (λ (x : ℕ). w / 2 ^ x) (let z : 1 + b ≡ suc b = omega arith in z))

low_same : (v w : ℕ) → word_bit v 0 ≡ word_bit w 0 → v % 2 ≡ w % 2
low_same v w e = go (word_bit v 0) (word_bit w 0) refl refl e
  where
    go : (x y : Bool) → eqb (v / 2 ^ 0 % 2) 1 ≡ x → eqb (w / 2 ^ 0 % 2) 1 ≡ y → x ≡ y → v % 2 ≡ w % 2
    go true true p q z = let a = eqb-true (v / 2 ^ 0 % 2) 1 p in let b = eqb-true (w / 2 ^ 0 % 2) 1 q in omega arith
    go true false p q z = absurd (true_false z)
    go false true p q z = absurd (true_false (sym z))
    go false false p q z = let a = eqb-false (v / 2 ^ 0 % 2) 1 p in let b = eqb-false (w / 2 ^ 0 % 2) 1 q in omega arith

pub word_same : (k v w : ℕ) → v < 2 ^ k → w < 2 ^ k → ((b : ℕ) → b < k → word_bit v b ≡ word_bit w b) → v ≡ w
word_same zero v w l m f = omega (arith, l, m)
word_same (suc k) v w l m f =
    let p : 2 ^ suc k ≡ 2 ^ k * 2 = pow-suc 2 k in
    let high = word_same k (v / 2) (w / 2) (omega arith) (omega arith) (λ b h. next_bit v b ∙ f (suc b) (omega arith) ∙ sym (next_bit w b)) in
    let low = low_same v w (f 0 (omega arith)) in
    omega arith

word_zero : (k w : ℕ) → w < 2 ^ k → ((b : ℕ) → b < k → word_bit w b ≡ false) → w ≡ 0
word_zero k w l f = word_same k w 0 l (pow_pos k) (λ b m. f b m ∙ sym (zero_bit b))

-- ---- steering segments by their words

here : (x : Node) (ns : List Node) (s b : ℕ) → steers_at x s b ≡ true → steers (x ∷ ns) s b ≡ true
unfolding steers
here x ns s b e = or_left (steers_at x s b) (steers ns s b) e

there : (x : Node) (ns : List Node) (s b : ℕ) → steers ns s b ≡ true → steers (x ∷ ns) s b ≡ true
unfolding steers
there x ns s b e = or_right (steers_at x s b) (steers ns s b) e

-- a steering segment has a steering bit within a word
record SteeringBit (ns : List Node) (s : ℕ) : Type 0 where
  b : ℕ
  is : steers ns s b ≡ true
  small : b < word_width

module _ (all : List Node) (short : (s : ℕ) → len_of (at all s no_node) ≤ word_width) where
  node_bit : (x : Node) (s : ℕ) → bad_address all x ≡ false → address_in s x ≡ true → (b : ℕ) × (steers_at x s b ≡ true) × (b < word_width)
  node_bit (segment from len sh) s e f = absurd (true_false (sym f))
  node_bit (multiplexer q b ins) s e f =
      let g = and_parts (has_shadow (at all q no_node)) (leb (b + address_bits ins) (len_of (at all q no_node))) (not-false _ e) in
      let l = leb-true (b + address_bits ins) (len_of (at all q no_node)) g.1 in
      let m = one_bit (leb (length ins) 2) in
      (b, rw (f, eqb_same b), omega (arith, short q))
    where
      one_bit : (t : Bool) → 1 ≤ cond t 1 2
      one_bit true = omega arith
      one_bit false = omega arith

  find_bit : (ns : List Node) (s : ℕ) → ((i : ℕ) → i < length ns → bad_address all (get_or ns i no_node) ≡ false) → is_steering ns s ≡ true → SteeringBit ns s
  unfolding is_steering
  find_bit [] s f e = absurd (true_false (sym e))
  find_bit (x ∷ ns) s f e = go (address_in s x) refl e (λ g. find_bit ns s (λ i l. f (suc i) (omega arith)) g)
    where
      go : (t : Bool) → address_in s x ≡ t → (t || is_steering ns s) ≡ true → (is_steering ns s ≡ true → SteeringBit ns s) → SteeringBit (x ∷ ns) s
      go true q g r = let b = node_bit x s (f 0 (omega arith)) q in record { b = b.0; is = here x ns s b.0 b.1; small = b.2 }
      go false q g r = let b = r g in record { b = b.b; is = there x ns s b.b b.is; small = b.small }

module _ {a : Arrays} {t : Summary} {d : Draft} {n : ℕ} (w : Represents a t d n) (out : has_out d ≡ true) where
  no_first : (i : ℕ) → i < length d.nodes → bad_address d.nodes (get_or d.nodes i no_node) ≡ false
  no_first = go w.sound.stage
    where
      go : Stage d n → (i : ℕ) → i < length d.nodes → bad_address d.nodes (get_or d.nodes i no_node) ≡ false
      go (no_out p m hs ts) = absurd (true_false (sym out ∙ ap is_some p))
      go (behind_out k p z y hs ts) = no_bad d.nodes d.nodes 1 y

  pub not_steering : (s : ℕ) → s ≤ 128 → get_or a.steering s 0 ≡ 0 → is_steering d.nodes s ≡ false
  not_steering s l e = go (is_steering d.nodes s) refl
    where
      go : (b : Bool) → is_steering d.nodes s ≡ b → is_steering d.nodes s ≡ false
      go false q = q
      go true q =
          let b = find_bit d.nodes (represented_short w) d.nodes s no_first q in
          absurd (true_false (sym b.is ∙ sym (w.steering_is s b.b l b.small) ∙ ap (λ (x : ℕ). word_bit x b.b) e ∙ zero_bit b.b))

  pub is_steering_law : (s : ℕ) → s ≤ 128 → (get_or a.steering s 0 ≡ 0 → ⊥) → is_steering d.nodes s ≡ true
  is_steering_law s l ne = go (is_steering d.nodes s) refl
    where
      go : (b : Bool) → is_steering d.nodes s ≡ b → is_steering d.nodes s ≡ true
      go true q = q
      go false q = absurd (ne (word_zero word_width (get_or a.steering s 0) (w.steering_small s) (λ b m. w.steering_is s b l m ∙ unsteered_bits d.nodes s b q)))
