-- The words of the filled start are those of its configuration.
-- Assumes nothing.
use mathlib.Core.Path.{◌≡◌, refl, sym, ap, ◌∙◌}
use mathlib.Core.Bool.{Bool, true, false, cond}
use mathlib.Core.List.{List, [], ◌∷◌}
use Prim.Native.Nat.{ℕ, zero, suc, ◌-◌, ◌^◌, ◌≤◌, ◌<◌}
use native.Mathlib.Omega.{arith}
use native.Mathlib.Decide.{dec_lt}
use native.Mathlib.Nat.{pow-suc}
use lib.ListN.{length, get_or, replicate, get_or-eq_default}
use lib.Pow.{pow_pos}
use lib.Dec.{eqb}
use borrow.Author.Tests.{eqb-true, eqb-false}
use Rattle.model.specs.Text.{Trit}
use Rattle.model.specs.Network.{Node, at, no_node, len_of, is_steering, Held, held_or, start_bit, silent_bits}
use Rattle.model.specs.NetworkText.{Draft, has_out, is_some}
use Rattle.model.specs.Drafted.{HoldsFit, Stage, no_out, behind_out}
use Rattle.model.proofs.HeldBits.{held_length}
use Rattle.model.proofs.Lists.{true_false, length_tabulate}
use Rattle.network_words.specs.Words.{word_of_bits, trits_of, bits_word, known_word}
use Rattle.network_path.specs.Layout.{node_at, config_of}
use Rattle.network_path.proofs.ConfigLaws.{config_row}
use Rattle.network_draft.specs.declared.store.Summary.{Summary}
use Rattle.network_draft.specs.Represents.{given_or, Arrays, Represents}
use Rattle.network_draft.proofs.Representing.{represented_count}
use Rattle.network_draft.proofs.SteeringWords.{not_steering, is_steering_law}
use Rattle.network_reader.specs.Start.{free_marks, StartFilled}
use Rattle.network_reader.proofs.Starting.{start_row}

-- ---- start bits without RESET and `hold`

free_bits : (len : ℕ) (b : Bool) → bits_word (replicate len (start_bit b)) ≡ 0
unfolding word_of_bits
free_bits zero b = refl
free_bits (suc len) true = omega (arith, free_bits len true)
free_bits (suc len) false = omega (arith, free_bits len false)

free_known : (len : ℕ) (b : Bool) → known_word (replicate len (start_bit b)) ≡ cond b (2 ^ len - 1) 0
unfolding word_of_bits
free_known zero true = refl
free_known zero false = refl
free_known (suc len) true = omega (arith, free_known len true, pow-suc 2 len, pow_pos len)
free_known (suc len) false = omega (arith, free_known len false)

-- ---- the bits that a line gives

empty : {A : Type 0} (l : List A) → length l ≡ 0 → l ≡ []
empty [] e = refl
empty (x ∷ l) e = absurd (omega (arith, e))

-- none at a number without bits
none_held : (ns : List Node) (other : List Trit) (hs : List Held) (s : ℕ) → HoldsFit ns hs → len_of (at ns s no_node) ≡ 0 → other ≡ [] → held_or other hs s ≡ []
none_held ns other hs s f e o = empty (held_or other hs s) (held_length other hs s 0 (ap length o) (λ h m q. f h m ∙ ap (λ (k : ℕ). len_of (at ns k no_node)) q ∙ e))

-- ---- the words

module _ {a : Arrays} {t : Summary} {d : Draft} {n : ℕ} (w : Represents a t d n) (out : has_out d ≡ true)
    {bits known : List ℕ} (f : StartFilled a t.count bits known) where
  abbrev config : List (List Trit)
  config = config_of a.nodes bits known t.count

  -- a segment
  module _ (s : ℕ) (lo : 1 ≤ s) (hi : s ≤ t.count) where
    within : s ≤ 128
    within = omega (arith, w.in_limits.nodes_fit)

    abbrev len : ℕ
    len = len_of (node_at a.nodes s)

    abbrev free : List Trit
    free = silent_bits d.nodes s len

    row : at config s [] ≡ given_or free d s
    row = config_row a.nodes bits known t.count s lo hi ∙ start_row w out f s lo hi

    -- by the flag: these bits, or what the words say
    abbrev by_flag : List Trit → Bool → List Trit
    by_flag other z = cond z other (trits_of len (get_or a.bits s 0) (get_or a.known s 0))

    as_given : (other : List Trit) → given_or other d s ≡ by_flag other (eqb (get_or a.held s 0) 0)
    as_given other = w.start_is s within other

    given_same : eqb (get_or a.held s 0) 0 ≡ false → given_or [] d s ≡ given_or free d s
    given_same e = as_given [] ∙ ap (by_flag []) e ∙ sym (as_given free ∙ ap (by_flag free) e)

    free_marks_law : free_marks (get_or a.steering s 0) len ≡ cond (is_steering d.nodes s) (2 ^ len - 1) 0
    free_marks_law = go (eqb (get_or a.steering s 0) 0) refl
      where
        go : (z : Bool) → eqb (get_or a.steering s 0) 0 ≡ z → cond z 0 (2 ^ len - 1) ≡ cond (is_steering d.nodes s) (2 ^ len - 1) 0
        go true e = rw (not_steering w out s within (eqb-true (get_or a.steering s 0) 0 e))
        go false e = rw (is_steering_law w out s within (eqb-false (get_or a.steering s 0) 0 e))

    segment_bits : get_or bits s 0 ≡ bits_word (at config s [])
    segment_bits = f.words s lo hi ∙ go (eqb (get_or a.held s 0) 0) refl ∙ ap bits_word (sym row)
      where
        go : (b : Bool) → eqb (get_or a.held s 0) 0 ≡ b → cond b 0 (get_or a.bits s 0) ≡ bits_word (given_or free d s)
        go true e = sym (ap bits_word (as_given free ∙ ap (by_flag free) e) ∙ free_bits len (is_steering d.nodes s))
        go false e = w.bits_are s ∙ ap bits_word (given_same e)

    segment_known : get_or known s 0 ≡ known_word (at config s [])
    segment_known = f.marks s lo hi ∙ go (eqb (get_or a.held s 0) 0) refl ∙ ap known_word (sym row)
      where
        go : (b : Bool) → eqb (get_or a.held s 0) 0 ≡ b → cond b (free_marks (get_or a.steering s 0) len) (get_or a.known s 0) ≡ known_word (given_or free d s)
        go true e = free_marks_law ∙ sym (ap known_word (as_given free ∙ ap (by_flag free) e) ∙ free_known len (is_steering d.nodes s))
        go false e = w.known_are s ∙ ap known_word (given_same e)

  -- a number that no node has
  no_bits : (s : ℕ) → (1 ≤ s → s ≤ t.count → ⊥) → len_of (at d.nodes s no_node) ≡ 0
  no_bits zero away = refl
  no_bits (suc k) away = ap len_of (get_or-eq_default d.nodes no_node {n = k} (beyond (dec_lt k (length d.nodes))))
    where
      beyond : Dec (k < length d.nodes) → length d.nodes ≤ k
      beyond (yes l) = absurd (away (omega arith) (omega (arith, represented_count w)))
      beyond (no l) = omega arith

  no_row : (s : ℕ) → (1 ≤ s → s ≤ t.count → ⊥) → at config s [] ≡ []
  unfolding config_of
  no_row zero away = refl
  no_row (suc k) away = get_or-eq_default config [] {n = k} (beyond (dec_lt k t.count))
    where
      beyond : Dec (k < t.count) → length config ≤ k
      beyond (yes l) = absurd (away (omega arith) (omega arith))
      beyond (no l) = omega (arith, length_tabulate (λ k. trits_of (len_of (node_at a.nodes k)) (get_or bits k 0) (get_or known k 0)) 1 t.count)

  none_there : (s : ℕ) → (1 ≤ s → s ≤ t.count → ⊥) → given_or [] d s ≡ at config s []
  none_there s away = go w.sound.stage ∙ sym (no_row s away)
    where
      go : Stage d n → given_or [] d s ≡ []
      go (no_out p m hs ts) = absurd (true_false (sym out ∙ ap is_some p))
      go (behind_out k p z y hs ts) =
          none_held d.nodes _ d.holds s hs (no_bits s away)
          (none_held d.nodes [] d.resets s (λ h i. (w.sound.resets_fit h i).as_long) (no_bits s away) refl)

  module _ (s : ℕ) where
    pub start_bits_law : get_or bits s 0 ≡ bits_word (at config s [])
    start_bits_law = go (dec_lt 0 s) (dec_lt t.count s)
      where
        not_there : (1 ≤ s → s ≤ t.count → ⊥) → get_or bits s 0 ≡ bits_word (at config s [])
        not_there away = f.bits_others s away ∙ w.bits_are s ∙ ap bits_word (none_there s away)

        go : Dec (0 < s) → Dec (t.count < s) → get_or bits s 0 ≡ bits_word (at config s [])
        go (yes l) (no m) = segment_bits s (omega arith) (omega arith)
        go (yes l) (yes m) = not_there (λ b c. omega arith)
        go (no l) m = not_there (λ b c. l (omega arith))

    pub start_known : get_or known s 0 ≡ known_word (at config s [])
    start_known = go (dec_lt 0 s) (dec_lt t.count s)
      where
        not_there : (1 ≤ s → s ≤ t.count → ⊥) → get_or known s 0 ≡ known_word (at config s [])
        not_there away = f.known_others s away ∙ w.known_are s ∙ ap known_word (none_there s away)

        go : Dec (0 < s) → Dec (t.count < s) → get_or known s 0 ≡ known_word (at config s [])
        go (yes l) (no m) = segment_known s (omega arith) (omega arith)
        go (yes l) (yes m) = not_there (λ b c. omega arith)
        go (no l) m = not_there (λ b c. l (omega arith))
