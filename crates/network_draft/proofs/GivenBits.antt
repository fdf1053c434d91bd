-- The start bits of a segment, given by one line more: the flag and the two words that are stored stand for them.
-- Assumes nothing.
use mathlib.Core.Path.{◌≡◌, refl, sym, ap, ◌∙◌}
use mathlib.Core.Bool.{Bool, true, false, cond, ◌||◌}
use Rattle.std.specs.Prelude.{Option, Some as some, unwrap_or}
use mathlib.Core.List.{List, [], ◌∷◌, ◌++◌, map}
use Prim.Native.Nat.{ℕ, ◌≤◌, ◌<◌}
use native.Mathlib.Omega.{arith}
use lib.ListN.{length, get_or, set}
use lib.Seq.{get_or-set_same, get_or-set_other}
use lib.Dec.{eqb}
use borrow.Author.Tests.{eqb-true, eqb-false, ne_eqb}
use Rattle.model.specs.Text.{Bytes, Trit, trit, bits_from}
use Rattle.model.specs.Network.{len_of, Held}
use Rattle.model.specs.NetworkText.{Draft, is_some, is_held}
use Rattle.model.proofs.Lists.{or_false_right, or_assoc}
use Rattle.network_words.specs.Words.{trits_of, word_of_bits, is_set, is_known, bits_word, known_word, byte_bit, word_from, byte_known}
use Rattle.network_words.proofs.FieldLaws.{trits_of_field, bits_word_of, known_word_of}
use Rattle.network_path.specs.Layout.{node_at}
use Rattle.text.proofs.Bits.{is_some_law, from_length}
use Rattle.network_line.specs.Line.{bits_in}
use Rattle.network_draft.specs.declared.store.Summary.{Summary}
use Rattle.network_draft.specs.Store.{by_hold, by_reset}
use Rattle.network_draft.specs.Represents.{start_flag, given_or, Arrays, Represents}

-- ---- the bits of a field of good form

pub bits_are : {A : Type 0} (one : ℕ → Option A) (f : Bytes) → is_some (bits_from one [] f) ≡ true → bits_from one [] f ≡ some (bits_in one f)
bits_are {A} one f e = let r = is_some_law (bits_from one [] f) e in r.1 ∙ ap some (sym (ap (λ (o : Option (List A)). unwrap_or o []) r.1))

pub bits_in_length : {A : Type 0} (one : ℕ → Option A) (f : Bytes) → is_some (bits_from one [] f) ≡ true → length (bits_in one f) ≡ length f
bits_in_length one f e = omega (arith, from_length one f [] (bits_in one f) (bits_are one f e))

-- ---- one entry more

abbrev pub one : ℕ → List Trit → Held
one s bs = record { segment_number = s; bits = bs }

pub held_more : (hs : List Held) (s : ℕ) (bs : List Trit) (r : ℕ) → is_held (hs ++ one s bs ∷ []) r ≡ (is_held hs r || eqb s r)
unfolding is_held
held_more [] s bs r = or_false_right (eqb s r)
held_more (h ∷ hs) s bs r = ap (λ (t : Bool). eqb h.segment_number r || t) (held_more hs s bs r) ∙ or_assoc (eqb h.segment_number r) (is_held hs r) (eqb s r)

pub held_others : (hs : List Held) (s : ℕ) (bs : List Trit) (r : ℕ) → (r ≡ s → ⊥) → is_held (hs ++ one s bs ∷ []) r ≡ is_held hs r
held_others hs s bs r ne = held_more hs s bs r ∙ ap (λ (t : Bool). is_held hs r || t) (ne_eqb s r (λ z. ne (sym z))) ∙ or_false_right (is_held hs r)

-- a flag tells of a `hold` line
pub by_hold_law : {a : Arrays} {t : Summary} {d : Draft} {n : ℕ} → Represents a t d n → (s : ℕ) → s ≤ 128 → eqb (get_or a.held s 0) by_hold ≡ is_held d.holds s
by_hold_law {d = d} w s l = ap (λ (k : ℕ). eqb k by_hold) (w.flag_is s l) ∙ go (is_held d.holds s) (is_held d.resets s)
  where
    go : (h v : Bool) → eqb (cond h by_hold (cond v by_reset 0)) by_hold ≡ h
    go true v = refl
    go false true = refl
    go false false = refl

-- ---- what the line gives

-- segment s the bits of the field f, or nothing where the flag is 0; the others what they had
pub record Gives (d d' : Draft) (ns ns' : List ℕ) (s : ℕ) (f : Bytes) (flag : ℕ) : Type 0 where
  pub flag_here : start_flag d' s ≡ flag
  pub flag_other : (r : ℕ) → (r ≡ s → ⊥) → start_flag d' r ≡ start_flag d r
  pub bits_here : (other : List Trit) → given_or other d' s ≡ cond (eqb flag 0) other (bits_in trit f)
  pub bits_other : (other : List Trit) (r : ℕ) → (r ≡ s → ⊥) → given_or other d' r ≡ given_or other d r
  pub len_here : eqb flag 0 ≡ false → length f ≡ len_of (node_at ns' s)
  pub len_other : (r : ℕ) → (r ≡ s → ⊥) → len_of (node_at ns' r) ≡ len_of (node_at ns r)
  pub without : eqb flag 0 ≡ true → f ≡ []

module _ {a : Arrays} {t : Summary} {d : Draft} {n : ℕ} (w : Represents a t d n) {d' : Draft} {ns' : List ℕ} {s : ℕ} {f : Bytes} {flag : ℕ}
    (form : is_some (bits_from trit [] f) ≡ true) (in-range : s ≤ 128) (g : Gives d d' a.nodes ns' s f flag) where
  abbrev bits' : List ℕ
  bits' = set a.bits s (word_from byte_bit 0 f)

  abbrev known' : List ℕ
  known' = set a.known s (word_from byte_known 0 f)

  abbrev held' : List ℕ
  held' = set a.held s flag

  pub flags_after : (r : ℕ) → r ≤ 128 → get_or held' r 0 ≡ start_flag d' r
  flags_after r l = go (eqb r s) refl
    where
      go : (b : Bool) → eqb r s ≡ b → get_or held' r 0 ≡ start_flag d' r
      go true e = rw (eqb-true r s e) (get_or-set_same a.held s flag 0 (omega (arith, w.sized.held_flags)) ∙ sym g.flag_here)
      go false e = get_or-set_other a.held s r flag 0 (eqb-false r s e) ∙ w.flag_is r l ∙ sym (g.flag_other r (eqb-false r s e))

  pub start_after : (r : ℕ) → r ≤ 128 → (other : List Trit)
      → given_or other d' r ≡ cond (eqb (get_or held' r 0) 0) other (trits_of (len_of (node_at ns' r)) (get_or bits' r 0) (get_or known' r 0))
  start_after r l other = go (eqb r s) refl
    where
      by_flag_law : (b : Bool) → eqb flag 0 ≡ b → cond b other (bits_in trit f) ≡ cond b other (trits_of (len_of (node_at ns' s)) (word_from byte_bit 0 f) (word_from byte_known 0 f))
      by_flag_law true e = refl
      by_flag_law false e = sym (ap (λ (x : ℕ). trits_of x (word_from byte_bit 0 f) (word_from byte_known 0 f)) (sym (g.len_here e)) ∙ trits_of_field f (bits_in trit f) (bits_are trit f form))

      go : (b : Bool) → eqb r s ≡ b → given_or other d' r ≡ cond (eqb (get_or held' r 0) 0) other (trits_of (len_of (node_at ns' r)) (get_or bits' r 0) (get_or known' r 0))
      go true e =
          rw (
            eqb-true r s e,
            get_or-set_same a.held s flag 0 (omega (arith, w.sized.held_flags)),
            get_or-set_same a.bits s (word_from byte_bit 0 f) 0 (omega (arith, w.sized.bit_words)),
            get_or-set_same a.known s (word_from byte_known 0 f) 0 (omega (arith, w.sized.known_words)),
          )
          (g.bits_here other ∙ by_flag_law (eqb flag 0) refl)
      go false e =
          let ne = eqb-false r s e in
          rw (get_or-set_other a.held s r flag 0 ne, get_or-set_other a.bits s r (word_from byte_bit 0 f) 0 ne, get_or-set_other a.known s r (word_from byte_known 0 f) 0 ne, g.len_other r ne)
          (g.bits_other other r ne ∙ w.start_is r l other)

  all_here : given_or [] d' s ≡ bits_in trit f
  unfolding bits_from
  all_here = g.bits_here [] ∙ go (eqb flag 0) refl
    where
      go : (b : Bool) → eqb flag 0 ≡ b → cond b [] (bits_in trit f) ≡ bits_in trit f
      go true e = sym (ap (bits_in trit) (g.without e))
      go false e = refl

  -- one of the two words
  word_after : (h : Trit → Bool) (old : List ℕ) (v : ℕ) → s < length old → v ≡ word_of_bits (map h (bits_in trit f)) → ((r : ℕ) → get_or old r 0 ≡ word_of_bits (map h (given_or [] d r)))
      → (r : ℕ) → get_or (set old s v) r 0 ≡ word_of_bits (map h (given_or [] d' r))
  word_after h old v l e p r = go (eqb r s) refl
    where
      go : (b : Bool) → eqb r s ≡ b → get_or (set old s v) r 0 ≡ word_of_bits (map h (given_or [] d' r))
      go true q = rw (eqb-true r s q, get_or-set_same old s v 0 l) (e ∙ ap (λ (ts : List Trit). word_of_bits (map h ts)) (sym all_here))
      go false q =
          let ne = eqb-false r s q in
          get_or-set_other old s r v 0 ne ∙ p r ∙ ap (λ (ts : List Trit). word_of_bits (map h ts)) (sym (g.bits_other [] r ne))

  pub bits_after : (r : ℕ) → get_or bits' r 0 ≡ bits_word (given_or [] d' r)
  bits_after = word_after is_set a.bits (word_from byte_bit 0 f) (omega (arith, w.sized.bit_words)) (bits_word_of f (bits_in trit f) (bits_are trit f form)) w.bits_are

  pub known_after : (r : ℕ) → get_or known' r 0 ≡ known_word (given_or [] d' r)
  known_after = word_after is_known a.known (word_from byte_known 0 f) (omega (arith, w.sized.known_words)) (known_word_of f (bits_in trit f) (bits_are trit f form)) w.known_are
