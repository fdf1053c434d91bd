-- Laws of a BITS field's words: what the loop has after i bytes, and the bits that the words have.
-- Assumes nothing.
use mathlib.Core.Path.{◌≡◌, refl, sym, ap, ◌∙◌}
use mathlib.Core.Bool.{Bool, true, false, cond, not}
use Rattle.std.specs.Prelude.{Option, None as none, Some as some}
use mathlib.Core.List.{List, [], ◌∷◌}
use Prim.Native.Nat.{ℕ, suc, ◌+◌, ◌*◌, ◌^◌, ◌<◌, ◌≤◌}
use native.Mathlib.Nat.{add-suc, add-zero, suc-add, zero-add}
use native.Mathlib.Numerals.{add-one}
use native.Mathlib.Omega.{arith}
use lib.Dec.{eqb}
use lib.ListN.{length, get_or, drop, drop_of_length-le}
use lib.Pow.{pow-add}
use lib.Seq.{drop-cons}
use borrow.Author.Tests.{ne_eqb}
use Rattle.model.specs.Network.{tabulate}
use Rattle.model.specs.Path.{bit_value}
use Rattle.model.specs.Text.{Trit, bind, bit, trit, bits_from}
use Rattle.model.proofs.Lists.{none_some, some_same, eqb_is}
use Rattle.network_words.specs.Words.{trit_at, trits_of, word_of_bits, is_set, is_known, bits_word, known_word, byte_bit, word_from, byte_known}
use Rattle.network_words.proofs.WordLaws.{value_small, low_bit, higher_bit, tabulate_front}

-- ---- the loop: i bytes are in the word w, and the other bytes give the whole

module _ (test : ℕ → Bool) (f : List ℕ) where
  pub record Reads (i w : ℕ) : Type 0 where
    pub small : w < 2 ^ i
    pub whole : word_from test w (drop i f) ≡ word_from test 0 f

  pub reads_more : (i w b r : ℕ) → i < length f → b ≡ bit_value (test (get_or f i 0)) → r ≡ b + 2 * w → Reads i w → Reads (i + 1) r
  unfolding word_from
  reads_more i w b r l e q h =
      let s = value_small (test (get_or f i 0)) in
      let m = h.small in
      let p : r ≡ bit_value (test (get_or f i 0)) + 2 * w = cc in
      record {
        small = rw (pow-add 2 i 1) (omega arith);
        whole = rw (add-one i, p) (ap (word_from test w) (sym (drop-cons f i 0 l)) ∙ h.whole);
      }

  pub reads_all : (i w : ℕ) → length f ≤ i → Reads i w → w ≡ word_from test 0 f
  unfolding word_from
  reads_all i w l h = ap (word_from test w) (sym (drop_of_length-le f l)) ∙ h.whole

-- ---- the bits that the words have

-- a byte of BITS is read as v: its bit, and its bit where it is known
bit_read : (b : ℕ) (v : Bool) → bit b ≡ some v → byte_bit b ≡ v
bit_read b v e = go (eqb b 48) (eqb b 49) refl refl e
  where
    go : (x y : Bool) → eqb b 48 ≡ x → eqb b 49 ≡ y → cond x (some false) (cond y (some true) none) ≡ some v → y ≡ v
    go true true p q h = let n : b ≡ 48 = eqb_is b 48 p in let m : b ≡ 49 = eqb_is b 49 q in absurd (omega arith)
    go true false p q h = some_same false v h
    go false true p q h = some_same true v h
    go false false p q h = absurd (none_some v h)

trit_read : (b : ℕ) (v : Trit) → trit b ≡ some v → cond (byte_known b) (some (byte_bit b)) none ≡ v
trit_read b v e = go (eqb b 88) (bit b) refl e
  where
    go : (x : Bool) (o : Option Bool) → bit b ≡ o → cond x (some none) (bind o (λ u. some (some u))) ≡ some v → cond (not x) (some (byte_bit b)) none ≡ v
    go true o p h = some_same none v h
    go false none p h = absurd (none_some v h)
    go false (some u) p h = ap some (bit_read b u p) ∙ some_same (some u) v h

-- a list whose entries the two words give, and the same with a field's entries before it
module _ {A : Type 0} (read : ℕ → Option A) (entry : ℕ → ℕ → ℕ → A)
    (first : (b w k : ℕ) (v : A) → read b ≡ some v → entry (bit_value (byte_bit b) + 2 * w) (bit_value (byte_known b) + 2 * k) 0 ≡ v)
    (next : (x y : Bool) (w k j : ℕ) → entry (bit_value x + 2 * w) (bit_value y + 2 * k) (suc j) ≡ entry w k j) where
  entries_read : (f : List ℕ) (above vs : List A) (w k : ℕ) → bits_from read above f ≡ some vs → tabulate (entry w k) 0 (length above) ≡ above
      → tabulate (entry (word_from byte_bit w f) (word_from byte_known k f)) 0 (length above + length f) ≡ vs
  unfolding bits_from word_from
  entries_read [] above vs w k e h = rw add-zero (h ∙ some_same above vs e)
  entries_read (b ∷ f) above vs w k e h = go (read b) refl e (λ v q g. entries_read f (v ∷ above) vs w' k' q g)
    where
      w' : ℕ
      w' = bit_value (byte_bit b) + 2 * w

      k' : ℕ
      k' = bit_value (byte_known b) + 2 * k

      all : ℕ → List A
      all n = tabulate (entry (word_from byte_bit w' f) (word_from byte_known k' f)) 0 n

      go : (o : Option A) → read b ≡ o → bind o (λ v. bits_from read (v ∷ above) f) ≡ some vs
          → ((v : A) → bits_from read (v ∷ above) f ≡ some vs → tabulate (entry w' k') 0 (suc (length above)) ≡ v ∷ above → all (suc (length above) + length f) ≡ vs)
          → all (length above + suc (length f)) ≡ vs
      go none p q r = absurd (none_some vs q)
      go (some v) p q r =
          let front : tabulate (entry w' k') 0 (suc (length above)) ≡ v ∷ above =
          tabulate_front (entry w' k') (entry w k) v (length above) (first b w k v p) (next (byte_bit b) (byte_known b) w k) ∙ ap (λ (l : List A). v ∷ l) h in
          ap all (add-suc (length above) (length f) ∙ sym (suc-add (length above) (length f))) ∙ r v q front

-- the words of start bits
pub trits_of_field : (f : List ℕ) (ts : List Trit) → bits_from trit [] f ≡ some ts → trits_of (length f) (word_from byte_bit 0 f) (word_from byte_known 0 f) ≡ ts
trits_of_field f ts e =
    rw zero-add at (entries_read trit trit_at
    (λ b w k v p. rw (low_bit (byte_bit b) w, low_bit (byte_known b) k) (trit_read b v p))
    (λ x y w k j. rw (higher_bit x w j, higher_bit y k j)) f [] ts 0 0 e refl)

-- the word of a list with a field's entries before it
module _ {A : Type 0} (read : ℕ → Option A) (test : ℕ → Bool) (value : List A → ℕ)
    (step : (b : ℕ) (v : A) (vs : List A) → read b ≡ some v → value (v ∷ vs) ≡ bit_value (test b) + 2 * value vs) where
  word_read : (f : List ℕ) (above vs : List A) → bits_from read above f ≡ some vs → word_from test (value above) f ≡ value vs
  unfolding bits_from word_from
  word_read [] above vs e = ap value (some_same above vs e)
  word_read (b ∷ f) above vs e = go (read b) refl e (λ v q. word_read f (v ∷ above) vs q)
    where
      go : (o : Option A) → read b ≡ o → bind o (λ v. bits_from read (v ∷ above) f) ≡ some vs
          → ((v : A) → bits_from read (v ∷ above) f ≡ some vs → word_from test (value (v ∷ above)) f ≡ value vs)
          → word_from test (bit_value (test b) + 2 * value above) f ≡ value vs
      go none p q r = absurd (none_some vs q)
      go (some v) p q r = rw (step b v above p) at (r v q)

-- the word of a write target
pub word_of_bits_law : (f : List ℕ) (bs : List Bool) → bits_from bit [] f ≡ some bs → word_from byte_bit 0 f ≡ word_of_bits bs
unfolding word_of_bits
word_of_bits_law f bs e = word_read bit byte_bit word_of_bits (λ b v vs p. rw (bit_read b v p)) f [] bs e

-- the two words of start bits
one_read : (b : ℕ) (v : Trit) → trit b ≡ some v → byte_bit b ≡ is_set v
one_read b v e = go (eqb b 88) refl ∙ ap is_set (trit_read b v e)
  where
    go : (x : Bool) → eqb b 88 ≡ x → byte_bit b ≡ is_set (cond (not x) (some (byte_bit b)) none)
    go true p = let n : b ≡ 88 = eqb_is b 88 p in ne_eqb b 49 (λ z. omega arith)
    go false p = refl

known_read : (b : ℕ) (v : Trit) → trit b ≡ some v → byte_known b ≡ is_known v
known_read b v e = go (byte_known b) ∙ ap is_known (trit_read b v e)
  where
    go : (x : Bool) → x ≡ is_known (cond x (some (byte_bit b)) none)
    go true = refl
    go false = refl

module _ (f : List ℕ) (ts : List Trit) (e : bits_from trit [] f ≡ some ts) where
  pub bits_word_of : word_from byte_bit 0 f ≡ bits_word ts
  unfolding word_of_bits
  bits_word_of = word_read trit byte_bit bits_word (λ b v vs p. rw (one_read b v p)) f [] ts e

  pub known_word_of : word_from byte_known 0 f ≡ known_word ts
  unfolding word_of_bits
  known_word_of = word_read trit byte_known known_word (λ b v vs p. rw (known_read b v p)) f [] ts e
