-- The form of bits, and the bits that a field of good form gives, for any way to read a byte.
-- Assumes nothing.
use mathlib.Core.Path.{◌≡◌, refl, sym, ap}
use mathlib.Core.Bool.{Bool, true, false, not, ◌&&◌}
use Rattle.std.specs.Prelude.{Option, None as none, Some as some}
use Rattle.std.specs.List.{list_all}
use Rattle.std.proofs.lemmas.List.{take_all}
use Rattle.std.proofs.lemmas.Bool.Decides.{nat_tests}
use mathlib.Core.List.{List, [], ◌∷◌}
use Prim.Native.Nat.{ℕ, ◌+◌, ◌≤◌}
use native.Mathlib.Omega.{arith}
use lib.ListN.{length, drop, drop_of_length-le}
use lib.Dec.{eqb}
use Rattle.model.specs.Text.{Bytes, bind, bit, trit, bits_from, bits_field}
use Rattle.model.specs.NetworkText.{is_some}
use Rattle.model.proofs.LineForms.{bound}
use Rattle.model.proofs.Lists.{true_false, none_some, some_same}
use Rattle.text.specs.Bits.{is_bit, all_bits, bits_form}

-- ---- what a test of form says

pub is_some_law : {A : Type 0} (o : Option A) → is_some o ≡ true → (a : A) × (o ≡ some a)
is_some_law none e = absurd (true_false (sym e))
is_some_law (some a) e = (a, refl)

pub is_none : {A : Type 0} (o : Option A) → is_some o ≡ false → o ≡ none
is_none none e = refl
is_none (some a) e = absurd (true_false e)

-- ---- all bytes

listed : {A : Type 0} (read : ℕ → Option A) (above : List A) (s : Bytes) → is_some (bits_from read above s) ≡ list_all (λ b. is_some (read b)) s
unfolding bits_from
listed read above [] = refl
listed {A} read above (b ∷ s) = go (read b) (λ v. listed read (v ∷ above) s)
  where
    go : (o : Option A) → ((v : A) → is_some (bits_from read (v ∷ above) s) ≡ list_all (λ b. is_some (read b)) s)
        → is_some (bind o (λ v. bits_from read (v ∷ above) s)) ≡ (is_some o && list_all (λ b. is_some (read b)) s)
    go none rest = refl
    go (some v) rest = rest v

pub all_listed : (u : Bool) (s : Bytes) → all_bits u s ≡ list_all (is_bit u) s
all_listed true s = listed trit [] s
all_listed false s = listed bit [] s

pub ruleset listing = (take_all, all_listed)

-- ---- a BITS field

pub form_by_length : (u : Bool) (f : Bytes) → bits_form u f ≡ (not (eqb (length f) 0) && all_bits u f)
form_by_length true [] = refl
form_by_length false [] = refl
form_by_length true (b ∷ f) = grind (arith, nat_tests)
form_by_length false (b ∷ f) = grind (arith, nat_tests)

module _ {A : Type 0} (read : ℕ → Option A) where
  pub bits_last : (f : Bytes) (i : ℕ) (above bs : List A) → length f ≤ i → bits_from read above (drop i f) ≡ some bs → above ≡ bs
  unfolding bits_from
  bits_last f i above bs h e = some_same above bs (rw (drop_of_length-le f h) at e)

  pub from_length : (f : Bytes) (above bs : List A) → bits_from read above f ≡ some bs → length bs ≡ length f + length above
  unfolding bits_from
  from_length [] above bs e = omega (arith, ap length (some_same above bs e))
  from_length (b ∷ f) above bs e =
      let v = bound (read b) _ bs e in
      omega (arith, from_length f (v.value ∷ above) bs v.then)

  pub field_from : (f : Bytes) (bs : List A) → bits_field read f ≡ some bs → bits_from read [] f ≡ some bs
  field_from [] bs e = absurd (none_some bs e)
  field_from (b ∷ f) bs e = e

  -- as many bits as bytes
  pub bits_length : (f : Bytes) (bs : List A) → bits_field read f ≡ some bs → length bs ≡ length f
  bits_length f bs e = omega (arith, from_length f [] bs (field_from f bs e))
