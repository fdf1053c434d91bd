-- Laws of the bytes of a segment's bits, written from the highest bit down.
-- Assumes nothing.
use mathlib.Core.Path.{◌≡◌, refl, sym, ap, ◌∙◌}
use Rattle.std.specs.Prelude.{None as none}
use mathlib.Core.List.{List, [], ◌∷◌, ◌++◌, map, map-append, reverse, reverse-cons}
use Prim.Native.Nat.{ℕ, zero, suc, ◌+◌, ◌-◌, ◌≤◌, ◌<◌}
use native.Mathlib.Numerals.{add-one}
use native.Mathlib.Omega.{arith}
use lib.ListN.{length, set, replicate, length-map, length-replicate, length-reverse, replicate-append-replicate}
use Rattle.model.specs.Network.{tabulate}
use Rattle.model.specs.Text.{Bytes, Trit}
use Rattle.model.proofs.Lists.{length_tabulate, tabulate_step, tabulate_none, tabulate_whole}
use Rattle.carry_model.specs.Carry.{trit_byte}
use Rattle.network_words.specs.Words.{trits_of}
use Rattle.network_words.proofs.WordLaws.{trits_unknown}
use Rattle.plan_text.specs.Writing.{write_at}
use Rattle.plan_text.proofs.Writing.{write_more}
use Rattle.program_lines.specs.Puts.{Puts}

-- ---- the bytes of bits b to len - 1, the highest first

abbrev pub down_to : ℕ → (ℕ → Trit) → ℕ → Bytes
down_to len f b = map trit_byte (reverse (tabulate f b (len - b)))

module _ (len : ℕ) (f : ℕ → Trit) where
  down_length : (b : ℕ) → length (down_to len f b) ≡ len - b
  down_length b = length-map (reverse (tabulate f b (len - b))) trit_byte ∙ length-reverse (tabulate f b (len - b)) ∙ length_tabulate f b (len - b)

  pub down_none : down_to len f len ≡ []
  down_none = ap (λ (l : List Trit). map trit_byte (reverse l)) (tabulate_none f len len (omega arith))

  down_next : (b : ℕ) → b < len → down_to len f b ≡ down_to len f (b + 1) ++ trit_byte (f b) ∷ []
  down_next b h =
      ap (λ (l : List Trit). map trit_byte (reverse l)) (tabulate_step f b len h)
      ∙ ap (λ (l : List Trit). map trit_byte l) (reverse-cons (f b) (tabulate f (b + 1) (len - (b + 1))))
      ∙ map-append trit_byte (reverse (tabulate f (b + 1) (len - (b + 1)))) (f b ∷ [])

  -- one more byte
  pub down_more : (at b next v : ℕ) (old x : List ℕ) → 0 < b → b ≤ len → at + len ≤ length old → next ≡ at + (len - b) → v ≡ trit_byte (f (b - 1))
      → x ≡ write_at at (down_to len f b) old → set x next v ≡ write_at at (down_to len f (b - 1)) old
  down_more at b next v old x h l fits p q e =
      let k : b - 1 + 1 ≡ b = omega arith in
      let n : at + length (down_to len f b) ≡ next = omega (arith, down_length b) in
      let m = write_more at (down_to len f b) old (omega (arith, down_length b)) v in
      let d = down_next (b - 1) (omega arith) in
      rw (e, d, k, ← q) (rw n at m)

  pub down_done : (at b next : ℕ) (old x : List ℕ) → b ≤ 0 → next ≡ at + (len - b) → x ≡ write_at at (down_to len f b) old
      → Puts at (map trit_byte (reverse (tabulate f 0 len))) old next x
  down_done at b next old x h p e =
      let none : b ≡ 0 = omega arith in
      let all : down_to len f b ≡ map trit_byte (reverse (tabulate f 0 len)) =
      ap (down_to len f) none ∙ ap (λ (l : List Trit). map trit_byte (reverse l)) (tabulate_whole f len) in
      record { behind = omega (arith, p, down_length b, ap length all); holds = e ∙ ap (λ (l : Bytes). write_at at l old) all }

-- ---- no bit is known

reverse_same : {A : Type 0} (n : ℕ) (a : A) → reverse (replicate n a) ≡ replicate n a
reverse_same zero a = refl
reverse_same (suc n) a =
    reverse-cons a (replicate n a) ∙ ap (λ l. l ++ a ∷ []) (reverse_same n a) ∙ replicate-append-replicate n 1 a ∙ ap (λ (k : ℕ). replicate k a) (add-one n)

bytes_same : (n : ℕ) → map trit_byte (replicate n none) ≡ replicate n 88
bytes_same zero = refl
bytes_same (suc n) = ap (λ (l : Bytes). 88 ∷ l) (bytes_same n)

unknown_bytes : (len w : ℕ) → map trit_byte (reverse (trits_of len w 0)) ≡ replicate len 88
unknown_bytes len w =
    ap (λ (l : List Trit). map trit_byte (reverse l)) (trits_unknown w len) ∙ ap (λ (l : List Trit). map trit_byte l) (reverse_same len none) ∙ bytes_same len

pub puts_unknown : (len w known at r : ℕ) (old new : List ℕ) → known ≡ 0 → r ≡ at + len → new ≡ write_at at (replicate len 88) old
    → Puts at (map trit_byte (reverse (trits_of len w known))) old r new
puts_unknown len w known at r old new none_known p e =
    let all : replicate len 88 ≡ map trit_byte (reverse (trits_of len w known)) =
    sym (unknown_bytes len w) ∙ ap (λ (k : ℕ). map trit_byte (reverse (trits_of len w k))) (sym none_known) in
    record { behind = omega (arith, p, length-replicate {A = ℕ} len 88, ap length all); holds = e ∙ ap (λ (l : Bytes). write_at at l old) all }
