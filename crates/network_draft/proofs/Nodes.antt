-- Laws of a node's fields: the eight numbers, the words of steering bits.
-- Assumes nothing.
use mathlib.Core.Path.{◌≡◌, refl, sym, ap, ◌∙◌}
use mathlib.Core.Bool.{Bool, true, false, cond, ◌&&◌, ◌||◌}
use mathlib.Core.List.{List, [], ◌∷◌}
use Prim.Native.Nat.{ℕ, ◌+◌, ◌^◌, ◌≤◌, ◌<◌}
use native.Mathlib.Omega.{arith}
use lib.ListN.{length, get_or, set, length-set}
use lib.Seq.{get_or-set_same, get_or-set_other}
use lib.Dec.{eqb, ltb}
use lib.Bits.{bit_or, or_lt}
use lib.Pow.{pow-lt}
use borrow.Author.Tests.{eqb-true, eqb-false}
use Rattle.model.specs.Network.{Node, segment, multiplexer, tabulate}
use Rattle.model.specs.Drafted.{GoodForm}
use Rattle.model.proofs.Lists.{or_false_right, tabulate_cong}
use Rattle.network_words.specs.Words.{word_width, word_bit}
use Rattle.network_path.specs.Layout.{field_at, node_at}
use Rattle.network_words.proofs.WordTests.{word_bit_or, word_bit_pow}
use Rattle.network_draft.specs.Store.{Small, BitMarked}
use Rattle.network_draft.specs.Numbers.{numbers_for}

-- ---- the eight numbers

-- input k, if it is one of the first i
abbrev pub input_below : List ℕ → ℕ → ℕ → ℕ
input_below inputs i k = cond (ltb k i) (get_or inputs k 0) 0

-- nodes with the same eight numbers
pub node_by_fields : (ns ms : List ℕ) (k j : ℕ) → ((i : ℕ) → i < 8 → field_at ns k i ≡ field_at ms j i) → field_at ms j 0 ≤ 4 → node_at ns k ≡ node_at ms j
unfolding node_at
node_by_fields ns ms k j e small =
    let e0 = e 0 (omega arith) in
    let e1 = e 1 (omega arith) in
    let e2 = e 2 (omega arith) in
    let ins : tabulate (λ i. field_at ns k (4 + i)) 0 (field_at ms j 0) ≡ tabulate (λ i. field_at ms j (4 + i)) 0 (field_at ms j 0) =
    tabulate_cong _ _ 0 (field_at ms j 0) (λ x l. e (4 + (0 + x)) (omega arith)) in
    rw (e0, e1, e2, ins)

pub numbers_size : (x : Node) → length (numbers_for x) ≡ 8
numbers_size (segment from len s) = refl
numbers_size (multiplexer s b ins) = refl

-- the numbers of a multiplexer with n inputs, of which i are there yet
abbrev pub filled : ℕ → ℕ → ℕ → List ℕ → ℕ → List ℕ
filled n s b inputs i = n ∷ s ∷ b ∷ 0 ∷ input_below inputs i 0 ∷ input_below inputs i 1 ∷ input_below inputs i 2 ∷ input_below inputs i 3 ∷ []

-- eight numbers that are a node
pub record NodeNumbers (x : Node) (numbers : List ℕ) : Type 0 where
  pub kind : get_or numbers 0 0 ≤ 4
  pub is : node_at numbers 0 ≡ x

pub node_numbers_law : (x : Node) → GoodForm x → NodeNumbers x (numbers_for x)
unfolding node_at
node_numbers_law (segment from len true) g = record { kind = omega arith; is = refl }
node_numbers_law (segment from len false) g = record { kind = omega arith; is = refl }
node_numbers_law (multiplexer s b []) g = absurd (omega (arith, g.0))
node_numbers_law (multiplexer s b (i0 ∷ [])) g = absurd (omega (arith, g.0))
node_numbers_law (multiplexer s b (i0 ∷ i1 ∷ [])) g = record { kind = omega arith; is = refl }
node_numbers_law (multiplexer s b (i0 ∷ i1 ∷ i2 ∷ [])) g = record { kind = omega arith; is = refl }
node_numbers_law (multiplexer s b (i0 ∷ i1 ∷ i2 ∷ i3 ∷ [])) g = record { kind = omega arith; is = refl }
node_numbers_law (multiplexer s b (i0 ∷ i1 ∷ i2 ∷ i3 ∷ i4 ∷ ins)) g = absurd (omega (arith, g.1))

-- ---- the words of steering bits

pub bit_marked : (old : List ℕ) (s b o : ℕ) → length old ≡ 129 → s ≤ 128 → b < word_width → o ≡ 2 ^ b → BitMarked old s b (set old s (bit_or (get_or old s 0) o))
bit_marked old s b o size hs hb e = record { size = length-set old s v; marks = λ r c l m. marks r c (eqb s r) refl; small = small }
  where
    v : ℕ
    v = bit_or (get_or old s 0) o

    marks : (r c : ℕ) (t : Bool) → eqb s r ≡ t → word_bit (get_or (set old s v) r 0) c ≡ (word_bit (get_or old r 0) c || (t && eqb b c))
    marks r c true f =
        rw (← (eqb-true s r f), get_or-set_same old s v 0 (omega arith), e)
        (word_bit_or (get_or old s 0) (2 ^ b) c ∙ ap (λ (t : Bool). word_bit (get_or old s 0) c || t) (word_bit_pow b c))
    marks r c false f = rw (get_or-set_other old s r v 0 (λ z. eqb-false s r f (sym z))) (sym (or_false_right (word_bit (get_or old r 0) c)))

    small : Small old → Small (set old s v)
    small f r = go (eqb s r) refl
      where
        go : (t : Bool) → eqb s r ≡ t → get_or (set old s v) r 0 < 2 ^ word_width
        go true g = rw (← (eqb-true s r g), get_or-set_same old s v 0 (omega arith), e) (or_lt word_width (get_or old s 0) (2 ^ b) (f s) (pow-lt {i = b} {j = word_width} (omega arith)))
        go false g = rw (get_or-set_other old s r v 0 (λ z. eqb-false s r g (sym z))) (f r)
