-- The test frame has a start for each choice of the unknown start bits and of the first shift bits.
-- Assumes nothing.
use mathlib.Core.Path.{◌≡◌, refl, sym, ◌∙◌}
use mathlib.Core.Bool.{Bool, true, false}
use Rattle.std.specs.Prelude.{None as none, Some as some}
use mathlib.Core.List.{List, [], ◌∷◌, map}
use Prim.Native.Nat.{ℕ, zero, suc, ◌<◌}
use native.Mathlib.Omega.{arith}
use native.Mathlib.Nat.{le_of_suc-le-suc, not-suc-le-zero}
use lib.ListN.{length, get_or}
use Rattle.model.specs.Demands.{FrameStarts}
use Rattle.model.specs.Frame.{Register, plain, shadowed, Registers, held_bits, shift_bits, held_at, shift_at, Fits, ends, known, unknown, RegisterFits, without, with_shadow, Holds, nothing, more}
use Rattle.model.specs.Network.{Node, Config, at, no_node, has_shadow, len_of}
use Rattle.model.specs.Path.{bit_of}
use Rattle.model.specs.Text.{Trit}
use Rattle.model.proofs.Accepted.{accepted}
use Rattle.model.proofs.Lists.{true_false}

-- ---- a segment

-- its start, with these bits for the unknown ones
abbrev filled : (ℕ → Bool) → List Trit → List Bool
filled u [] = []
filled u (some b ∷ ts) = b ∷ filled (λ j. u (suc j)) ts
filled u (none ∷ ts) = u 0 ∷ filled (λ j. u (suc j)) ts

filled_fits : (u : ℕ → Bool) (ts : List Trit) → Fits ts (filled u ts)
filled_fits u [] = ends
filled_fits u (some b ∷ ts) = known (filled_fits (λ j. u (suc j)) ts)
filled_fits u (none ∷ ts) = unknown (filled_fits (λ j. u (suc j)) ts)

filled_at : (u : ℕ → Bool) (ts : List Trit) (j : ℕ) → j < length ts → get_or ts j none ≡ none → get_or (filled u ts) j false ≡ u j
filled_at u [] j l e = absurd (not-suc-le-zero l)
filled_at u (some b ∷ ts) zero l e = cc
filled_at u (some b ∷ ts) (suc j) l e = filled_at (λ k. u (suc k)) ts j (le_of_suc-le-suc l) e
filled_at u (none ∷ ts) zero l e = refl
filled_at u (none ∷ ts) (suc j) l e = filled_at (λ k. u (suc k)) ts j (le_of_suc-le-suc l) e

record Start (n : Node) (ts : List Trit) (u : ℕ → Bool) (shift : List Bool) : Type 0 where
  first : Register
  fits : RegisterFits n ts first
  held : held_bits first ≡ filled u ts
  any_shift : has_shadow n ≡ true → shift_bits first ≡ shift

start : (n : Node) (ts : List Trit) (u : ℕ → Bool) (shift : List Bool) → Start n ts u shift
start n ts u shift = go (has_shadow n) refl
  where
    go : (t : Bool) → has_shadow n ≡ t → Start n ts u shift
    go true e = record { first = shadowed (filled u ts) shift; fits = with_shadow e (filled_fits u ts); held = refl; any_shift = λ x. refl }
    go false e = record { first = plain (filled u ts); fits = without e (filled_fits u ts); held = refl; any_shift = λ x. absurd (true_false (sym x ∙ e)) }

-- ---- all nodes

record Starts (ns : List Node) (c : Config) (u : ℕ → ℕ → Bool) (shift : ℕ → List Bool) : Type 0 where
  first : Registers
  holds : Holds ns c first
  any_bit : (i j : ℕ) → j < len_of (get_or ns i no_node) → get_or (get_or c i []) j none ≡ none → get_or (held_bits (get_or first i (plain []))) j false ≡ u i j
  any_shift : (i : ℕ) → has_shadow (get_or ns i no_node) ≡ true → shift_bits (get_or first i (plain [])) ≡ shift i

one_more : (n : Node) (ns : List Node) (ts : List Trit) (c : Config) (u : ℕ → ℕ → Bool) (shift : ℕ → List Bool) → length ts ≡ len_of n
    → Starts ns c (λ i. u (suc i)) (λ i. shift (suc i)) → Starts (n ∷ ns) (ts ∷ c) u shift
one_more n ns ts c u shift e rest = record { first = one.first ∷ rest.first; holds = more one.fits rest.holds; any_bit = any_bit; any_shift = any_shift }
  where
    one : Start n ts (u 0) (shift 0)
    one = start n ts (u 0) (shift 0)

    any_bit : (i j : ℕ) → j < len_of (get_or (n ∷ ns) i no_node) → get_or (get_or (ts ∷ c) i []) j none ≡ none
        → get_or (held_bits (get_or (one.first ∷ rest.first) i (plain []))) j false ≡ u i j
    any_bit zero j l x = rw one.held (filled_at (u 0) ts j (omega arith) x)
    any_bit (suc i) j l x = rest.any_bit i j l x

    any_shift : (i : ℕ) → has_shadow (get_or (n ∷ ns) i no_node) ≡ true → shift_bits (get_or (one.first ∷ rest.first) i (plain [])) ≡ shift i
    any_shift zero x = one.any_shift x
    any_shift (suc i) x = rest.any_shift i x

starts : (ns : List Node) (c : Config) (u : ℕ → ℕ → Bool) (shift : ℕ → List Bool) → map length c ≡ map len_of ns → Starts ns c u shift
starts [] [] u shift e = record { first = []; holds = nothing; any_bit = λ i j l x. absurd (not-suc-le-zero l); any_shift = λ i x. absurd (true_false (sym x)) }
starts [] (ts ∷ c) u shift e = let z : ◌≡◌ {A = ℕ} 0 1 = cc in absurd (omega arith)
starts (n ∷ ns) [] u shift e = let z : ◌≡◌ {A = ℕ} 0 1 = cc in absurd (omega arith)
starts (n ∷ ns) (ts ∷ c) u shift e =
    let l : length ts ≡ len_of n = cc in
    let ls : map length c ≡ map len_of ns = cc in
    one_more n ns ts c u shift l (starts ns c (λ i. u (suc i)) (λ i. shift (suc i)) ls)

pub starts_with_any : FrameStarts
starts_with_any n net e u shift = (r.first, record { holds = r.holds; any_bit = any_bit; any_shift = any_shift })
  where
    r : Starts net.nodes net.start (λ i. u (suc i)) (λ i. shift (suc i))
    r = starts net.nodes net.start (λ i. u (suc i)) (λ i. shift (suc i)) (accepted n net e).wf.starts

    any_bit : (s j : ℕ) → j < len_of (at net.nodes s no_node) → bit_of net.start s j ≡ none → get_or (held_at r.first s) j false ≡ u s j
    any_bit zero j l x = absurd (not-suc-le-zero l)
    any_bit (suc i) j l x = r.any_bit i j l x

    any_shift : (s : ℕ) → has_shadow (at net.nodes s no_node) ≡ true → shift_at r.first s ≡ shift s
    any_shift zero x = absurd (true_false (sym x))
    any_shift (suc i) x = r.any_shift i x
