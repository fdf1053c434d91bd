-- What the model's `mux` line says, by the numbers in its fields.
-- Assumes nothing.
use mathlib.Core.Path.{◌≡◌, refl, sym, ap, ◌∙◌}
use mathlib.Core.Bool.{Bool, true, false}
use Rattle.std.specs.Prelude.{Option, None as none, Some as some}
use mathlib.Core.Logic.{◌⊎◌, inl, inr}
use mathlib.Core.List.{List, [], ◌∷◌, ◌++◌, append_assoc, append-nil}
use Prim.Native.Nat.{ℕ, suc, ◌+◌, ◌≤◌, ◌<◌}
use native.Mathlib.Omega.{arith}
use native.Mathlib.Numerals.{add-one}
use lib.ListN.{length, take, drop, get_or, set, drop_of_length-le, length-set}
use lib.Seq.{drop-cons, take-suc-set, get_or-set_same, get_or-set_other}
use lib.Dec.{eqb}
use borrow.Author.Tests.{le-leb, lt-leb, eqb-true, eqb-false}
use Rattle.model.specs.Text.{Bytes, bind, decimal}
use Rattle.model.specs.Network.{multiplexer}
use Rattle.model.specs.NetworkText.{node, field, decimals, mux_line}

-- ---- the line by its numbers

pub mux_count : (fs : List Bytes) (n : ℕ) → n ≡ length fs → (n < 5) ⊎ ((5 ≤ n) × (7 < n)) → none ≡ mux_line fs
unfolding mux_line
mux_count fs n e (inl l) = rw (lt-leb 5 (length fs) (omega arith))
mux_count fs n e (inr (l, m)) = rw (le-leb 5 (length fs) (omega arith), lt-leb (length fs) 7 (omega arith))

module _ (fs : List Bytes) (lo : 5 ≤ length fs) (hi : length fs ≤ 7) where
  by_numbers : (s b : Option ℕ) (ins : Option (List ℕ)) → s ≡ decimal (field fs 1) → b ≡ decimal (field fs 2) → ins ≡ decimals (drop 3 fs)
      → bind s (λ s. bind b (λ b. bind ins (λ ins. some (node (multiplexer s b ins) none)))) ≡ mux_line fs
  unfolding mux_line
  by_numbers s b ins e f g = rw (le-leb 5 (length fs) lo, le-leb (length fs) 7 hi, e, f, g)

  pub mux_seg : none ≡ decimal (field fs 1) → none ≡ mux_line fs
  mux_seg e = by_numbers none _ _ e refl refl

  module _ (s : ℕ) (e : some s ≡ decimal (field fs 1)) where
    pub mux_bit : none ≡ decimal (field fs 2) → none ≡ mux_line fs
    mux_bit f = by_numbers (some s) none _ e f refl

    module _ (b : ℕ) (f : some b ≡ decimal (field fs 2)) where
      pub mux_inputs : none ≡ decimals (drop 3 fs) → none ≡ mux_line fs
      mux_inputs g = by_numbers (some s) (some b) none e f g

      pub mux_is : (ins : List ℕ) → some ins ≡ decimals (drop 3 fs) → some (node (multiplexer s b ins) none) ≡ mux_line fs
      mux_is ins g = by_numbers (some s) (some b) (some ins) e f g

-- ---- the inputs

-- the first k are read
pub record Done (fs : List Bytes) (inputs : List ℕ) (k : ℕ) : Type 0 where
  pub few : k + 3 ≤ length fs
  pub long : length inputs ≡ 4
  pub small : (j : ℕ) → get_or inputs j 0 ≤ 9999
  pub rest : bind (decimals (drop (k + 3) fs)) (λ ns. some (take k inputs ++ ns)) ≡ decimals (drop 3 fs)

module _ (fs : List Bytes) (inputs : List ℕ) (k : ℕ) (d : Done fs inputs k) where
  next : (o : Option ℕ) → k + 3 < length fs → o ≡ decimal (field fs (k + 3))
      → bind o (λ n. bind (decimals (drop (k + 1 + 3) fs)) (λ ns. some ((take k inputs ++ n ∷ []) ++ ns))) ≡ decimals (drop 3 fs)
  unfolding decimals
  next o h e =
      let one_on : suc (k + 3) ≡ k + 1 + 3 = omega arith in
      sym (rw (drop-cons fs (k + 3) [] h, decimals, ← e) (go o (decimals (drop (suc (k + 3)) fs)) ∙ rw one_on))
      ∙ d.rest
    where
      go : (o : Option ℕ) (rest : Option (List ℕ))
          → bind (bind o (λ n. bind rest (λ ns. some (n ∷ ns)))) (λ ns. some (take k inputs ++ ns))
          ≡ bind o (λ n. bind rest (λ ns. some ((take k inputs ++ n ∷ []) ++ ns)))
      go none rest = refl
      go (some n) none = refl
      go (some n) (some ns) = ap some (sym (append_assoc (take k inputs) (n ∷ []) ns))

  pub done_bad : k + 3 < length fs → none ≡ decimal (field fs (k + 3)) → none ≡ decimals (drop 3 fs)
  done_bad h e = next none h e

  pub done_all : (n : ℕ) → n + 3 ≡ length fs → n ≤ k → some (take n inputs) ≡ decimals (drop 3 fs)
  unfolding decimals
  done_all n e l =
      let all : length fs ≤ k + 3 = omega arith in
      let same : n ≡ k = omega (arith, d.few) in
      rw same (sym (rw (drop_of_length-le fs {i = k + 3} all, append-nil (take k inputs))) ∙ d.rest)

  pub done_next : (n : ℕ) → k + 3 < length fs → length fs ≤ 7 → some n ≡ decimal (field fs (k + 3)) → n ≤ 9999 → Done fs (set inputs k n) (k + 1)
  done_next n h l e m =
      let p : take (k + 1) (set inputs k n) ≡ take k inputs ++ n ∷ [] = rw (add-one k) (take-suc-set inputs k n (omega (arith, d.long))) in
      record {
        few = omega arith;
        long = length-set inputs k n ∙ d.long;
        small = λ j. go j (eqb j k) refl;
        rest = rw p (next (some n) h e);
      }
    where
      go : (j : ℕ) (t : Bool) → eqb j k ≡ t → get_or (set inputs k n) j 0 ≤ 9999
      go j true r = rw (eqb-true j k r, get_or-set_same inputs k n 0 (omega (arith, d.long))) m
      go j false r = rw (get_or-set_other inputs k j n 0 (eqb-false j k r)) (d.small j)
