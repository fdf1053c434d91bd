-- The list of the words that the planner shifts to the bits that do not steer, target by target from the last to the first.
-- Assumes nothing.
use mathlib.Core.Path.{◌≡◌, refl, sym, ap, ◌∙◌, subst}
use mathlib.Core.Bool.{Bool, true, false, cond}
use mathlib.Core.List.{List, ◌∷◌}
use Prim.Native.Nat.{ℕ, suc, ◌+◌, ◌-◌, ◌≤◌, ◌<◌}
use native.Mathlib.Omega.{arith}
use native.Mathlib.Nat.{zero-add}
use native.Mathlib.Numerals.{add-one}
use borrow.Author.Tests.{eqb-true, eqb-false}
use lib.Dec.{eqb}
use lib.ListN.{length, get_or, set, length-set}
use lib.Seq.{get_or-set_same, get_or-set_other}
use Rattle.std.specs.Prelude.{Option, None as none, Some as some}
use Rattle.model.specs.Network.{Target, len_of, tabulate}
use Rattle.model.specs.Plan.{wanted}
use Rattle.model.proofs.Lists.{get_d_tabulate}
use Rattle.network_words.specs.Words.{word_bit}
use Rattle.network_path.specs.Layout.{node_at}
use Rattle.network_words.proofs.WordLaws.{zero_bit}
use Rattle.network_draft.specs.declared.store.Summary.{Summary}
use Rattle.network_draft.specs.Represents.{target_with, stored_at, target_at, targets_of}
use Rattle.planner_settings.specs.Route.{Unmarked, TargetsWithin}
use Rattle.planner_line.specs.Line.{WantsOf}

abbrev targets_from : List ℕ → Summary → ℕ → List Target
targets_from ns t i = tabulate (target_at ns t) i (t.target_count - i)

-- the words of the targets from number i on
pub record Wanting (t : Summary) (i : ℕ) (wants : List ℕ) : Type 0 where
  pub size : length wants ≡ 129
  pub are : (s : ℕ) → s ≤ 128 → (ns : List ℕ) (b : ℕ) → b < len_of (node_at ns s) → word_bit (get_or wants s 0) b ≡ wanted (targets_from ns t i) s b

pub wanting_none : (t : Summary) (wants : List ℕ) → Unmarked wants → Wanting t t.target_count wants
unfolding wanted
wanting_none t wants z = record {
  size = z.size;
  are = λ s l ns b inside.
      let e : t.target_count - t.target_count ≡ 0 = omega arith in
      rw e (ap (λ (w : ℕ). word_bit w b) (z.none s l) ∙ zero_bit b);
}

-- ---- one target more

-- the words with the bits of a target of segment s put in, if it is a write target
abbrev pub words_with : ℕ → Option ℕ → List ℕ → List ℕ
words_with s none wants = wants
words_with s (some word) wants = set wants s word

words_size : (s : ℕ) (w : Option ℕ) (wants : List ℕ) → length (words_with s w wants) ≡ length wants
words_size s none wants = refl
words_size s (some word) wants = length-set wants s word

-- the target decides, or the next ones do
target_words : (k : ℕ) (w : Option ℕ) (wants : List ℕ) → length wants ≡ 129 → k ≤ 128 → (ns : List ℕ) (ts : List Target) (s b : ℕ) → b < len_of (node_at ns s)
    → word_bit (get_or wants s 0) b ≡ wanted ts s b → word_bit (get_or (words_with k w wants) s 0) b ≡ wanted (target_with ns k w ∷ ts) s b
unfolding wanted
target_words k none wants size low ns ts s b inside before = before
target_words k (some word) wants size low ns ts s b inside before = by (eqb k s) refl
  where
    bits : ℕ → List Bool
    bits r = tabulate (word_bit word) 0 (len_of (node_at ns r))

    by : (y : Bool) → eqb k s ≡ y → word_bit (get_or (set wants k word) s 0) b ≡ cond y (get_or (bits k) b false) (wanted ts s b)
    by true e =
        let r : k ≡ s = eqb-true k s e in
        ap (λ (q : ℕ). word_bit (get_or (set wants k word) q 0) b) (sym r) ∙ ap (λ (w : ℕ). word_bit w b) (get_or-set_same wants k word 0 (omega arith))
        ∙ sym (get_d_tabulate (word_bit word) 0 (len_of (node_at ns k)) b false (subst (λ (q : ℕ). b < len_of (node_at ns q)) (sym r) inside) ∙ ap (word_bit word) (zero-add b))
    by false e = ap (λ (w : ℕ). word_bit w b) (get_or-set_other wants k s word 0 (λ z. eqb-false k s e (sym z))) ∙ before

module _ (t : Summary) (i : ℕ) (l : 0 < i) (m : i ≤ t.target_count) where
  abbrev k : ℕ
  k = i - 1

  one_more : (ns : List ℕ) → targets_from ns t k ≡ target_at ns t k ∷ targets_from ns t i
  one_more ns =
      let e : t.target_count - k ≡ suc (t.target_count - i) = omega arith in
      let n : suc k ≡ i = omega arith in
      rw e (rw n)

  -- the turn of the loop
  pub wanting_more : {wants : List ℕ} → Wanting t i wants → TargetsWithin t → Wanting t k (words_with (stored_at t k).segment (stored_at t k).write wants)
  wanting_more {wants} w low = record {
    size = words_size (stored_at t k).segment (stored_at t k).write wants ∙ w.size;
    are = λ s less ns b inside.
        target_words (stored_at t k).segment (stored_at t k).write wants w.size (low k (omega arith)) ns (targets_from ns t i) s b inside (w.are s less ns b inside)
        ∙ ap (λ (ts : List Target). wanted ts s b) (sym (one_more ns));
  }

-- ---- all targets

pub wanting_all : {t : Summary} {wants : List ℕ} (i : ℕ) → i ≤ 0 → Wanting t i wants → WantsOf t wants
wanting_all {t} {wants} i l w =
    let e : i ≡ 0 = omega arith in
    let n : t.target_count - 0 ≡ t.target_count = omega arith in
    let z = rw e at w in
    record { size = z.size; are = λ s m ns b inside. z.are s m ns b inside ∙ ap (λ (k : ℕ). wanted (tabulate (target_at ns t) 0 k) s b) n }
