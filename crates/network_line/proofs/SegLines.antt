-- What the model's `seg` line says, by what the parser finds in its fields.
-- Assumes nothing.
use mathlib.Core.Path.{◌≡◌, refl, sym, ap, ◌∙◌}
use mathlib.Core.Bool.{Bool, true, false}
use Rattle.std.specs.Prelude.{Option, None as none, Some as some, option_map}
use mathlib.Core.List.{List, [], ◌∷◌}
use Prim.Native.Nat.{ℕ, ◌≤◌, ◌<◌}
use native.Mathlib.Omega.{arith}
use mathlib.Core.Logic.{◌⊎◌, inl, inr}
use lib.ListN.{length, drop, drop_of_length-le}
use lib.Seq.{drop-cons}
use borrow.Author.Tests.{le-leb, lt-leb}
use Rattle.model.specs.Text.{Bytes, bind, decimal, bits_from, bits_field, Trit, trit}
use Rattle.model.specs.Network.{Node, segment}
use Rattle.model.specs.NetworkText.{Reset, node, field, kind, reset_field, seg_line, is_some}
use Rattle.model.proofs.LineForms.{seg_none}
use Rattle.model.proofs.Lists.{none_some}
use Rattle.text.specs.Bits.{bits_form}
use Rattle.text.proofs.Bits.{is_some_law, is_none, field_from}
use Rattle.network_line.specs.Line.{node_for, reset_in, entry_means, GoodEntry, segment_by, IsSegment}
use Rattle.network_line.specs.declared.NodeData.{NodeData}
use Rattle.network_line.specs.declared.Entry.TheVariants.{Node as NodeEntry}

-- ---- the count of fields, and RESET

pub seg_count : (fs : List Bytes) (n : ℕ) → n ≡ length fs → (n < 4) ⊎ ((4 ≤ n) × (5 < n)) → none ≡ seg_line fs
unfolding seg_line
seg_count fs n e (inl l) = rw (lt-leb 4 (length fs) (omega arith))
seg_count fs n e (inr (l, m)) = rw (le-leb 4 (length fs) (omega arith), lt-leb (length fs) 5 (omega arith))

-- the segment with this RESET field
by_reset_law : (fs : List Bytes) (o : Option Reset) → 4 ≤ length fs → length fs ≤ 5 → reset_field (drop 4 fs) ≡ o
    → bind (segment_by fs) (λ x. bind o (λ v. some (node x v))) ≡ seg_line fs
unfolding seg_line
by_reset_law fs o lo hi e = rw (le-leb 4 (length fs) lo, le-leb (length fs) 5 hi, e) (go (decimal (field fs 1)) (decimal (field fs 2)) (kind (field fs 3)))
  where
    go : (from len : Option ℕ) (shadow : Option Bool) → bind (bind from (λ f. bind len (λ n. bind shadow (λ s. some (segment f n s))))) (λ x. bind o (λ v. some (node x v)))
        ≡ bind from (λ f. bind len (λ n. bind shadow (λ s. bind o (λ v. some (node (segment f n s) v)))))
    go none len shadow = refl
    go (some f) none shadow = refl
    go (some f) (some n) none = refl
    go (some f) (some n) (some s) = refl

-- what is made of no segment, and of one
with_segment : (fs : List Bytes) (r : Option NodeData) (o : Option Reset) → 4 ≤ length fs → length fs ≤ 5 → IsSegment fs r → reset_field (drop 4 fs) ≡ o
    → bind (option_map node_for r) (λ x. bind o (λ v. some (node x v))) ≡ seg_line fs
with_segment fs r o lo hi is e = ap (λ (s : Option Node). bind s (λ x. bind o (λ v. some (node x v)))) is.means ∙ by_reset_law fs o lo hi e

pub seg_none_of : (fs : List Bytes) → 4 ≤ length fs → length fs ≤ 5 → IsSegment fs none → none ≡ seg_line fs
seg_none_of fs lo hi is = with_segment fs none _ lo hi is refl

pub seg_plain : (fs : List Bytes) (x : NodeData) → length fs ≡ 4 → IsSegment fs (some x) → (some (entry_means [] (NodeEntry x)) ≡ seg_line fs) × GoodEntry [] (NodeEntry x)
unfolding bits_from
seg_plain fs x h is =
    let l : length fs ≤ 4 = omega arith in
    (with_segment fs (some x) (some none) (omega arith) (omega arith) is (ap reset_field (drop_of_length-le fs l)), (is.small, refl))

module _ (fs : List Bytes) (h : length fs ≡ 5) where
  last_field : (o : Option (List Trit)) → bits_field trit (field fs 4) ≡ o → reset_field (drop 4 fs) ≡ bind o (λ bs. some (some bs))
  last_field o e = ap reset_field (drop-cons fs 4 [] (omega arith)) ∙ ap (λ (q : Option (List Trit)). bind q (λ bs. some (some bs))) e

  pub seg_wrong : bits_form true (field fs 4) ≡ false → none ≡ seg_line fs
  seg_wrong e = sym (seg_none fs h (is_none _ e))

  pub seg_reset : (x : NodeData) → bits_form true (field fs 4) ≡ true → IsSegment fs (some x)
      → (some (entry_means (field fs 4) (NodeEntry x)) ≡ seg_line fs) × GoodEntry (field fs 4) (NodeEntry x)
  seg_reset x good is =
      let b = is_some_law _ good in (
        ap (λ (v : Reset). some (node (node_for x) v)) (is_reset (field fs 4) b.0 b.1) ∙ with_segment fs (some x) (some (some b.0)) (omega arith) (omega arith) is (last_field (some b.0) b.1),
        (is.small, ap is_some (field_from trit (field fs 4) b.0 b.1)),
      )
    where
      is_reset : (f : Bytes) (bs : List Trit) → bits_field trit f ≡ some bs → reset_in f ≡ some bs
      is_reset [] bs q = absurd (none_some bs q)
      is_reset (c ∷ f) bs q = rw (field_from trit (c ∷ f) bs q)
