-- Laws of the load: a segment's row after the segments loaded so far, and all rows at the end.
-- Assumes nothing.
use mathlib.Core.Path.{◌≡◌, refl, sym, ap, subst, ◌∙◌}
use mathlib.Core.Bool.{Bool, true, false, cond, ◌||◌}
use Rattle.std.specs.Prelude.{Some as some}
use mathlib.Core.List.{List, [], ◌∷◌, map}
use Prim.Native.Nat.{ℕ, ◌+◌, ◌-◌, ◌<◌, ◌≤◌}
use native.Mathlib.Omega.{arith}
use borrow.Author.Tests.{ne_eqb, eqb-false}
use lib.Dec.{eqb}
use lib.ListN.{length, get_or, take, drop, set, length-set, length-drop}
use lib.Seq.{drop-drop, get_or-set_same, get_or-set_other, length-take-le}
use Rattle.model.specs.Network.{len_of}
use Rattle.model.specs.Path.{ScanPath, on, share, loads, csu, path_length}
use Rattle.model.specs.Text.{Trit}
use Rattle.model.proofs.Lists.{eqb_is, take_map, drop_map, tabulate_cong, map_from_tabulate}
use Rattle.network_words.specs.Words.{word_width, all_known, trits_of, byte_bit, word_of_bits}
use Rattle.network_path.specs.Layout.{node_at, config_of, segment_at, scan_path, Way}
use Rattle.network_path.specs.Answers.{ConfigSized, Loads}
use Rattle.network_path.proofs.PathLaws.{SegmentOn}
use Rattle.network_words.proofs.WordLaws.{trits_loaded}

-- a node's bits in the two words, and after a load along p
abbrev row : List ℕ → List ℕ → List ℕ → ℕ → List Trit
row ns bits known k = trits_of (len_of (node_at ns k)) (get_or bits k 0) (get_or known k 0)

abbrev row_after : ScanPath → List Trit → ℕ → List Trit → List Trit
row_after p vs k old = cond (loads p k) (share p vs k) old

abbrev bits_in : List ℕ → List Trit
bits_in scan = map some (map byte_bit scan)

-- i segments are loaded from p bits: the rest of the load gives every row what the whole load gives it
pub record Loading (ns way : List ℕ) (n : ℕ) (scan bits₀ known₀ : List ℕ) (i p : ℕ) (bits known : List ℕ) : Type 0 where
  pub sized : ConfigSized bits known
  pub left : p + path_length (scan_path ns (drop i (take n way))) ≡ length scan
  pub rows : (k : ℕ) → row_after (scan_path ns (drop i (take n way))) (drop p (bits_in scan)) k (row ns bits known k)
      ≡ row_after (scan_path ns (take n way)) (bits_in scan) k (row ns bits₀ known₀ k)

-- ---- one segment more

-- a number from m on is not on a path of numbers below m
later_off : (ns : List ℕ) (m : ℕ) (ks : List ℕ) (k : ℕ) → m ≤ k → Way ns m ks → on (scan_path ns ks) k ≡ false
later_off ns m [] k l w = refl
later_off ns m (j ∷ ks) k l w =
    let b : j < m = w.1 in
    rw (ne_eqb j k (λ e. omega arith)) (later_off ns j ks k (omega arith) w.4)

-- the part of the scan-in bits for a segment of len bits behind p bits
abbrev part_of : List ℕ → ℕ → ℕ → List ℕ
part_of scan p len = take (p + len - p) (drop p scan)

part_bits : (scan : List ℕ) (p len : ℕ) → take len (drop p (bits_in scan)) ≡ bits_in (part_of scan p len)
part_bits scan p len =
    ap (take len) (drop_map some p (map byte_bit scan) ∙ ap (map some) (drop_map byte_bit p scan))
    ∙ take_map some len (map byte_bit (drop p scan)) ∙ ap (map some) (take_map byte_bit len (drop p scan))
    ∙ ap (λ (m : ℕ). bits_in (take m (drop p scan))) (let z : len ≡ p + len - p = omega arith in z)

pub part_long : (scan : List ℕ) (p len : ℕ) → p + len ≤ length scan → length (part_of scan p len) ≡ len
part_long scan p len h = length-take-le (p + len - p) (drop p scan) (omega (arith, length-drop p scan)) ∙ omega arith

-- segment k, the i-th of the way, has len bits and takes the word w of its part
module _ (ns way : List ℕ) (n : ℕ) (scan bits₀ known₀ : List ℕ) (i p : ℕ) (bits known : List ℕ) (l : Loading ns way n scan bits₀ known₀ i p bits known)
    (k len : ℕ) (on-way : SegmentOn ns way n i k) (is : len ≡ len_of (node_at ns k)) where
  pub part_fits : p + len ≤ length scan
  part_fits = let more = ap (λ (ks : List ℕ). path_length (scan_path ns ks)) on-way.splits in omega (arith, l.left)

  abbrev rest : ScanPath
  rest = scan_path ns (drop (i + 1) (take n way))

  module _ (w : ℕ) (word : w ≡ word_of_bits (map byte_bit (part_of scan p len))) where
    abbrev bits' : List ℕ
    bits' = set bits k w

    abbrev known' : List ℕ
    known' = set known k all_known

    -- its own row
    loaded_row : row_after rest (drop (p + len) (bits_in scan)) k (row ns bits' known' k) ≡ take (len_of (node_at ns k)) (drop p (bits_in scan))
    loaded_row =
        rw (
          later_off ns k (drop (i + 1) (take n way)) k (omega arith) on-way.later,
          get_or-set_same bits k w 0 (omega (arith, on-way.below, l.sized.words)),
          get_or-set_same known k all_known 0 (omega (arith, on-way.below, l.sized.marks)),
          ← is,
          word,
        )
        (trits_loaded word_width len (part_of scan p len) (part_long scan p len part_fits) (omega (arith, on-way.most)) ∙ sym (part_bits scan p len))

    -- another row
    other_row : (j : ℕ) → eqb k j ≡ false → row ns bits' known' j ≡ row ns bits known j
    other_row j e =
        let ne : j ≡ k → ⊥ = λ q. eqb-false k j e (sym q) in
        rw (get_or-set_other bits k j w 0 ne, get_or-set_other known k j all_known 0 ne)

    row_more : (j : ℕ) → row_after rest (drop (p + len) (bits_in scan)) j (row ns bits' known' j) ≡ row_after (segment_at ns k ∷ rest) (drop p (bits_in scan)) j (row ns bits known j)
    row_more j = go (eqb k j) refl
      where
        go : (t : Bool) → eqb k j ≡ t → row_after rest (drop (p + len) (bits_in scan)) j (row ns bits' known' j)
            ≡ cond (t || on rest j) (cond t (take (len_of (node_at ns k)) (drop p (bits_in scan))) (share rest (drop (len_of (node_at ns k)) (drop p (bits_in scan))) j)) (row ns bits known j)
        go true e =
            subst (λ (m : ℕ). row_after rest (drop (p + len) (bits_in scan)) m (row ns bits' known' m) ≡ take (len_of (node_at ns k)) (drop p (bits_in scan))) (eqb_is k j e) loaded_row
        go false e =
            ap (λ (vs : List Trit). cond (on rest j) (share rest vs j) (row ns bits' known' j)) (sym (drop-drop len p (bits_in scan)) ∙ ap (λ (m : ℕ). drop m (drop p (bits_in scan))) is)
            ∙ ap (cond (on rest j) (share rest (drop (len_of (node_at ns k)) (drop p (bits_in scan))) j)) (other_row j e)

    pub loading_more : Loading ns way n scan bits₀ known₀ (i + 1) (p + len) bits' known'
    loading_more =
        let more = ap (λ (ks : List ℕ). path_length (scan_path ns ks)) on-way.splits in
        record {
          sized = record { words = length-set bits k w ∙ l.sized.words; marks = length-set known k all_known ∙ l.sized.marks };
          left = omega (arith, l.left);
          rows = λ j. row_more j ∙ ap (λ (ks : List ℕ). row_after (scan_path ns ks) (drop p (bits_in scan)) j (row ns bits known j)) (sym on-way.splits) ∙ l.rows j;
        }

-- ---- all segments

pub loading_all : (ns way : List ℕ) (n : ℕ) (scan bits₀ known₀ : List ℕ) (i p : ℕ) (bits known : List ℕ) → drop i (take n way) ≡ []
    → Loading ns way n scan bits₀ known₀ i p bits known → Loads ns way n scan bits₀ known₀ bits known
unfolding config_of csu
loading_all ns way n scan bits₀ known₀ i p bits known e l = record {
  loads = λ count. tabulate_cong (row ns bits known) (λ k. row_after (scan_path ns (take n way)) (bits_in scan) k (row ns bits₀ known₀ k)) 1 count (λ x h. here (1 + x))
      ∙ sym (map_from_tabulate (row_after (scan_path ns (take n way)) (bits_in scan)) (row ns bits₀ known₀) 1 count);
  sized = l.sized;
}
  where
    here : (k : ℕ) → row ns bits known k ≡ row_after (scan_path ns (take n way)) (bits_in scan) k (row ns bits₀ known₀ k)
    here k = rw e at (l.rows k)
