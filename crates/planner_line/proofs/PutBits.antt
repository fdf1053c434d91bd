-- The bits of a choice written place by place, and segment by segment.
-- Assumes nothing.
use mathlib.Core.Path.{◌≡◌, refl, sym, ap, ◌∙◌, subst}
use mathlib.Core.Bool.{Bool, false, cond}
use mathlib.Core.List.{List, [], ◌∷◌, ◌++◌, map, map-append, append_assoc}
use Prim.Native.Nat.{ℕ, zero, suc, ◌+◌, ◌/◌, ◌%◌, ◌≤◌, ◌<◌}
use native.Mathlib.Omega.{arith}
use native.Mathlib.Nat.{zero-add}
use native.Mathlib.Numerals.{add-one}
use lib.Dec.{eqb}
use lib.ListN.{length, set, replicate, length-append, length-replicate, get_or-replicate}
use lib.Seq.{get_or-set_other}
use Rattle.model.specs.Network.{Network, tabulate, steers}
use Rattle.model.specs.Path.{ScanPath, path_length}
use Rattle.model.specs.Plan.{wanted}
use Rattle.model.specs.Tap.{bit_byte}
use Rattle.model.proofs.Lists.{length_tabulate, tabulate_snoc}
use Rattle.network_words.specs.Words.{word_bit}
use Rattle.network_words.proofs.WordLaws.{zero_bit}
use Rattle.plan_text.specs.Writing.{write_at}
use Rattle.plan_text.proofs.Writing.{write_none, write_more, write_behind, write_same}
use Rattle.planner_theory.specs.Choices.{places_of, bit_at, left_at, choice_bits, left_after}
use Rattle.planner_theory.proofs.Choices.{bits_append, left_append, bits_more, left_more}
use Rattle.planner_line.specs.Line.{WordsOf, segment_places, BitsPut, ZerosFrom, KeptFrom, SegmentPut}

-- ---- lengths

pub length_bits : (net : Network) (qs : List (ℕ × ℕ)) (h c : ℕ) → length (map bit_byte (choice_bits net qs h c)) ≡ length qs
unfolding choice_bits
length_bits net [] h c = refl
length_bits net (q ∷ qs) h c = ap suc (length_bits net qs (left_at net q h) c)

pub length_segment : (s len : ℕ) → length (segment_places s len) ≡ len
length_segment s len = length_tabulate {A = ℕ × ℕ} (λ b. (s, b)) 0 len

pub length_places : (p : ScanPath) → length (places_of p) ≡ path_length p
unfolding places_of
length_places [] = refl
length_places (s ∷ p) =
    length-append (segment_places s.number s.len) (places_of p) ∙ omega (arith, length_segment s.number s.len, length_places p)

pub places_append : (p q : ScanPath) → places_of (p ++ q) ≡ places_of p ++ places_of q
unfolding places_of
places_append [] q = refl
places_append (s ∷ p) q = rw (places_append p q) (sym (append_assoc (segment_places s.number s.len) (places_of p) (places_of q)))

-- ---- none, one more, and more behind them

module _ (net : Network) (at h c : ℕ) (old : List ℕ) where
  pub bits_none : BitsPut net [] at h c old h old
  unfolding choice_bits left_after
  bits_none = record { left = refl; holds = sym (write_none at old) }

  module _ (ps : List (ℕ × ℕ)) (left : ℕ) (buf : List ℕ) (put : BitsPut net ps at h c old left buf) where
    pub one_more : (q : ℕ × ℕ) (k v next : ℕ) → length ps ≡ k → at + k < length old → v ≡ bit_byte (bit_at net q left c) → next ≡ left_at net q left
        → BitsPut net (ps ++ q ∷ []) at h c old next (set buf (at + k) v)
    one_more q k v next long fits byte rest =
        let new = map bit_byte (choice_bits net ps h c) in
        let n : length new ≡ k = length_bits net ps h c ∙ long in
        let e : map bit_byte (choice_bits net (ps ++ q ∷ []) h c) ≡ new ++ v ∷ [] =
        ap (map bit_byte) (bits_more net ps q h c) ∙ map-append bit_byte (choice_bits net ps h c) (bit_at net q (left_after net ps h) c ∷ [])
        ∙ ap (λ (x : ℕ). new ++ x ∷ []) (ap (λ (x : ℕ). bit_byte (bit_at net q x c)) (sym put.left) ∙ sym byte) in
        let m = write_more at new old (omega arith) v in
        record {
          left = rest ∙ ap (left_at net q) put.left ∙ sym (left_more net ps q h);
          holds = rw (put.holds, e) (rw n at m);
        }

    pub bits_behind : (qs : List (ℕ × ℕ)) (place next : ℕ) (new : List ℕ) → place ≡ at + length ps → place ≤ length old → BitsPut net qs place left c buf next new
        → BitsPut net (ps ++ qs) at h c old next new
    bits_behind qs place next new e fits more =
        let a = map bit_byte (choice_bits net ps h c) in
        let b = map bit_byte (choice_bits net qs left c) in
        let n : place ≡ at + length a = omega (arith, length_bits net ps h c) in
        let both : map bit_byte (choice_bits net (ps ++ qs) h c) ≡ a ++ b =
        ap (map bit_byte) (bits_append net ps qs h c ∙ ap (λ (x : ℕ). choice_bits net ps h c ++ choice_bits net qs x c) (sym put.left))
        ∙ map-append bit_byte (choice_bits net ps h c) (choice_bits net qs left c) in
        record {
          left = more.left ∙ ap (left_after net qs) put.left ∙ sym (left_append net ps qs h);
          holds = more.holds ∙ rw (put.holds, n, both) (write_behind at a old (omega arith) b);
        }

-- ---- bit i of a segment

pub segment_more : (s i : ℕ) → segment_places s (i + 1) ≡ segment_places s i ++ (s, i) ∷ []
segment_more s i =
    ap (segment_places s) (add-one i) ∙ tabulate_snoc {A = ℕ × ℕ} (λ b. (s, b)) 0 i ∙ ap (λ (k : ℕ). segment_places s i ++ (s, k) ∷ []) (zero-add i)

-- a byte before those that are kept
pub kept_more : (from i v : ℕ) (old buf : List ℕ) → i < from → KeptFrom from old buf → KeptFrom from old (set buf i v)
kept_more from i v old buf l p k m = get_or-set_other buf i k v 0 (λ z. omega arith) ∙ p k m

-- the first i of a segment's len bits are put
abbrev pub SegmentPutting : ℕ → ℕ → ℕ → ℕ → ℕ → ℕ → List ℕ → ℕ → ℕ → List ℕ → Type 0
SegmentPutting at len steer want h c old i left buf = (net : Network) (s : ℕ) → WordsOf net s len steer want → BitsPut net (segment_places s i) at h c old left buf

module _ (at len steer want h c : ℕ) (old : List ℕ) where
  pub putting_none : SegmentPutting at len steer want h c old 0 h old
  putting_none net s w = bits_none net at h c old

  pub putting_more : (i left v next : ℕ) (buf : List ℕ) → i < len → at + len ≤ length old
      → v ≡ bit_byte (cond (word_bit steer i) (eqb (c / (left / 2) % 2) 1) (word_bit want i)) → next ≡ cond (word_bit steer i) (left / 2) left
      → SegmentPutting at len steer want h c old i left buf → SegmentPutting at len steer want h c old (i + 1) next (set buf (at + i) v)
  putting_more i left v next buf l fits byte rest p net s w =
      rw (segment_more s i)
      (one_more net at h c old (segment_places s i) left buf (p net s w) (s, i) i v next (length_segment s i) (omega arith)
      (byte ∙ rw (w.steers_are i l, w.wants_are i l)) (rest ∙ rw (w.steers_are i l)))

-- ---- a segment of which no bit steers, with no bit to write: its bytes are `0`

module _ (net : Network) (s len : ℕ) (w : WordsOf net s len 0 0) (h c : ℕ) where
  not_steering : (b : ℕ) → b < len → steers net.nodes s b ≡ false
  not_steering b l = sym (w.steers_are b l) ∙ zero_bit b

  not_wanted : (b : ℕ) → b < len → wanted net.targets s b ≡ false
  not_wanted b l = sym (w.wants_are b l) ∙ zero_bit b

  zero_bytes : (n b : ℕ) → b + n ≤ len → map bit_byte (choice_bits net (tabulate (λ i. (s, i)) b n) h c) ≡ replicate n 48
  unfolding choice_bits
  zero_bytes zero b l = refl
  zero_bytes (suc n) b l = rw (not_steering b (omega arith), not_wanted b (omega arith), zero_bytes n (suc b) (omega arith))

  none_taken : (n b : ℕ) → b + n ≤ len → left_after net (tabulate (λ i. (s, i)) b n) h ≡ h
  unfolding left_after
  none_taken zero b l = refl
  none_taken (suc n) b l =
      ap (λ (t : Bool). left_after net (tabulate (λ i. (s, i)) (suc b) n) (cond t (h / 2) h)) (not_steering b (omega arith)) ∙ none_taken n (suc b) (omega arith)

pub zeros_stay : (at len steer want h c : ℕ) (old : List ℕ) → at + len ≤ length old → ZerosFrom old at len → steer ≡ 0 → want ≡ 0 → SegmentPut at len steer want h c old h old
zeros_stay at len steer want h c old fits zeros a b net s w =
    let z : WordsOf net s len 0 0 = rw (a, b) at w in
    let n : length {A = ℕ} (replicate len 48) ≡ len = length-replicate {A = ℕ} len 48 in
    let e : write_at at (replicate len 48) old ≡ old = write_same at (replicate len 48) old (omega arith) (λ k l. zeros k (omega arith) ∙ sym (get_or-replicate len k 48 0 (omega arith))) in
    record {
      left = sym (none_taken net s len z h c len 0 (omega arith));
      holds = sym e ∙ ap (λ (l : List ℕ). write_at at l old) (sym (zero_bytes net s len z h c len 0 (omega arith)));
    }
