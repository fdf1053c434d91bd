-- The bits of an operation written segment by segment, and its line.
-- Assumes nothing.
use mathlib.Core.Path.{◌≡◌, refl, sym, ap, ◌∙◌, subst}
use mathlib.Core.List.{List, [], ◌∷◌, ◌++◌, map-append, append-nil}
use Prim.Native.Nat.{ℕ, ◌+◌, ◌≤◌, ◌<◌}
use native.Mathlib.Omega.{arith}
use native.Mathlib.Numerals.{add-one}
use lib.ListN.{length, get_or, take, drop, replicate, length-append, length-replicate, get_or-replicate}
use lib.Seq.{take-suc}
use Rattle.model.specs.Network.{Network, len_of}
use Rattle.model.specs.Path.{ScanPath, path_length}
use Rattle.model.specs.Text.{bytes, line_end}
use Rattle.network_words.specs.Words.{word_width}
use Rattle.network_path.specs.Layout.{node_at, segment_at, scan_path}
use Rattle.network_path.proofs.PathLaws.{SegmentOn, path_end}
use Rattle.plan_text.specs.Writing.{write_at}
use Rattle.plan_text.proofs.Writing.{write_three, write_again, write_at_law}
use Rattle.planner_theory.specs.Choices.{places_of}
use Rattle.planner_line.specs.Line.{WordsOf, segment_places, BitsPut, ZerosFrom, KeptFrom, SegmentPut, HasRoom, Fills, operation_bits, OperationPut, LinePut}
use Rattle.planner_line.proofs.PutBits.{length_bits, length_segment, length_places, places_append, bits_none, bits_behind}

-- the places of the first i segments
abbrev places_to : List ℕ → List ℕ → ℕ → List (ℕ × ℕ)
places_to ns way i = places_of (scan_path ns (take i way))

-- the first i segments are written; the next one goes to a place
pub record Putting (ns steering wants way : List ℕ) (n at h c : ℕ) (old : List ℕ) (i place left : ℕ) (buf : List ℕ) : Type 0 where
  pub whole : place + path_length (scan_path ns (drop i (take n way))) ≡ at + path_length (scan_path ns (take n way))
  pub passed : place ≡ at + length (places_to ns way i)
  pub size : length buf ≡ length old
  pub ahead : ZerosFrom buf place (path_length (scan_path ns (drop i (take n way))))
  pub bits : (net : Network) → Fills net ns steering wants → BitsPut net (places_to ns way i) at h c old left buf

pub operation_none : (ns steering wants way : List ℕ) (n at h c : ℕ) (old : List ℕ) → ZerosFrom old at (path_length (scan_path ns (take n way))) → Putting ns steering wants way n at h c old 0 at h old
unfolding places_of
operation_none ns steering wants way n at h c old zeros = record { whole = refl; passed = omega arith; size = refl; ahead = zeros; bits = λ net f. bits_none net at h c old }

-- the places of one segment more
module _ (ns way : List ℕ) (i k len : ℕ) (inside : i < length way) (here : k ≡ get_or way i 0) (is : len ≡ len_of (node_at ns k)) where
  places_more : places_to ns way (i + 1) ≡ places_to ns way i ++ segment_places k len
  unfolding places_of
  places_more =
      ap (places_to ns way) (add-one i) ∙ ap (λ (ks : List ℕ). places_of (scan_path ns ks)) (take-suc way i 0 inside ∙ ap (λ (x : ℕ). take i way ++ x ∷ []) (sym here))
      ∙ ap places_of (map-append (segment_at ns) (take i way) (k ∷ [])) ∙ places_append (scan_path ns (take i way)) (segment_at ns k ∷ [])
      ∙ ap (λ (l : List (ℕ × ℕ)). places_to ns way i ++ l) (append-nil (segment_places k (len_of (node_at ns k))) ∙ ap (segment_places k) (sym is))

-- a segment's words
words_of : (net : Network) (ns steering wants : List ℕ) → Fills net ns steering wants → (k len : ℕ) → k < 129 → len ≤ word_width → len ≡ len_of (node_at ns k)
    → WordsOf net k len (get_or steering k 0) (get_or wants k 0)
words_of net ns steering wants f k len below most is = record {
  steers_are = λ b l. f.steering_is k b (omega arith) (omega arith);
  wants_are = λ b l. f.wants_are k b (omega arith) (omega arith);
}

module _ {ns steering wants way : List ℕ} {n at h c : ℕ} {old : List ℕ} {i place left : ℕ} {buf : List ℕ}
    (p : Putting ns steering wants way n at h c old i place left buf) (r : HasRoom ns way n at old) where
  module _ (k len : ℕ) (on : SegmentOn ns way n i k) (is : len ≡ len_of (node_at ns k)) where
    pub segment_fits : place + len ≤ length buf
    segment_fits =
        let more = ap (λ (ks : List ℕ). path_length (scan_path ns ks)) on.splits in
        omega (arith, p.whole, p.size, r.room)

    pub segment_zeros : ZerosFrom buf place len
    segment_zeros j l = let more = ap (λ (ks : List ℕ). path_length (scan_path ns ks)) on.splits in p.ahead j (omega arith)

    pub operation_more : i < n → k ≡ get_or way i 0 → (next : ℕ) (new : List ℕ) → length new ≡ length buf
        → SegmentPut place len (get_or steering k 0) (get_or wants k 0) left c buf next new → KeptFrom (place + len) buf new → Putting ns steering wants way n at h c old (i + 1) (place + len) next new
    operation_more l here next new size put kept =
        let e = places_more ns way i k len (omega (arith, r.holds.size, r.holds.count)) here is in
        let more = ap (λ (ks : List ℕ). path_length (scan_path ns ks)) on.splits in
        record {
          whole = omega (arith, p.whole);
          passed = omega (arith, p.passed, ap length e, length-append (places_to ns way i) (segment_places k len), length_segment k len);
          size = size ∙ p.size;
          ahead = λ j less.
              let b : place + len + j ≡ place + (len + j) = omega arith in
              kept (place + len + j) (omega arith) ∙ ap (λ (q : ℕ). get_or buf q 0) b ∙ p.ahead (len + j) (omega arith);
          bits = λ net f. rw e
              (bits_behind net at h c old (places_to ns way i) left buf (p.bits net f) (segment_places k len) place next new p.passed (omega (arith, segment_fits, p.size))
              (put net k (words_of net ns steering wants f k len on.below (omega (arith, on.most)) is)));
        }

-- ---- an operation's line: the word before its bits, the bits, the line's end

pub length_operation : (net : Network) (p : ScanPath) (h c : ℕ) → length (operation_bits net p h c) ≡ path_length p
length_operation net p h c = length_bits net (places_of p) h c ∙ length_places p

pub zeros_there : (place m : ℕ) (x zeroed : List ℕ) → place + m ≤ length x → zeroed ≡ write_at place (replicate m 48) x → ZerosFrom zeroed place m
zeros_there place m x zeroed fits e k l =
    let n : length {A = ℕ} (replicate m 48) ≡ m = length-replicate {A = ℕ} m 48 in
    rw e (write_at_law place (replicate m 48) x (omega arith) k (omega arith) ∙ get_or-replicate m k 48 0 l)

module _ (ns steering wants way : List ℕ) (n at h c : ℕ) (old : List ℕ) (r : HasRoom ns way n (at + 5) old) where
  pub line_put : (second third m : ℕ) (x zeroed y z : List ℕ) → length x ≡ length old → second ≡ at + 4 → x ≡ write_at at (bytes "csu\t") old
      → m ≡ path_length (scan_path ns (take n way)) → zeroed ≡ write_at second (replicate m 48) x → third ≡ second + path_length (scan_path ns (take n way))
      → OperationPut ns steering wants way n second h c zeroed y → z ≡ write_at third (line_end ∷ []) y → LinePut ns steering wants way n at h c old z
  line_put second third m x zeroed y z size a first is zeros b put last net f =
      let l = length_operation net (scan_path ns (take n way)) h c in
      let k : length {A = ℕ} (replicate m 48) ≡ m = length-replicate {A = ℕ} m 48 in
      let over : y ≡ write_at second (operation_bits net (scan_path ns (take n way)) h c) x =
      put net f ∙ rw zeros (write_again second (replicate m 48) x (omega (arith, r.room)) (operation_bits net (scan_path ns (take n way)) h c) (omega arith)) in
      write_three at second third (bytes "csu\t") (operation_bits net (scan_path ns (take n way)) h c) (line_end ∷ []) old (omega (arith, r.room)) a first (omega arith) over last
