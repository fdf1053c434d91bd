-- Document 02, Change 1: a text without RESET is read as before.
-- Assumes nothing.
use mathlib.Core.Path.{◌≡◌, refl, sym, ap, ◌∙◌}
use mathlib.Core.Bool.{Bool, true, false}
use Rattle.std.specs.Prelude.{Option, None as none, Some as some}
use mathlib.Core.List.Memᴰ
use mathlib.Core.List.{List, [], ◌∷◌, Memᴰ}
use Prim.Native.Nat.{ℕ, suc, ◌≤◌, ◌<◌}
use native.Mathlib.Omega.{arith}
use lib.ListN.{length, drop}
use lib.Dec.{leb, ltb}
use borrow.Author.Tests.{ltb-true, ltb-false, lt-leb}
use Rattle.model.specs.Drawn.{A}
use Rattle.model.specs.Limits.{max_network_bytes}
use Rattle.model.specs.Network.{Held, held_or, start_of}
use Rattle.model.specs.NetworkText.{Reset, Line, node, out, hold, target, field, reset_field, seg_line, line_by, line_of, Draft, add_node, add_line, at_end, read_lines, finish, no_lines}
use Rattle.model.specs.Resets.{seg_line_without_reset, line_by_without_reset, line_without_reset, add_line_without_reset, read_lines_without_reset, start_without_reset, finish_without_reset, read_without_reset, OldForm, ReadAsBefore, AcceptedAsBefore}
use Rattle.model.specs.Result.{Result, ok, refused, refuse_if, and_then}
use Rattle.model.specs.Text.{Bytes, bytes, bind, same, parts, fields, ended, lines_of, line_end, LineWord, Seg, Mux, Out, Hold, Write, Read, Csu, word_of}
use Rattle.model.proofs.AddedLines.{after_line, added_up_to}
use Rattle.model.proofs.LineForms.{line_form}
use Rattle.model.proofs.Lists.{eqb_below, and_false_right, true_false, some_same, not_ok, ok_is, handed, passed_test, every_in}

-- ---- one line

six_before : (fs : List Bytes) → 6 ≤ length fs → seg_line fs ≡ seg_line_without_reset fs
unfolding seg_line seg_line_without_reset
six_before fs l = rw (lt-leb (length fs) 5 (omega arith), and_false_right (leb 4 (length fs)), eqb_below (length fs) 4 (omega arith))

seg_before : (fs : List Bytes) → (length fs ≡ 5 → ⊥) → seg_line fs ≡ seg_line_without_reset fs
unfolding seg_line seg_line_without_reset
seg_before [] e = refl
seg_before (a ∷ []) e = refl
seg_before (a ∷ b ∷ []) e = refl
seg_before (a ∷ b ∷ c ∷ []) e = refl
seg_before (a ∷ b ∷ c ∷ d ∷ []) e = refl
seg_before (a ∷ b ∷ c ∷ d ∷ f ∷ []) e = absurd (e refl)
seg_before (a ∷ b ∷ c ∷ d ∷ f ∷ g ∷ fs) e = six_before (a ∷ b ∷ c ∷ d ∷ f ∷ g ∷ fs) (omega arith)

-- another line than a `seg` line of five fields
abbrev Old : Bytes → Type 0
Old l = word_of (field (fields l) 0) ≡ some Seg → length (fields l) ≡ 5 → ⊥

line_before : (l : Bytes) → Old l → line_of l ≡ line_without_reset l
unfolding line_of line_without_reset
line_before l f = go (word_of (field (fields l) 0)) refl
  where
    by_word : (w : LineWord) → word_of (field (fields l) 0) ≡ some w → line_by (fields l) w ≡ line_by_without_reset (fields l) w
    by_word Seg e = seg_before (fields l) (f e)
    by_word Mux e = refl
    by_word Out e = refl
    by_word Hold e = refl
    by_word Write e = refl
    by_word Read e = refl
    by_word Csu e = refl

    go : (o : Option LineWord) → word_of (field (fields l) 0) ≡ o → bind o (line_by (fields l)) ≡ bind o (line_by_without_reset (fields l))
    go none e = refl
    go (some w) e = by_word w e

abbrev NoReset : Line → Type 0
NoReset (node x v) = v ≡ none
NoReset (out k) = Unit {0}
NoReset (hold s bs) = Unit {0}
NoReset (target t) = Unit {0}

none_behind : (fs : List Bytes) → length fs ≡ 4 → drop 4 fs ≡ []
none_behind [] e = refl
none_behind (a ∷ []) e = refl
none_behind (a ∷ b ∷ []) e = refl
none_behind (a ∷ b ∷ c ∷ []) e = refl
none_behind (a ∷ b ∷ c ∷ d ∷ []) e = refl
none_behind (a ∷ b ∷ c ∷ d ∷ f ∷ fs) e = absurd (omega arith)

four_of : (n : ℕ) → 4 ≤ n → n ≤ 5 → (n ≡ 5 → ⊥) → n ≡ 4
four_of n lo hi f = go (ltb n 5) refl
  where
    go : (t : Bool) → ltb n 5 ≡ t → n ≡ 4
    go true q = let l : n < 5 = ltb-true n 5 q in omega arith
    go false q = let l : 5 ≤ n = ltb-false n 5 q in absurd (f (omega arith))

no_reset : (l : Bytes) → Old l → (line : Line) → line_of l ≡ some line → NoReset line
no_reset l old = line_form NoReset l record {
  of_seg = λ from len shadow v f. sym (some_same none v (ap reset_field (sym (none_behind (fields l) (four_of (length (fields l)) f.least f.most (old f.word)))) ∙ f.of_reset));
  of_mux = λ s b ins f. refl;
  of_out = λ n f. tt;
  of_hold = λ s bs f. tt;
  of_write = λ s bs f. tt;
  of_read = λ s f. tt;
}

add_before : (most : ℕ) (d : Draft) (n : ℕ) (o : Option Line) → ((line : Line) → o ≡ some line → NoReset line) → add_line most d n o ≡ add_line_without_reset most d n o
unfolding add_node
add_before most d n none f = refl
add_before most d n (some (node x v)) f = ap (add_node most d n x) (f (node x v) refl)
add_before most d n (some (out k)) f = refl
add_before most d n (some (hold s bs)) f = refl
add_before most d n (some (target t)) f = refl

-- ---- the lines in turn

lines_before : (most : ℕ) (ls : List Bytes) → ((l : Bytes) → Memᴰ l (ended ls) → Old l) → (d : Draft) (n : ℕ) → read_lines most d n ls ≡ read_lines_without_reset most d n ls
unfolding read_lines read_lines_without_reset
lines_before most [] f d n = refl
lines_before most (l ∷ []) f d n = refl
lines_before most (l ∷ m ∷ ls) f d n =
    let old : Old l = f l (Memᴰ.head refl) in
    ap (λ (r : Result Draft). and_then r (λ y. read_lines most y (suc n) (m ∷ ls))) (add_before most d n (line_of l) (no_reset l old) ∙ ap (add_line_without_reset most d n) (line_before l old))
    ∙ (λ i. and_then (add_line_without_reset most d n (line_without_reset l)) (λ y. lines_before most (m ∷ ls) (λ k x. f k (Memᴰ.tail x)) y (suc n) i))

-- no RESET is kept
none_kept : (most : ℕ) (l : Bytes) → Old l → (d y : Draft) (n : ℕ) → add_line most d n (line_of l) ≡ ok y → d.resets ≡ [] → y.resets ≡ []
none_kept most l old d y n g e = sym (ap (λ (x : Draft). x.resets) (added_up_to most d y n (line_of l) g)) ∙ go (line_of l) (no_reset l old)
  where
    go : (o : Option Line) → ((line : Line) → o ≡ some line → NoReset line) → (after_line d o).resets ≡ []
    go none f = e
    go (some (node x v)) f = ap (λ (w : Reset). (after_line d (some (node x w))).resets) (f (node x v) refl) ∙ e
    go (some (out k)) f = e
    go (some (hold s bs)) f = e
    go (some (target t)) f = e

none_read : (most : ℕ) (ls : List Bytes) → ((l : Bytes) → Memᴰ l (ended ls) → Old l) → (d : Draft) (n : ℕ) (r : ℕ × Draft) → read_lines most d n ls ≡ ok r → d.resets ≡ []
    → r.1.resets ≡ []
unfolding read_lines
none_read most [] f d n r g e = sym (ap (λ (x : ℕ × Draft). x.1.resets) (ok_is g)) ∙ e
none_read most (l ∷ []) f d n r g e = last l g
  where
    last : (k : Bytes) → at_end (n, d) 1 k n ≡ ok r → r.1.resets ≡ []
    last [] h = sym (ap (λ (x : ℕ × Draft). x.1.resets) (ok_is h)) ∙ e
    last (b ∷ bs) h = absurd (not_ok h)
none_read most (l ∷ m ∷ ls) f d n r g e =
    let h = handed (add_line most d n (line_of l)) _ r g in
    none_read most (m ∷ ls) (λ k x. f k (Memᴰ.tail x)) h.value (suc n) r h.then (none_kept most l (f l (Memᴰ.head refl)) d h.value n h.given e)

finish_before : (n : ℕ) (d : Draft) → d.resets ≡ [] → (o : Option ℕ) → finish n d o ≡ finish_without_reset n d o
unfolding start_of start_without_reset held_or
finish_before n d e none = refl
finish_before n d e (some k) = ap (λ (rs : List Held). finish n record { nodes = d.nodes; resets = rs; feeds = d.feeds; holds = d.holds; targets = d.targets } (some k)) e

then_same : {A B : Type 0} (r : Result A) (f g : A → Result B) → ((a : A) → r ≡ ok a → f a ≡ g a) → and_then r f ≡ and_then r g
then_same (ok a) f g e = e a refl
then_same (refused number place) f g e = refl

pub read_as_before : ReadAsBefore
unfolding read_without_reset
read_as_before most t old =
    ap (refuse_if (ltb max_network_bytes (length t)) 3 0)
    (then_same (read_lines most no_lines 1 (parts line_end t)) _ (λ r. finish_without_reset r.0 r.1 r.1.feeds)
    (λ r e. finish_before r.0 r.1 (none_read most (parts line_end t) old no_lines 1 r e refl) r.1.feeds)
    ∙ ap (λ (x : Result (ℕ × Draft)). and_then x (λ r. finish_without_reset r.0 r.1 r.1.feeds)) (lines_before most (parts line_end t) old no_lines 1))

-- ---- so an accepted text stays accepted

five_none : (l : Bytes) → word_of (field (fields l) 0) ≡ some Seg → length (fields l) ≡ 5 → line_without_reset l ≡ none
unfolding line_without_reset seg_line_without_reset
five_none l w h = rw (w, h)

lines_old : (most : ℕ) (ls : List Bytes) (d : Draft) (n : ℕ) (r : ℕ × Draft) → read_lines_without_reset most d n ls ≡ ok r → (l : Bytes) → Memᴰ l (ended ls) → Old l
unfolding read_lines_without_reset
lines_old most [] d n r e l m = absurd (Memᴰ.not-nil m)
lines_old most (k ∷ []) d n r e l m = absurd (Memᴰ.not-nil m)
lines_old most (k ∷ j ∷ ls) d n r e l (Memᴰ.head q) = λ w h.
    let g = (handed (add_line_without_reset most d n (line_without_reset k)) _ r e).given in
    not_ok (ap (add_line_without_reset most d n) (sym (ap line_without_reset (sym q) ∙ five_none l w h)) ∙ g)
lines_old most (k ∷ j ∷ ls) d n r e l (Memᴰ.tail m) =
    let g = handed (add_line_without_reset most d n (line_without_reset k)) _ r e in
    lines_old most (j ∷ ls) g.value (suc n) r g.then l m

pub accepted_as_before : AcceptedAsBefore
unfolding read_without_reset
accepted_as_before most t net e =
    let a = passed_test (ltb max_network_bytes (length t)) 3 0 _ net e in
    let g = handed (read_lines_without_reset most no_lines 1 (parts line_end t)) _ net a.1 in
    read_as_before most t (λ l m. lines_old most (parts line_end t) no_lines 1 g.value g.given l m) ∙ e

-- ---- a text that `read_as_before` speaks of: A of document 01

abbrev is_seg : LineWord → Bool
is_seg Seg = true
is_seg Mux = false
is_seg Out = false
is_seg Hold = false
is_seg Write = false
is_seg Read = false
is_seg Csu = false

no_seg : (w : LineWord) {n : ℕ} → is_seg w ≡ false → some w ≡ some Seg → n ≡ 5 → ⊥
no_seg w f e q = absurd (true_false (sym (ap is_seg (some_same w Seg e)) ∙ f))

pub old_form_met : OldForm (bytes A)
unfolding parts word_of same
old_form_met = every_in Old (lines_of (bytes A)) (λ e q. omega arith, (no_seg Mux refl, (λ e q. omega arith, (no_seg Out refl, (no_seg Write refl, tt)))))
