-- Reading line by line: what the lines of an accepted text do to the draft.
-- Assumes nothing.
use mathlib.Core.Path.{◌≡◌, refl, ap, ◌∙◌, subst}
use mathlib.Core.Bool.{not}
use Rattle.std.specs.Prelude.{Option, None as none, Some as some}
use mathlib.Core.List.{List, [], ◌∷◌, ◌++◌, append-nil, Memᴰ}
use Prim.Native.Nat.{ℕ, suc, ◌+◌}
use lib.ListN.{length}
use lib.Dec.{leb, ltb}
use Rattle.model.specs.Limits.{max_len}
use Rattle.model.specs.Network.{Network, total_bits, len_of, is_steering}
use Rattle.model.specs.NetworkText.{Line, node, out, hold, target, line_of, Draft, has_out, outside, bad_reset, with_node, add_node, first_bad, with_out, out_if, add_out, fits_bits, is_held, with_hold, add_hold, target_segment, fits_target, is_target, with_target, add_target, add_line, at_end, read_lines, no_lines}
use Rattle.model.specs.Result.{Result, ok, and_then}
use Rattle.model.specs.Text.{Bytes, line_end, parts, ended, lines_of}
use Rattle.model.proofs.Lists.{not_ok, ok_is, handed, passed_test}
use Rattle.model.proofs.Reading.{Source}

-- ---- the ended lines

pub ended_append : (before : List Bytes) (l : Bytes) (ls : List Bytes) → ended (before ++ l ∷ ls) ≡ before ++ ended (l ∷ ls)
ended_append [] l ls = refl
ended_append (k ∷ []) l ls = refl
ended_append (k ∷ j ∷ before) l ls = ap (λ (x : List Bytes). k ∷ x) (ended_append (j ∷ before) l ls)

-- lines that a separator ends each
pub ended_all : (ls : List Bytes) → ended (ls ++ [] ∷ []) ≡ ls
ended_all ls = ended_append ls [] [] ∙ append-nil ls

-- ---- in turn

unfoldable pub add_all : Draft → ℕ → List Bytes → Result (ℕ × Draft)
add_all d n [] = ok (n, d)
add_all d n (l ∷ ls) = and_then (add_line max_len d n (line_of l)) (λ e. add_all e (suc n) ls)

pub ended_read : (ls : List Bytes) (d : Draft) (n : ℕ) (r : ℕ × Draft) → read_lines max_len d n ls ≡ ok r → add_all d n (ended ls) ≡ ok r
unfolding read_lines add_all
ended_read [] d n r e = e
ended_read (l ∷ []) d n r e = last l e
  where
    last : (l : Bytes) → at_end (n, d) 1 l n ≡ ok r → ok (n, d) ≡ ok r
    last [] g = g
    last (b ∷ bs) g = absurd (not_ok g)
ended_read (l ∷ m ∷ ls) d n r e =
    let h = handed (add_line max_len d n (line_of l)) _ r e in
    ap (λ (x : Result Draft). and_then x (λ y. add_all y (suc n) (ended (m ∷ ls)))) h.given ∙ ended_read (m ∷ ls) h.value (suc n) r h.then

pub read_ended : (ls : List Bytes) (d : Draft) (n : ℕ) → read_lines max_len d n (ls ++ [] ∷ []) ≡ add_all d n ls
unfolding read_lines add_all
read_ended [] d n = refl
read_ended (l ∷ []) d n = λ i. and_then (add_line max_len d n (line_of l)) (λ e. read_ended [] e (suc n) i)
read_ended (l ∷ m ∷ ls) d n = λ i. and_then (add_line max_len d n (line_of l)) (λ e. read_ended (m ∷ ls) e (suc n) i)

-- lines, and lines behind them
pub add_append : (ls ms : List Bytes) (d e : Draft) (n m : ℕ) → add_all d n ls ≡ ok (m, e) → add_all d n (ls ++ ms) ≡ add_all e m ms
unfolding add_all
add_append [] ms d e n m g = ap (λ (r : ℕ × Draft). add_all r.1 r.0 ms) (ok_is g)
add_append (l ∷ ls) ms d e n m g =
    let h = handed (add_line max_len d n (line_of l)) _ (m, e) g in
    ap (λ (x : Result Draft). and_then x (λ y. add_all y (suc n) (ls ++ ms))) h.given ∙ add_append ls ms h.value e (suc n) m h.then

-- the lines of an accepted text
pub lines_added : (t : Bytes) (net : Network) (a : Source t net) → add_all no_lines 1 (lines_of t) ≡ ok (a.behind, a.draft)
lines_added t net a = ended_read (parts line_end t) no_lines 1 (a.behind, a.draft) a.lines

-- ---- what a line that is not refused does

abbrev pub after_line : Draft → Option Line → Draft
after_line d none = d
after_line d (some (node x v)) = with_node d x v
after_line d (some (out k)) = with_out d k
after_line d (some (hold s bs)) = with_hold d s bs
after_line d (some (target t)) = with_target d t

pub added_up_to : (most : ℕ) (d e : Draft) (n : ℕ) (o : Option Line) → add_line most d n o ≡ ok e → after_line d o ≡ e
unfolding add_node add_out add_hold add_target
added_up_to most d e n none g = absurd (not_ok g)
added_up_to most d e n (some (node x v)) g =
    let a = passed_test (has_out d) 4 n _ e g in
    let b = passed_test (outside most n x) 2 n _ e a.1 in
    let w = passed_test (bad_reset x v) 18 n _ e b.1 in
    let c = passed_test (leb 128 (length d.nodes)) 3 n _ e w.1 in
    ok_is (passed_test (ltb 4000 (total_bits d.nodes + len_of x)) 3 n _ e c.1).1
added_up_to most d e n (some (out k)) g =
    let a = passed_test (has_out d) 4 n _ e g in
    let b = passed_test (ltb (length d.nodes) k) 2 n _ e a.1 in
    go (first_bad d.nodes 1 d.nodes) b.1
  where
    go : (o : Option ℕ) → out_if d k o ≡ ok e → with_out d k ≡ e
    go none h = ok_is h
    go (some m) h = absurd (not_ok h)
added_up_to most d e n (some (hold s bs)) g =
    let a = passed_test (not (has_out d)) 4 n _ e g in
    let b = passed_test (not (fits_bits d.nodes s bs)) 6 n _ e a.1 in
    ok_is (passed_test (is_held d.holds s) 6 n _ e b.1).1
added_up_to most d e n (some (target t)) g =
    let a = passed_test (not (has_out d)) 4 n _ e g in
    let b = passed_test (not (fits_target d.nodes t)) 6 n _ e a.1 in
    let c = passed_test (is_target d.targets t) 6 n _ e b.1 in
    let f = passed_test (is_steering d.nodes (target_segment t)) 7 n _ e c.1 in
    ok_is (passed_test (leb 4 (length d.targets)) 8 n _ e f.1).1

pub added : (d e : Draft) (n : ℕ) (o : Option Line) → add_line max_len d n o ≡ ok e → after_line d o ≡ e
added = added_up_to max_len

-- what each of the lines keeps, all of them keep
pub all_keep : (P : Draft → Type 0) (ls : List Bytes) → ((l : Bytes) → Memᴰ l ls → (d : Draft) → P d → P (after_line d (line_of l)))
    → (d : Draft) (n : ℕ) (r : ℕ × Draft) → add_all d n ls ≡ ok r → P d → P r.1
unfolding add_all
all_keep P [] keep d n r e p = subst (λ (x : ℕ × Draft). P x.1) (ok_is e) p
all_keep P (l ∷ ls) keep d n r e p =
    let h = handed (add_line max_len d n (line_of l)) _ r e in
    all_keep P ls (λ k m. keep k (Memᴰ.tail m)) h.value (suc n) r h.then (subst P (added d h.value n (line_of l) h.given) (keep l (Memᴰ.head refl) d p))
