-- Document 02, Change 1: the form of RESET, and which lines are refused with 18.
-- Assumes nothing.
use mathlib.Core.Path.{◌≡◌, refl, sym, ap, ◌∙◌}
use mathlib.Core.Bool.{true, false, not}
use Rattle.std.specs.Prelude.{Option, None as none, Some as some}
use mathlib.Core.List.{List}
use Prim.Native.Nat.{ℕ, ◌+◌}
use native.Mathlib.Omega.{arith}
use lib.ListN.{length}
use lib.Dec.{eqb, leb, ltb}
use borrow.Author.Tests.{eqb-false, not-true, ne_eqb}
use Rattle.model.specs.Limits.{max_len}
use Rattle.model.specs.Network.{Node, Target, len_of, total_bits, is_steering}
use Rattle.model.specs.NetworkText.{Reset, Line, node, out, hold, target, line_by, line_of, Draft, has_out, outside, bad_reset, add_node, first_bad, out_if, add_out, fits_bits, is_held, add_hold, target_segment, fits_target, is_target, add_target, add_line}
use Rattle.model.specs.Resets.{ResetsRead, WrongReset, ResetRefused}
use Rattle.model.specs.Result.{Result, ok, refused}
use Rattle.model.specs.Text.{Bytes, bind, fields, LineWord, Trit}
use Rattle.model.proofs.LineForms.{seg_none, Written, written, line_form}
use Rattle.model.proofs.Lists.{true_false, not_ok, refusal_number, refusal_place, refuse_case}

-- ---- a RESET is read as BITS are

abbrev Reads : Bytes → Line → Type 0
Reads l (node x v) = Written (fields l) v
Reads l (out k) = Unit {0}
Reads l (hold s bs) = Unit {0}
Reads l (target t) = Unit {0}

reads : (l : Bytes) (line : Line) → line_of l ≡ some line → Reads l line
reads l = line_form (Reads l) l record {
  of_seg = λ from len shadow v f. written (fields l) v f.least f.most f.of_reset;
  of_mux = λ s b ins f. tt;
  of_out = λ n f. tt;
  of_hold = λ s bs f. tt;
  of_write = λ s bs f. tt;
  of_read = λ s f. tt;
}

pub resets_read : ResetsRead
unfolding line_of
resets_read l = record {
  written = λ x bs e. reads l (node x (some bs)) e;
  wrong = λ w h e. ap (λ (o : Option LineWord). bind o (line_by (fields l))) w ∙ seg_none (fields l) h e;
}

-- ---- 18

given : (d : Draft) (n : ℕ) (x : Node) (v : Reset) → has_out d ≡ false → outside max_len n x ≡ false → bad_reset x v ≡ true → add_node max_len d n x v ≡ refused 18 n
unfolding add_node
given d n x v a b c = rw (a, b, c)

module _ (d : Draft) (n place : ℕ) where
  abbrev Only : Option Line → Result Draft → Type 0
  Only line r = r ≡ refused 18 place → WrongReset d n line × (place ≡ n)

  -- another number, or none
  other : (line : Option Line) (number at : ℕ) → (number ≡ 18 → ⊥) → Only line (refused number at)
  other line number at f e = absurd (f (refusal_number e))

  none_at : (line : Option Line) (e : Draft) → Only line (ok e)
  none_at line e g = absurd (not_ok (sym g))

  wrong_of : (x : Node) (v : Reset) → has_out d ≡ false → outside max_len n x ≡ false → bad_reset x v ≡ true → WrongReset d n (some (node x v))
  wrong_of x none a b c = absurd (true_false (sym c))
  wrong_of x (some bs) a b c =
      record { new_node = x; its_reset = bs; says = refl; in_order = a; within = b; wrong = eqb-false (length bs) (len_of x) (not-true (eqb (length bs) (len_of x)) c) }

  by_node : (x : Node) (v : Reset) → Only (some (node x v)) (add_node max_len d n x v)
  unfolding add_node
  by_node x v =
      let line : Option Line = some (node x v) in
      refuse_case (Only line) (has_out d) 4 n _ (λ _. other line 4 n (λ q. omega arith))
      (λ in_order. refuse_case (Only line) (outside max_len n x) 2 n _ (λ _. other line 2 n (λ q. omega arith))
      (λ within. refuse_case (Only line) (bad_reset x v) 18 n _
      (λ wrong e. (wrong_of x v in_order within wrong, sym (refusal_place e)))
      (λ _. refuse_case (Only line) (leb 128 (length d.nodes)) 3 n _ (λ _. other line 3 n (λ q. omega arith))
      (λ _. refuse_case (Only line) (ltb 4000 (total_bits d.nodes + len_of x)) 3 n _ (λ _. other line 3 n (λ q. omega arith)) (λ _. none_at line _)))))

  by_out : (k : ℕ) → Only (some (out k)) (add_out d n k)
  unfolding add_out
  by_out k =
      let line : Option Line = some (out k) in
      refuse_case (Only line) (has_out d) 4 n _ (λ _. other line 4 n (λ q. omega arith))
      (λ _. refuse_case (Only line) (ltb (length d.nodes) k) 2 n _ (λ _. other line 2 n (λ q. omega arith)) (λ _. go (first_bad d.nodes 1 d.nodes)))
    where
      go : (o : Option ℕ) → Only (some (out k)) (out_if d k o)
      go none = none_at (some (out k)) _
      go (some m) = other (some (out k)) 5 m (λ q. omega arith)

  by_hold_law : (s : ℕ) (bs : List Trit) → Only (some (hold s bs)) (add_hold d n s bs)
  unfolding add_hold
  by_hold_law s bs =
      let line : Option Line = some (hold s bs) in
      refuse_case (Only line) (not (has_out d)) 4 n _ (λ _. other line 4 n (λ q. omega arith))
      (λ _. refuse_case (Only line) (not (fits_bits d.nodes s bs)) 6 n _ (λ _. other line 6 n (λ q. omega arith))
      (λ _. refuse_case (Only line) (is_held d.holds s) 6 n _ (λ _. other line 6 n (λ q. omega arith)) (λ _. none_at line _)))

  by_target : (t : Target) → Only (some (target t)) (add_target d n t)
  unfolding add_target
  by_target t =
      let line : Option Line = some (target t) in
      refuse_case (Only line) (not (has_out d)) 4 n _ (λ _. other line 4 n (λ q. omega arith))
      (λ _. refuse_case (Only line) (not (fits_target d.nodes t)) 6 n _ (λ _. other line 6 n (λ q. omega arith))
      (λ _. refuse_case (Only line) (is_target d.targets t) 6 n _ (λ _. other line 6 n (λ q. omega arith))
      (λ _. refuse_case (Only line) (is_steering d.nodes (target_segment t)) 7 n _ (λ _. other line 7 n (λ q. omega arith))
      (λ _. refuse_case (Only line) (leb 4 (length d.targets)) 8 n _ (λ _. other line 8 n (λ q. omega arith)) (λ _. none_at line _)))))

  by_line : (line : Option Line) → Only line (add_line max_len d n line)
  by_line none = other none 1 n (λ q. omega arith)
  by_line (some (node x v)) = by_node x v
  by_line (some (out k)) = by_out k
  by_line (some (hold s bs)) = by_hold_law s bs
  by_line (some (target t)) = by_target t

pub reset_refused : ResetRefused
reset_refused d n line place = (
  by_line d n place line,
  λ (w, q). ap (add_line max_len d n) w.says ∙ given d n w.new_node (some w.its_reset) w.in_order w.within (ap not (ne_eqb (length w.its_reset) (len_of w.new_node) w.wrong)) ∙ ap (refused 18) (sym q),
)
