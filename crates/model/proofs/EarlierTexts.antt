-- Document 02, Change 4: a text that is accepted with a smaller greatest LEN is accepted as the same network, so that every call and
-- program gives the same.
-- Assumes nothing.
use mathlib.Core.Path.{◌≡◌, refl, sym, ap, ◌∙◌}
use mathlib.Core.Bool.{true, false, ◌||◌}
use Rattle.std.specs.Prelude.{Option, None as none, Some as some}
use mathlib.Core.List.{List, [], ◌∷◌}
use Prim.Native.Nat.{ℕ, suc, ◌≤◌}
use native.Mathlib.Omega.{arith}
use lib.ListN.{length}
use lib.Dec.{leb, ltb}
use borrow.Author.Tests.{lt-leb, le-ltb, lt-ltb, ltb-false}
use Rattle.model.specs.Calls.{checked, planned, searchable, search_entries, PlanAnswer, plan_answer, make_plan, write_clocks}
use Rattle.model.specs.Drawn.{A}
use Rattle.model.specs.Limits.{max_network_bytes, max_len, max_plan_bytes}
use Rattle.model.specs.LongRegisters.{LenBounded, earlier_len, plan_in, plan_up_to, EarlierTexts, FirstTexts}
use Rattle.model.specs.Mark.{mark_read, mark}
use Rattle.model.specs.Network.{Node, segment, multiplexer, write, Network, total_bits, is_steering, held_or, start_of}
use Rattle.model.specs.NetworkText.{Reset, Line, node, out, hold, target, seg_line, decimals, mux_line, number_line, bits_line, line_of, Draft, has_out, outside, add_node, first_bad, add_out, is_target, add_target, add_line, read_lines, finish, no_lines, read_up_to, read_network}
use Rattle.model.specs.Path.{walk_from}
use Rattle.model.specs.Printed.{printed, show_network, show_pass, read_program, plan_program, mark_program}
use Rattle.model.specs.Resets.{read_without_reset}
use Rattle.model.specs.Result.{Result, ok, and_then}
use Rattle.model.specs.Text.{Bytes, bytes, parts, line_end, digits_from, decimal, same, word_of, bits_from}
use Rattle.model.proofs.Lists.{or_parts, or_right, handed, passed_test}
use Rattle.model.proofs.OldForm.{read_as_before, accepted_as_before, old_form_met}

-- ---- the bound of LEN

pub len_bounded : LenBounded
unfolding add_node
len_bounded most = record {
  may_be = λ n from len shadow before least in-bound. rw (lt-leb n from before, le-ltb len 1 least, le-ltb most len in-bound);
  beyond = λ d n from len shadow v in_order long. rw (in_order, or_right (leb n from || ltb len 1) (ltb most len) (lt-ltb most len long));
}

-- ---- a greater one

module _ (most most' : ℕ) (more : most ≤ most') where
  inside : (n : ℕ) (x : Node) → outside most n x ≡ false → outside most' n x ≡ false
  inside n (segment from len shadow) e =
      let a = or_parts (leb n from || ltb len 1) (ltb most len) e in
      let l : len ≤ most = ltb-false most len a.1 in
      rw a.0 (le-ltb most' len (omega arith))
  inside n (multiplexer s b ins) e = e

  node_added : (d e : Draft) (n : ℕ) (x : Node) (v : Reset) → add_node most d n x v ≡ ok e → add_node most' d n x v ≡ ok e
  unfolding add_node
  node_added d e n x v g =
      let a = passed_test (has_out d) 4 n _ e g in
      let b = passed_test (outside most n x) 2 n _ e a.1 in
      rw (a.0, inside n x b.0) b.1

  line_added : (d e : Draft) (n : ℕ) (o : Option Line) → add_line most d n o ≡ ok e → add_line most' d n o ≡ ok e
  line_added d e n none g = g
  line_added d e n (some (node x v)) g = node_added d e n x v g
  line_added d e n (some (out k)) g = g
  line_added d e n (some (hold s bs)) g = g
  line_added d e n (some (target t)) g = g

  lines_read : (ls : List Bytes) (d : Draft) (n : ℕ) (r : ℕ × Draft) → read_lines most d n ls ≡ ok r → read_lines most' d n ls ≡ ok r
  unfolding read_lines
  lines_read [] d n r g = g
  lines_read (l ∷ []) d n r g = g
  lines_read (l ∷ m ∷ ls) d n r g =
      let h = handed (add_line most d n (line_of l)) _ r g in
      ap (λ (x : Result Draft). and_then x (λ e. read_lines most' e (suc n) (m ∷ ls))) (line_added d h.value n (line_of l) h.given) ∙ lines_read (m ∷ ls) h.value (suc n) r h.then

  read_longer : (t : Bytes) (net : Network) → read_up_to most t ≡ ok net → read_up_to most' t ≡ ok net
  read_longer t net e =
      let a = passed_test (ltb max_network_bytes (length t)) 3 0 _ net e in
      let h = handed (read_lines most no_lines 1 (parts line_end t)) _ net a.1 in
      rw a.0 (ap (λ (x : Result (ℕ × Draft)). and_then x (λ r. finish r.0 r.1 r.1.feeds)) (lines_read (parts line_end t) no_lines 1 h.value h.given) ∙ h.then)

-- ---- so the calls and the programs

pub same_network : (n : Bytes) (net : Network) → read_up_to earlier_len n ≡ ok net → read_network n ≡ read_up_to earlier_len n
unfolding read_network
same_network n net e = read_longer earlier_len max_len (omega arith) n net e ∙ sym e

pub earlier_texts : EarlierTexts
unfolding make_plan searchable mark read_program plan_program mark_program
earlier_texts n net e =
    let same = same_network n net e in
    let plans : (search plan : List ℕ) → make_plan n search plan ≡ plan_up_to earlier_len n search plan =
    λ search plan. ap (λ (r : Result Network). plan_answer (and_then r (checked (length search))) search plan) same in
    record {
      network = same;
      plans = plans;
      marks = λ p. ap (λ (r : Result Network). mark_read r p) same;
      clocks = λ search plan tms tdi. ap (λ (a : PlanAnswer). write_clocks (plan_in a) tms tdi) (plans search plan);
      read_prints = ap (printed show_network) same;
      plan_prints = ap (λ (r : Result Network). printed (λ text. text) (planned (and_then r (checked search_entries)) max_plan_bytes)) same;
      mark_prints = λ p. ap (λ (r : Result Network). printed show_pass (mark_read r p)) same;
    }

pub first_texts : FirstTexts
first_texts n net e = let a = accepted_as_before earlier_len n net e in (earlier_texts n net a, same_network n net a ∙ a)

-- ---- a text that `earlier_texts` and `first_texts` speak of: A of document 01

pub earlier_met : (net : Network) × (read_up_to earlier_len (bytes A) ≡ ok net)
unfolding read_lines add_target is_target add_out first_bad add_node line_of bits_line number_line mux_line decimals seg_line start_of held_or is_steering total_bits walk_from bits_from word_of same decimal digits_from parts
earlier_met = (
  record {
    nodes = segment 0 4 true ∷ multiplexer 3 0 (0 ∷ 1 ∷ []) ∷ segment 2 1 true ∷ [];
    out = 3;
    start = (none ∷ none ∷ none ∷ none ∷ []) ∷ [] ∷ (some false ∷ []) ∷ [];
    targets = write 1 (false ∷ true ∷ false ∷ true ∷ []) ∷ [];
  },
  refl,
)

pub first_met : (net : Network) × (read_without_reset earlier_len (bytes A) ≡ ok net)
first_met = (earlier_met.0, sym (read_as_before earlier_len (bytes A) old_form_met) ∙ earlier_met.1)
