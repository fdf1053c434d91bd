-- How many bytes the lines of nodes and `out` of an accepted text have, and how many its target lines.
-- Assumes nothing.
use mathlib.Core.Path.{◌≡◌, refl, sym, ap, ◌∙◌}
use mathlib.Core.Bool.{true, false, not}
use Rattle.std.specs.Prelude.{Option, None as none, Some as some}
use mathlib.Core.List.{List, [], ◌∷◌, ◌++◌}
use Prim.Native.Nat.{ℕ, zero, suc, ◌+◌, ◌*◌, ◌≤◌, ◌<◌}
use native.Mathlib.Omega.{arith}
use native.Mathlib.Decide.{dec_lt}
use lib.ListN.{length, get_or, length-append, get_or-eq_default}
use borrow.Author.Tests.{not-false}
use Rattle.model.specs.Accepted.{GoodNode, WellFormed}
use Rattle.model.specs.Limits.{max_len}
use Rattle.model.specs.Network.{segment, multiplexer, Node, Target, read, write, Network, at, no_node, is_segment, len_of, total_bits}
use Rattle.model.specs.NetworkText.{Reset, Line, node, out, hold, target, line_of, Draft, is_some, has_out, outside, bad_reset, with_node, add_node, with_out, add_out, fits_target, with_target, add_target, add_line}
use Rattle.model.specs.Result.{ok}
use Rattle.model.specs.Text.{Bytes, line_end}
use Rattle.model.proofs.AddedLines.{add_all, added}
use Rattle.model.proofs.Lists.{Every, eqb_is, and_parts, true_false, not_ok, ok_is, handed, passed_test}
use Rattle.model.proofs.Reading.{total_more}
use Rattle.carry_model.specs.Continued.{text_of_lines, is_target_line, is_wiring}
use Rattle.carry_model.proofs.LineLengths.{target_bits, line_bytes}
use Rattle.carry_model.proofs.WordLines.{line_told, hold_not_target, wiring_not}

-- lines that each fit what they add to `room`
module _ (room : Draft → ℕ) (P : Bytes → Type 0) (Q : Draft → Type 0) where
  abbrev Fits : Type 0
  Fits = (l : Bytes) (n : ℕ) (d y : Draft) → P l → Q d → add_line max_len d n (line_of l) ≡ ok y → (length l + 1 + room d ≤ room y) × Q y

  lines_fit : Fits → (ls : List Bytes) (d : Draft) (n : ℕ) (r : ℕ × Draft) → Every P ls → Q d → add_all d n ls ≡ ok r → length (text_of_lines ls) + room d ≤ room r.1
  unfolding add_all text_of_lines
  lines_fit one [] d n r w x e = let q : room d ≡ room r.1 = ap (λ (x : ℕ × Draft). room x.1) (ok_is e) in omega arith
  lines_fit one (l ∷ ls) d n r w x e =
      let h = handed (add_line max_len d n (line_of l)) _ r e in
      let a = one l n d h.value w.0 x h.given in
      let b = lines_fit one ls h.value (suc n) r w.1 a.1 h.then in
      omega (arith, a.0, length-append l (line_end ∷ text_of_lines ls))

-- ---- nodes and `out`

outs : Option ℕ → ℕ
outs none = 0
outs (some k) = 1

abbrev wiring_room : Draft → ℕ
wiring_room d = 34 * length d.nodes + total_bits d.nodes + 9 * outs d.feeds

wiring_line : Fits wiring_room (λ l. is_wiring l ≡ true) (λ d. Unit {0})
unfolding outs add_node add_out
wiring_line l n d y w x e = (go (line_of l) refl e, tt)
  where
    no_out_yet : (o : Option ℕ) → is_some o ≡ false → outs o ≡ 0
    no_out_yet none q = refl
    no_out_yet (some j) q = absurd (true_false q)

    fits : (x : Node) (v : Reset) → add_line max_len d n (some (node x v)) ≡ ok y → bad_reset x v ≡ false
    fits x v g =
        let a = passed_test (has_out d) 4 n _ y g in
        let b = passed_test (outside max_len n x) 2 n _ y a.1 in
        (passed_test (bad_reset x v) 18 n _ y b.1).0

    go : (o : Option Line) → line_of l ≡ o → add_line max_len d n o ≡ ok y → length l + 1 + wiring_room d ≤ wiring_room y
    go none q g = absurd (not_ok g)
    go (some (node x v)) q g =
        let a = line_bytes l (node x v) q (fits x v g) in
        let b : wiring_room (with_node d x v) ≡ wiring_room y = ap wiring_room (added d y n (some (node x v)) g) in
        let c : length (d.nodes ++ x ∷ []) ≡ length d.nodes + 1 = length-append d.nodes (x ∷ []) in
        omega (arith, total_more d.nodes x)
    go (some (out k)) q g =
        let a = line_bytes l (out k) q in
        let b : wiring_room (with_out d k) ≡ wiring_room y = ap wiring_room (added d y n (some (out k)) g) in
        let c = no_out_yet d.feeds (passed_test (has_out d) 4 n _ y g).0 in
        omega arith
    go (some (hold s bs)) q g = absurd (true_false (sym (line_told l (hold s bs) q) ∙ (wiring_not l w).0))
    go (some (target t)) q g = absurd (true_false (sym (line_told l (target t) q) ∙ (wiring_not l w).1))

pub wiring_bytes : (ls : List Bytes) (d : Draft) (n k : ℕ) (r : ℕ × Draft) → Every (λ l. is_wiring l ≡ true) ls → add_all d n ls ≡ ok r → r.1.feeds ≡ some k
    → length (text_of_lines ls) ≤ 34 * length r.1.nodes + total_bits r.1.nodes + 9
unfolding outs
wiring_bytes ls d n k r w e f =
    let a = lines_fit wiring_room (λ l. is_wiring l ≡ true) (λ d. Unit {0}) wiring_line ls d n r w tt e in
    let b : outs r.1.feeds ≡ 1 = ap outs f in
    omega arith

-- ---- targets

-- no segment has more bits than LEN may be
pub len_most : (net : Network) → WellFormed net → (s : ℕ) → len_of (at net.nodes s no_node) ≤ max_len
len_most net wf zero = omega arith
len_most net wf (suc n) = go (dec_lt n (length net.nodes))
  where
    of : (x : Node) → GoodNode net.nodes (suc n) x → len_of x ≤ max_len
    of (segment from len shadow) g = g.most
    of (multiplexer s b ins) g = omega arith

    go : Dec (n < length net.nodes) → len_of (get_or net.nodes n no_node) ≤ max_len
    go (yes l) = of (get_or net.nodes n no_node) (wf.backwards n l)
    go (no l) = let q : len_of (get_or net.nodes n no_node) ≡ 0 = ap len_of (get_or-eq_default net.nodes no_node (omega arith)) in omega arith

module _ (ns : List Node) (most : (s : ℕ) → len_of (at ns s no_node) ≤ max_len) where
  bits_few : (t : Target) → fits_target ns t ≡ true → target_bits t ≤ max_len
  bits_few (read s) e = omega arith
  bits_few (write s bs) e =
      let a : length bs ≡ len_of (at ns s no_node) = eqb_is (length bs) (len_of (at ns s no_node)) (and_parts (is_segment (at ns s no_node)) _ e).1 in
      omega (arith, most s)

  -- 11 bytes, the bits and the line's end
  abbrev target_room : Draft → ℕ
  target_room d = (12 + max_len) * length d.targets

  target_line : Fits target_room (λ l. is_target_line l ≡ true) (λ d. d.nodes ≡ ns)
  unfolding add_target
  target_line l n d y w same e = go (line_of l) refl e
    where
      go : (o : Option Line) → line_of l ≡ o → add_line max_len d n o ≡ ok y → (length l + 1 + target_room d ≤ target_room y) × (y.nodes ≡ ns)
      go none q g = absurd (not_ok g)
      go (some (node x v)) q g = absurd (true_false (sym w ∙ (wiring_not l (line_told l (node x v) q)).1))
      go (some (out k)) q g = absurd (true_false (sym w ∙ (wiring_not l (line_told l (out k) q)).1))
      go (some (hold s bs)) q g = absurd (true_false (sym w ∙ hold_not_target l (line_told l (hold s bs) q)))
      go (some (target t)) q g =
          let a = passed_test (not (has_out d)) 4 n _ y g in
          let b = passed_test (not (fits_target d.nodes t)) 6 n _ y a.1 in
          let is = added d y n (some (target t)) g in
          let c : target_room (with_target d t) ≡ target_room y = ap target_room is in
          let f : length (d.targets ++ t ∷ []) ≡ length d.targets + 1 = length-append d.targets (t ∷ []) in
          let few = bits_few t (ap (λ (z : List Node). fits_target z t) (sym same) ∙ not-false _ b.0) in
          (omega (arith, line_bytes l (target t) q), ap (λ (z : Draft). z.nodes) (sym is) ∙ same)

  pub target_bytes : (ls : List Bytes) (d : Draft) (n : ℕ) (r : ℕ × Draft) → Every (λ l. is_target_line l ≡ true) ls → d.nodes ≡ ns → add_all d n ls ≡ ok r
      → length (text_of_lines ls) ≤ (12 + max_len) * length r.1.targets
  target_bytes ls d n r w same e = let a = lines_fit target_room (λ l. is_target_line l ≡ true) (λ d. d.nodes ≡ ns) target_line ls d n r w same e in omega arith
