-- Document 02, Change 1: a segment starts from its `hold` line, else from its RESET, else from 0 or X.
-- Assumes nothing.
use mathlib.Core.Path.{◌≡◌, refl, sym, ap, ◌∙◌, subst}
use mathlib.Core.Bool.{true, false, not}
use Rattle.std.specs.Prelude.{Option, None as none, Some as some}
use mathlib.Core.List.Memᴰ
use mathlib.Core.List.{List, [], ◌∷◌, Memᴰ}
use Prim.Native.Nat.{ℕ, zero, suc, ◌+◌, ◌≤◌, ◌<◌}
use native.Mathlib.Omega.{arith}
use lib.ListN.{length, get_or, length-append}
use lib.Seq.{get_or-append_seam}
use borrow.Author.Tests.{not-false}
use Rattle.model.specs.Drafted.{Sound, Stage, no_out, behind_out}
use Rattle.model.specs.Limits.{max_len}
use Rattle.model.specs.Network.{Node, Network, at, no_node, is_segment, len_of, held_or, silent_bits, start_of}
use Rattle.model.specs.NetworkText.{Reset, Line, node, out, hold, target, line_of, Draft, has_out, with_node, add_node, fits_bits, is_held, add_hold, add_line, no_lines}
use Rattle.model.specs.Resets.{NotHeld, ResetStarts}
use Rattle.model.specs.Result.{ok}
use Rattle.model.specs.Text.{Bytes, parts, same, word_of, lines_of, Trit}
use Rattle.model.proofs.AddedLines.{add_all, lines_added, after_line, added, all_keep}
use Rattle.model.proofs.HeldBits.{held_append, held_one, held_other, held_free, none_for}
use Rattle.model.proofs.Lists.{true_false, and_parts, none_some, ok_is, handed, passed_test, at_map_from}
use Rattle.model.proofs.Reading.{at_before, has_none, sound_line, sound_start, Source, source}

-- ---- `hold` lines

-- lines that do not hold s
not_held : (ls : List Bytes) (s : ℕ) → ((l : Bytes) (bs : List Trit) → Memᴰ l ls → line_of l ≡ some (hold s bs) → ⊥) → (d : Draft) (n : ℕ) (r : ℕ × Draft)
    → add_all d n ls ≡ ok r → (other : List Trit) → held_or other d.holds s ≡ other → held_or other r.1.holds s ≡ other
not_held ls s f d n r e other = all_keep (λ (d : Draft). held_or other d.holds s ≡ other) ls (λ l m d p. go d p (line_of l) (λ bs. f l bs m)) d n r e
  where
    go : (d : Draft) → held_or other d.holds s ≡ other → (o : Option Line) → ((bs : List Trit) → o ≡ some (hold s bs) → ⊥) → held_or other (after_line d o).holds s ≡ other
    go d p none g = p
    go d p (some (node x v)) g = p
    go d p (some (out k)) g = p
    go d p (some (hold j bs)) g =
        held_append other d.holds _ s ∙ ap (λ (y : List Trit). held_or y d.holds s) (held_other other bs j s (λ e. g bs (ap (λ (k : ℕ). some (hold k bs)) e))) ∙ p
    go d p (some (target t)) g = p

segment_at_law : (ns : List Node) (s : ℕ) → is_segment (at ns s no_node) ≡ true → (1 ≤ s) × (s ≤ length ns)
segment_at_law ns zero e = absurd (true_false (sym e))
segment_at_law ns (suc i) e = (omega arith, go ns i e)
  where
    go : (ns : List Node) (i : ℕ) → is_segment (get_or ns i no_node) ≡ true → i < length ns
    go [] i e = absurd (true_false (sym e))
    go (x ∷ ns) zero e = omega arith
    go (x ∷ ns) (suc i) e = let l = go ns i e in omega arith

-- segment s is a node, and these bits are held
record HeldAs (s : ℕ) (bs : List Trit) (d : Draft) : Type 0 where
  least : 1 ≤ s
  among : s ≤ length d.nodes
  gives : (other : List Trit) → held_or other d.holds s ≡ bs

now_held : (d e : Draft) (n s : ℕ) (bs : List Trit) → add_hold d n s bs ≡ ok e → HeldAs s bs e
unfolding add_hold
now_held d e n s bs g =
    let a = passed_test (not (has_out d)) 4 n _ e g in
    let b = passed_test (not (fits_bits d.nodes s bs)) 6 n _ e a.1 in
    let c = passed_test (is_held d.holds s) 6 n _ e b.1 in
    let w = segment_at_law d.nodes s (and_parts (is_segment (at d.nodes s no_node)) _ (not-false _ b.0)).0 in
    subst (HeldAs s bs) (ok_is c.1) record {
      least = w.0;
      among = w.1;
      gives = λ other. held_append other d.holds _ s ∙ ap (λ (y : List Trit). held_or y d.holds s) (held_one other bs s) ∙ held_free bs d.holds s c.0;
    }

held_stays : (s : ℕ) (bs : List Trit) (d : Draft) (o : Option Line) → HeldAs s bs d → HeldAs s bs (after_line d o)
held_stays s bs d none h = h
held_stays s bs d (some (node x v)) h = record { least = h.least; among = let a = h.among in omega (arith, length-append d.nodes (x ∷ [])); gives = h.gives }
held_stays s bs d (some (out k)) h = record { least = h.least; among = h.among; gives = h.gives }
held_stays s bs d (some (hold j cs)) h = record { least = h.least; among = h.among; gives = λ other. held_append other d.holds _ s ∙ h.gives _ }
held_stays s bs d (some (target t)) h = record { least = h.least; among = h.among; gives = h.gives }

hold_line_law : (ls : List Bytes) (d : Draft) (n : ℕ) (r : ℕ × Draft) → add_all d n ls ≡ ok r → (l : Bytes) (s : ℕ) (bs : List Trit) → Memᴰ l ls
    → line_of l ≡ some (hold s bs) → HeldAs s bs r.1
unfolding add_all
hold_line_law [] d n r g l s bs m e = absurd (Memᴰ.not-nil m)
hold_line_law (k ∷ ls) d n r g l s bs (Memᴰ.tail m) e = let h = handed (add_line max_len d n (line_of k)) _ r g in hold_line_law ls h.value (suc n) r h.then l s bs m e
hold_line_law (k ∷ ls) d n r g l s bs (Memᴰ.head q) e =
    let h = handed (add_line max_len d n (line_of k)) _ r g in
    all_keep (HeldAs s bs) ls (λ k m d p. held_stays s bs d (line_of k) p) h.value (suc n) r h.then
    (now_held d h.value n s bs (ap (add_line max_len d n) (sym (ap line_of (sym q) ∙ e)) ∙ h.given))

-- ---- RESETs

abbrev reset_or : List Trit → Reset → List Trit
reset_or other none = other
reset_or other (some bs) = bs

-- s is this node, and its line had this RESET
record ResetAs (s : ℕ) (x : Node) (v : Reset) (d : Draft) : Type 0 where
  among : s ≤ length d.nodes
  is : at d.nodes s no_node ≡ x
  gives : (other : List Trit) → held_or other d.resets s ≡ reset_or other v

now_reset : (d e : Draft) (n : ℕ) (x : Node) (v : Reset) → Sound d n → add_node max_len d n x v ≡ ok e → ResetAs n x v e
unfolding add_node
now_reset d e n x v s g = subst (ResetAs n x v) (added d e n (some (node x v)) g) (by_stage (passed_test (has_out d) 4 n _ e g).0 s.stage)
  where
    none_yet : (other : List Trit) → held_or other d.resets (suc (length d.nodes)) ≡ other
    none_yet other = held_free other d.resets (suc (length d.nodes)) (none_for d.resets (suc (length d.nodes)) (λ h m q. let a = (s.resets_fit h m).among in omega arith))

    of : (v : Reset) → ResetAs (suc (length d.nodes)) x v (with_node d x v)
    of none = record { among = omega (arith, length-append d.nodes (x ∷ [])); is = get_or-append_seam d.nodes x [] no_node; gives = none_yet }
    of (some bs) = record {
      among = omega (arith, length-append d.nodes (x ∷ []));
      is = get_or-append_seam d.nodes x [] no_node;
      gives = λ other. held_append other d.resets _ (suc (length d.nodes))
          ∙ ap (λ (y : List Trit). held_or y d.resets (suc (length d.nodes))) (held_one other bs (suc (length d.nodes))) ∙ none_yet bs;
    }

    by_stage : has_out d ≡ false → Stage d n → ResetAs n x v (with_node d x v)
    by_stage h (no_out q m hs ts) = subst (λ (k : ℕ). ResetAs k x v (with_node d x v)) (sym m) (of v)
    by_stage h (behind_out k q z y u w) = absurd (has_none d k q h)

reset_stays : (s : ℕ) (x : Node) (v : Reset) (d : Draft) (o : Option Line) → ResetAs s x v d → ResetAs s x v (after_line d o)
reset_stays s x v d none h = h
reset_stays s x v d (some (node y none)) h =
    record { among = let a = h.among in omega (arith, length-append d.nodes (y ∷ [])); is = at_before d.nodes y s h.among ∙ h.is; gives = h.gives }
reset_stays s x v d (some (node y (some bs))) h = record {
  among = let a = h.among in omega (arith, length-append d.nodes (y ∷ []));
  is = at_before d.nodes y s h.among ∙ h.is;
  gives = λ other. held_append other d.resets _ s
      ∙ ap (λ (z : List Trit). held_or z d.resets s) (held_other other bs (suc (length d.nodes)) s (λ q. let a = h.among in omega arith)) ∙ h.gives other;
}
reset_stays s x v d (some (out k)) h = record { among = h.among; is = h.is; gives = h.gives }
reset_stays s x v d (some (hold j bs)) h = record { among = h.among; is = h.is; gives = h.gives }
reset_stays s x v d (some (target t)) h = record { among = h.among; is = h.is; gives = h.gives }

empty_line : (line : Line) → line_of [] ≡ some line → ⊥
unfolding line_of word_of same parts
empty_line line e = none_some line e

-- the line of node n + i
node_line : (ls : List Bytes) (i : ℕ) (d : Draft) (n : ℕ) (r : ℕ × Draft) → add_all d n ls ≡ ok r → Sound d n → (x : Node) (v : Reset) → line_of (get_or ls i []) ≡ some (node x v)
    → ResetAs (n + i) x v r.1
unfolding add_all
node_line [] i d n r g s x v e = absurd (empty_line (node x v) e)
node_line (k ∷ ls) zero d n r g s x v e =
    let h = handed (add_line max_len d n (line_of k)) _ r g in
    let now = now_reset d h.value n x v s (ap (add_line max_len d n) (sym e) ∙ h.given) in
    subst (λ (j : ℕ). ResetAs j x v r.1) (let q : n ≡ n + 0 = omega arith in q) (all_keep (ResetAs n x v) ls (λ k m d p. reset_stays n x v d (line_of k) p) h.value (suc n) r h.then now)
node_line (k ∷ ls) (suc i) d n r g s x v e =
    let h = handed (add_line max_len d n (line_of k)) _ r g in
    subst (λ (j : ℕ). ResetAs j x v r.1) (let q : suc n + i ≡ n + suc i = omega arith in q)
    (node_line ls i h.value (suc n) r h.then (sound_line d h.value n k s h.given) x v e)

-- ---- the start

module _ (t : Bytes) (net : Network) (a : Source t net) where
  abbrev silent_at : ℕ → List Trit
  silent_at s = silent_bits net.nodes s (len_of (at net.nodes s no_node))

  row_at : (s : ℕ) → 1 ≤ s → s ≤ length a.draft.nodes → at net.start s [] ≡ held_or (held_or (silent_at s) a.draft.resets s) a.draft.holds s
  unfolding start_of
  row_at s lo hi =
      ap (λ (w : Network). at w.start s []) (sym a.is)
      ∙ at_map_from (λ s n. held_or (held_or (silent_bits a.draft.nodes s (len_of n)) a.draft.resets s) a.draft.holds s) a.draft.nodes s no_node [] lo hi
      ∙ ap (λ (w : Network). held_or (held_or (silent_bits w.nodes s (len_of (at w.nodes s no_node))) a.draft.resets s) a.draft.holds s) a.is

  from_line : (s : ℕ) (x : Node) (v : Reset) → line_of (at (lines_of t) s []) ≡ some (node x v) → NotHeld t s → at net.start s [] ≡ reset_or (silent_bits net.nodes s (len_of x)) v
  unfolding held_or
  from_line zero x v e f = absurd (empty_line (node x v) e)
  from_line (suc i) x v e f =
      let w : ResetAs (suc i) x v a.draft = subst (λ (j : ℕ). ResetAs j x v a.draft) (let q : 1 + i ≡ suc i = omega arith in q)
      (node_line (lines_of t) i no_lines 1 (a.behind, a.draft) (lines_added t net a) sound_start x v e) in
      row_at (suc i) (omega arith) w.among ∙ not_held (lines_of t) (suc i) f no_lines 1 (a.behind, a.draft) (lines_added t net a) _ refl ∙ w.gives (silent_at (suc i))
      ∙ ap (λ (y : Node). reset_or (silent_bits net.nodes (suc i) (len_of y)) v) (ap (λ (z : Network). at z.nodes (suc i) no_node) (sym a.is) ∙ w.is)

  from_hold : (l : Bytes) (s : ℕ) (bs : List Trit) → Memᴰ l (lines_of t) → line_of l ≡ some (hold s bs) → at net.start s [] ≡ bs
  from_hold l s bs m e =
      let h = hold_line_law (lines_of t) no_lines 1 (a.behind, a.draft) (lines_added t net a) l s bs m e in
      row_at s h.least h.among ∙ h.gives _

pub reset_starts : ResetStarts
reset_starts t net e =
    let a = source t net e in
    record {
      reset = λ s x bs. from_line t net a s x (some bs);
      silent = λ s x. from_line t net a s x none;
      held = from_hold t net a;
    }
