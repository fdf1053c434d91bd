-- The lines of one kind of an accepted text are read by themselves to the same: nodes and `out`, or targets.
-- Assumes nothing.
use mathlib.Core.Path.{◌≡◌, refl, sym, ap, ◌∙◌, subst}
use mathlib.Core.Bool.{Bool, true, false, cond, not}
use Rattle.std.specs.Prelude.{Option, None as none, Some as some}
use mathlib.Core.List.{List, [], ◌∷◌}
use Prim.Native.Nat.{ℕ, suc, ◌+◌}
use lib.ListN.{length}
use lib.Dec.{leb, ltb}
use borrow.Author.Tests.{not-false}
use Rattle.model.specs.Limits.{max_len}
use Rattle.model.specs.Network.{Node, Target, total_bits, len_of, is_steering, Held}
use Rattle.model.specs.NetworkText.{Reset, bad_reset, Line, node, out, hold, target, line_of, Draft, is_some, has_out, outside, add_node, first_bad, out_if, add_out, add_hold, target_segment, fits_target, is_target, add_target, add_line, no_lines}
use Rattle.model.specs.Result.{Result, ok, and_then}
use Rattle.model.specs.Text.{Bytes, Trit}
use Rattle.model.proofs.AddedLines.{add_all, after_line, added}
use Rattle.model.proofs.Lists.{true_false, not_ok, ok_is, handed, passed_test}
use Rattle.carry_model.specs.Continued.{lines_where, is_target_line, is_wiring}
use Rattle.carry_model.proofs.WordLines.{line_told, hold_not_target, wiring_not}

-- ---- the draft with other start bits, and with other targets

abbrev pub with_holds : Draft → List Held → Draft
with_holds d hs = record { nodes = d.nodes; resets = d.resets; feeds = d.feeds; holds = hs; targets = d.targets }

abbrev pub with_targets : Draft → List Target → Draft
with_targets d ts = record { nodes = d.nodes; resets = d.resets; feeds = d.feeds; holds = d.holds; targets = ts }

-- with neither
abbrev pub bare : Draft → Draft
bare d = with_targets (with_holds d []) []

-- ---- reading the lines that f keeps, beside reading all of them

-- line l is added to d, and the lines behind it give r
record Adds (r : ℕ × Draft) (n : ℕ) (d : Draft) (l : Bytes) (y : Draft) : Type 0 where
  adds : add_line max_len d n (line_of l) ≡ ok y
  rest : List Bytes
  then : add_all y (suc n) rest ≡ ok r

module _ (f : Bytes → Bool) (r : ℕ × Draft) (R : ℕ → Draft → ℕ → Draft → Type 0) where
  -- a line that f keeps is added to the other draft as well
  abbrev Follows : Type 0
  Follows = (l : Bytes) (n m : ℕ) (d y e : Draft) → f l ≡ true → R n d m e → Adds r n d l y → (e' : Draft) × (add_line max_len e m (line_of l) ≡ ok e') × R (suc n) y (suc m) e'

  abbrev Stays : Type 0
  Stays = (l : Bytes) (n m : ℕ) (d y e : Draft) → f l ≡ false → R n d m e → Adds r n d l y → R (suc n) y m e

  abbrev Beside : ℕ → Draft → List Bytes → Type 0
  Beside m e ls = (s : ℕ × Draft) × (add_all e m ls ≡ ok s) × R r.0 r.1 s.0 s.1

  read_beside : Follows → Stays → (ls : List Bytes) (n m : ℕ) (d e : Draft) → R n d m e → add_all d n ls ≡ ok r → Beside m e (lines_where f ls)
  unfolding add_all lines_where
  read_beside follows stays [] n m d e x g = ((m, e), refl, subst (λ (p : ℕ × Draft). R p.0 p.1 m e) (ok_is g) x)
  read_beside follows stays (l ∷ ls) n m d e x g =
      let h = handed (add_line max_len d n (line_of l)) _ r g in
      go (f l) refl h.value record { adds = h.given; rest = ls; then = h.then } (λ m' e' x'. read_beside follows stays ls (suc n) m' h.value e' x' h.then)
    where
      go : (t : Bool) → f l ≡ t → (y : Draft) → Adds r n d l y → ((m' : ℕ) (e' : Draft) → R (suc n) y m' e' → Beside m' e' (lines_where f ls))
          → Beside m e (cond t (l ∷ lines_where f ls) (lines_where f ls))
      go true q y a then =
          let s = follows l n m d y e q x a in
          let b = then (suc m) s.0 s.2 in
          (b.0, ap (λ (z : Result Draft). and_then z (λ w. add_all w (suc m) (lines_where f ls))) s.1 ∙ b.1, b.2)
      go false q y a then = then m e (stays l n m d y e q x a)

-- ---- `out` parts the lines of nodes from the others

-- a `hold` or target line is behind `out`
hold_behind : (d y : Draft) (n s : ℕ) (bs : List Trit) → add_hold d n s bs ≡ ok y → has_out d ≡ true
unfolding add_hold
hold_behind d y n s bs g = not-false _ (passed_test (not (has_out d)) 4 n _ y g).0

target_behind : (d y : Draft) (n : ℕ) (t : Target) → add_target d n t ≡ ok y → has_out d ≡ true
unfolding add_target
target_behind d y n t g = not-false _ (passed_test (not (has_out d)) 4 n _ y g).0

-- the nodes behind `out` are all
nodes_final : (ls : List Bytes) (d : Draft) (n : ℕ) (r : ℕ × Draft) → add_all d n ls ≡ ok r → has_out d ≡ true → d.nodes ≡ r.1.nodes
unfolding add_all add_node add_out
nodes_final [] d n r e o = ap (λ (x : ℕ × Draft). x.1.nodes) (ok_is e)
nodes_final (l ∷ ls) d n r e o =
    let h = handed (add_line max_len d n (line_of l)) _ r e in
    go (line_of l) h.value h.given (λ q. nodes_final ls h.value (suc n) r h.then q)
  where
    go : (o : Option Line) (y : Draft) → add_line max_len d n o ≡ ok y → (has_out y ≡ true → y.nodes ≡ r.1.nodes) → d.nodes ≡ r.1.nodes
    go none y g rest = absurd (not_ok g)
    go (some (node x v)) y g rest = absurd (true_false (sym o ∙ (passed_test (has_out d) 4 n _ y g).0))
    go (some (out k)) y g rest = absurd (true_false (sym o ∙ (passed_test (has_out d) 4 n _ y g).0))
    go (some (hold s bs)) y g rest = let q = added d y n (some (hold s bs)) g in ap (λ (z : Draft). z.nodes) q ∙ rest (ap has_out (sym q) ∙ o)
    go (some (target t)) y g rest = let q = added d y n (some (target t)) g in ap (λ (z : Draft). z.nodes) q ∙ rest (ap has_out (sym q) ∙ o)

no_feed : (o : Option ℕ) → is_some o ≡ false → o ≡ none
no_feed none e = refl
no_feed (some k) e = absurd (true_false e)

fed : (o : Option ℕ) → is_some o ≡ true → o ≡ none → ⊥
fed o e f = true_false (sym e ∙ ap is_some f)

-- ---- nodes and `out`

bare_node : (d y : Draft) (n m : ℕ) (x : Node) (v : Reset) → (d.feeds ≡ none → m ≡ n) → add_node max_len d n x v ≡ ok y → add_node max_len (bare d) m x v ≡ ok (bare y)
unfolding add_node
bare_node d y n m x v same g =
    let a = passed_test (has_out d) 4 n _ y g in
    let b = passed_test (outside max_len n x) 2 n _ y a.1 in
    let w = passed_test (bad_reset x v) 18 n _ y b.1 in
    let c = passed_test (leb 128 (length d.nodes)) 3 n _ y w.1 in
    let f = passed_test (ltb 4000 (total_bits d.nodes + len_of x)) 3 n _ y c.1 in
    let q : m ≡ n = same (no_feed d.feeds a.0) in
    rw (q, a.0, b.0, w.0, c.0, f.0) (ap (λ (z : Draft). ok (bare z)) (ok_is f.1))

bare_out : (d y : Draft) (n m k : ℕ) → add_out d n k ≡ ok y → add_out (bare d) m k ≡ ok (bare y)
unfolding add_out
bare_out d y n m k g =
    let a = passed_test (has_out d) 4 n _ y g in
    let b = passed_test (ltb (length d.nodes) k) 2 n _ y a.1 in
    rw (a.0, b.0) (go (first_bad d.nodes 1 d.nodes) b.1)
  where
    go : (o : Option ℕ) → out_if d k o ≡ ok y → out_if (bare d) k o ≡ ok (bare y)
    go none h = ap (λ (z : Draft). ok (bare z)) (ok_is h)
    go (some j) h = absurd (not_ok h)

-- line numbers count only before `out`, where no line is left out
abbrev Wired : ℕ → Draft → ℕ → Draft → Type 0
Wired n d m e = (e ≡ bare d) × (d.feeds ≡ none → m ≡ n)

module _ (r : ℕ × Draft) where
  wiring_follows : Follows is_wiring r Wired
  wiring_follows l n m d y e w x a = go (line_of l) refl a.adds
    where
      Next : Option Line → Type 0
      Next o = (e' : Draft) × (add_line max_len e m o ≡ ok e') × Wired (suc n) y (suc m) e'

      go : (o : Option Line) → line_of l ≡ o → add_line max_len d n o ≡ ok y → Next o
      go none q g = absurd (not_ok g)
      go (some (node z v)) q g = (
        bare y,
        ap (λ (c : Draft). add_node max_len c m z v) x.0 ∙ bare_node d y n m z v x.1 g,
        (refl, λ f. ap suc (x.1 (ap (λ (c : Draft). c.feeds) (added d y n (some (node z v)) g) ∙ f))),
      )
      go (some (out k)) q g = (
        bare y,
        ap (λ (c : Draft). add_out c m k) x.0 ∙ bare_out d y n m k g,
        (refl, λ f. absurd (fed (some k) refl (ap (λ (c : Draft). c.feeds) (added d y n (some (out k)) g) ∙ f))),
      )
      go (some (hold s bs)) q g = absurd (true_false (sym (line_told l (hold s bs) q) ∙ (wiring_not l w).0))
      go (some (target t)) q g = absurd (true_false (sym (line_told l (target t) q) ∙ (wiring_not l w).1))

  wiring_stays : Stays is_wiring r Wired
  wiring_stays l n m d y e w x a = go (line_of l) refl a.adds
    where
      same : (o : Option Line) → add_line max_len d n o ≡ ok y → has_out d ≡ true → (after_line d o).feeds ≡ d.feeds → bare (after_line d o) ≡ bare d → Wired (suc n) y m e
      same o g h q b =
          let is = added d y n o g in
          (x.0 ∙ sym b ∙ ap bare is, λ f. absurd (fed d.feeds h (sym q ∙ ap (λ (c : Draft). c.feeds) is ∙ f)))

      go : (o : Option Line) → line_of l ≡ o → add_line max_len d n o ≡ ok y → Wired (suc n) y m e
      go none q g = absurd (not_ok g)
      go (some (node z v)) q g = absurd (true_false (sym (line_told l (node z v) q) ∙ w))
      go (some (out k)) q g = absurd (true_false (sym (line_told l (out k) q) ∙ w))
      go (some (hold s bs)) q g = same (some (hold s bs)) g (hold_behind d y n s bs g) refl refl
      go (some (target t)) q g = same (some (target t)) g (target_behind d y n t g) refl refl

  pub wiring_apart : (ls : List Bytes) → add_all no_lines 1 ls ≡ ok r → (k : ℕ) × (add_all no_lines 1 (lines_where is_wiring ls) ≡ ok (k, bare r.1))
  wiring_apart ls g =
      let b = read_beside is_wiring r Wired wiring_follows wiring_stays ls 1 1 no_lines no_lines (refl, λ q. refl) g in
      (b.0.0, b.1 ∙ ap (λ (e : Draft). ok (b.0.0, e)) b.2.0)

-- ---- targets, added to a draft with the same nodes and an `out`

module _ (r : ℕ × Draft) (base : Draft) (nodes : base.nodes ≡ r.1.nodes) (has : has_out base ≡ true) where
  -- the nodes before and behind a line that is behind `out`
  nodes_at : (n : ℕ) (d y : Draft) (l : Bytes) → Adds r n d l y → d.nodes ≡ y.nodes → has_out y ≡ true → d.nodes ≡ base.nodes
  nodes_at n d y l a q o = q ∙ nodes_final a.rest y (suc n) r a.then o ∙ sym nodes

  -- the targets so far are those of the other draft
  abbrev TargetsSo : ℕ → Draft → ℕ → Draft → Type 0
  TargetsSo n d m e = e ≡ with_targets base d.targets

  target_again : (d y : Draft) (n m : ℕ) (t : Target) → d.nodes ≡ base.nodes → add_target d n t ≡ ok y → add_target (with_targets base d.targets) m t ≡ ok (with_targets base y.targets)
  unfolding add_target
  target_again d y n m t same g =
      let a = passed_test (not (has_out d)) 4 n _ y g in
      let b = passed_test (not (fits_target d.nodes t)) 6 n _ y a.1 in
      let c = passed_test (is_target d.targets t) 6 n _ y b.1 in
      let f = passed_test (is_steering d.nodes (target_segment t)) 7 n _ y c.1 in
      let h = passed_test (leb 4 (length d.targets)) 8 n _ y f.1 in
      let fits : not (fits_target base.nodes t) ≡ false = ap (λ (ns : List Node). not (fits_target ns t)) (sym same) ∙ b.0 in
      let free : is_steering base.nodes (target_segment t) ≡ false = ap (λ (ns : List Node). is_steering ns (target_segment t)) (sym same) ∙ f.0 in
      rw (has, fits, c.0, free, h.0) (ap (λ (z : Draft). ok (with_targets base z.targets)) (ok_is h.1))

  targets_follow : Follows is_target_line r TargetsSo
  targets_follow l n m d y e w x a = go (line_of l) refl a.adds
    where
      go : (o : Option Line) → line_of l ≡ o → add_line max_len d n o ≡ ok y → (e' : Draft) × (add_line max_len e m o ≡ ok e') × TargetsSo (suc n) y (suc m) e'
      go none q g = absurd (not_ok g)
      go (some (node z v)) q g = absurd (true_false (sym w ∙ (wiring_not l (line_told l (node z v) q)).1))
      go (some (out k)) q g = absurd (true_false (sym w ∙ (wiring_not l (line_told l (out k) q)).1))
      go (some (hold s bs)) q g = absurd (true_false (sym w ∙ hold_not_target l (line_told l (hold s bs) q)))
      go (some (target t)) q g =
          let is = added d y n (some (target t)) g in
          let same = nodes_at n d y l a (ap (λ (c : Draft). c.nodes) is) (ap has_out (sym is) ∙ target_behind d y n t g) in
          (with_targets base y.targets, ap (λ (c : Draft). add_target c m t) x ∙ target_again d y n m t same g, refl)

  targets_stay : Stays is_target_line r TargetsSo
  targets_stay l n m d y e w x a = go (line_of l) refl a.adds
    where
      same : (o : Option Line) → add_line max_len d n o ≡ ok y → (after_line d o).targets ≡ d.targets → TargetsSo (suc n) y m e
      same o g q = x ∙ ap (with_targets base) (sym q ∙ ap (λ (c : Draft). c.targets) (added d y n o g))

      go : (o : Option Line) → line_of l ≡ o → add_line max_len d n o ≡ ok y → TargetsSo (suc n) y m e
      go none q g = absurd (not_ok g)
      go (some (node z v)) q g = same (some (node z v)) g refl
      go (some (out k)) q g = same (some (out k)) g refl
      go (some (hold s bs)) q g = same (some (hold s bs)) g refl
      go (some (target t)) q g = absurd (true_false (sym (line_told l (target t) q) ∙ w))

  pub targets_apart : (ls : List Bytes) (m : ℕ) → add_all no_lines 1 ls ≡ ok r → (k : ℕ) × (add_all (with_targets base []) m (lines_where is_target_line ls) ≡ ok (k, with_targets base r.1.targets))
  targets_apart ls m g =
      let b = read_beside is_target_line r TargetsSo targets_follow targets_stay ls 1 m no_lines (with_targets base []) refl g in
      (b.0.0, b.1 ∙ ap (λ (e : Draft). ok (b.0.0, e)) b.2)
