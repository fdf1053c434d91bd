-- The lines of a configuration: each segment has one; read behind nodes and `out`, none is refused, and the start that they give is the configuration.
-- Assumes nothing.
use mathlib.Core.Path.{◌≡◌, refl, sym, ap, ◌∙◌, subst}
use mathlib.Core.Bool.{Bool, true, false, cond}
use Rattle.std.specs.Prelude.{Option, Some as some}
use mathlib.Core.Logic.{◌⊎◌, inl, inr}
use mathlib.Core.List.Memᴰ
use mathlib.Core.List.{List, [], ◌∷◌, ◌++◌, map, append_assoc, append-nil, Memᴰ}
use Prim.Native.Nat.{ℕ, zero, suc, ◌+◌, ◌≤◌, ◌<◌}
use native.Mathlib.Omega.{arith}
use native.Mathlib.Nat.{add-zero, suc-add, add-suc, not-suc-le-zero, le_of_suc-le-suc}
use lib.ListN.{length, get_or, length-replicate}
use lib.Seq.{ext_get_or}
use borrow.Author.Tests.{eq-eqb, ne_eqb}
use Rattle.model.specs.Accepted.{GoodNode, Accepted}
use Rattle.model.specs.Drafted.{ResetsFit}
use Rattle.model.specs.Limits.{max_nodes, max_len}
use Rattle.model.specs.Network.{segment, multiplexer, Node, Config, Network, at, no_node, is_segment, len_of, map_from, Held, held_or, silent_bits, start_of}
use Rattle.model.specs.NetworkText.{Line, hold, line_of, Draft, has_out, fits_bits, is_held, with_hold, add_hold, add_line}
use Rattle.model.specs.Result.{Result, ok, and_then}
use Rattle.model.specs.Text.{Bytes, lines_of, Trit}
use Rattle.model.proofs.AddedLines.{add_all}
use Rattle.model.proofs.HeldBits.{held_length, none_for}
use Rattle.model.proofs.Lists.{eqb_same, and_both, true_false, length_map_from, at_map_from}
use Rattle.carry_model.specs.Carry.{config_text}
use Rattle.carry_model.proofs.HoldText.{held_line, held_read, held_rows, held_lines}
use Rattle.carry_model.proofs.LeftConfig.{RowsFit}
use Rattle.carry_model.proofs.LinesByKind.{with_holds}

-- ---- none is refused

-- a row that a `hold` line can give
record FitRow (ns : List Node) (c : Config) (s : ℕ) : Type 0 where
  fits : fits_bits ns s (at c s []) ≡ true
  least : 1 ≤ length (at c s [])
  small : s ≤ max_nodes

fit_row : (ns : List Node) (c : Config) (n : ℕ) (x : Node) → at ns (suc n) no_node ≡ x → GoodNode ns (suc n) x → RowsFit ns c → suc n ≤ max_nodes → is_segment x ≡ true → FitRow ns c (suc n)
fit_row ns c n (multiplexer s b ins) q g z l e = absurd (true_false (sym e))
fit_row ns c n (segment from len shadow) q g z l e = record {
  fits = and_both (is_segment (at ns (suc n) no_node)) _ (ap is_segment q) (eq-eqb (length (at c (suc n) [])) (len_of (at ns (suc n) no_node)) (z.each (suc n)));
  least = let a : length (at c (suc n) []) ≡ len = z.each (suc n) ∙ ap len_of q in let b : 1 ≤ len = g.least in omega arith;
  small = l;
}

-- start bits of segments below number i
abbrev Below : ℕ → List Held → Type 0
Below i hs = (h : Held) → Memᴰ h hs → h.segment_number < i

below_free : (i s : ℕ) (hs : List Held) → Below i hs → i ≤ s → is_held hs s ≡ false
below_free i s hs b l = none_for hs s (λ h m e. let a = b h m in omega arith)

below_more : (i : ℕ) (ts : List Trit) (hs : List Held) → Below i hs → Below (suc i) (hs ++ record { segment_number = i; bits = ts } ∷ [])
below_more i ts hs b h m = go (Memᴰ.append_cases hs m)
  where
    go : Memᴰ h hs ⊎ Memᴰ h (record { segment_number = i; bits = ts } ∷ []) → h.segment_number < suc i
    go (inl x) = let a = b h x in omega arith
    go (inr x) = let e : h.segment_number ≡ i = ap (λ (y : Held). y.segment_number) (Memᴰ.eq_of_singleton x) in omega arith

add_row : (d : Draft) (n : ℕ) (h : Held) → has_out d ≡ true → fits_bits d.nodes h.segment_number h.bits ≡ true → is_held d.holds h.segment_number ≡ false
    → add_hold d n h.segment_number h.bits ≡ ok (with_hold d h.segment_number h.bits)
unfolding add_hold
add_row d n h o f i = rw (o, f, i)

rows_added : (c : Config) (ns : List Node) (i n : ℕ) (d : Draft) → has_out d ≡ true → ((j : ℕ) → j < length ns → is_segment (get_or ns j no_node) ≡ true → FitRow d.nodes c (i + j))
    → Below i d.holds → (m : ℕ) × (add_all d n (map held_line (held_rows c i ns)) ≡ ok (m, with_holds d (d.holds ++ held_rows c i ns)))
unfolding add_all held_rows
rows_added c [] i n d o f below = (n, ap (λ (hs : List Held). ok (n, with_holds d hs)) (sym (append-nil d.holds)))
rows_added c (x ∷ ns) i n d o f below = go (is_segment x) refl
    (λ n' d' o' q g. rows_added c ns (suc i) n' d' o'
    (λ j l y. subst (λ (z : List Node). FitRow z c (suc i + j)) (sym q) (subst (FitRow d.nodes c) (add-suc i j ∙ sym (suc-add i j)) (f (suc j) (omega arith) y))) g)
  where
    h : Held
    h = record { segment_number = i; bits = at c i [] }

    Rest : Type 0
    Rest = (n' : ℕ) (d' : Draft) → has_out d' ≡ true → d'.nodes ≡ d.nodes → Below (suc i) d'.holds
        → (m : ℕ) × (add_all d' n' (map held_line (held_rows c (suc i) ns)) ≡ ok (m, with_holds d' (d'.holds ++ held_rows c (suc i) ns)))

    go : (t : Bool) → is_segment x ≡ t → Rest
        → (m : ℕ) × (add_all d n (map held_line (cond t (h ∷ held_rows c (suc i) ns) (held_rows c (suc i) ns))) ≡ ok (m, with_holds d (d.holds ++ cond t (h ∷ held_rows c (suc i) ns) (held_rows c (suc i) ns))))
    go false q rest = rest n d o refl (λ y m. let a = below y m in omega arith)
    go true q rest =
        let r : FitRow d.nodes c i = subst (FitRow d.nodes c) (add-zero i) (f 0 (omega arith) q) in
        let s = rest (suc n) (with_hold d i (at c i [])) o refl (below_more i (at c i []) d.holds below) in (
          s.0,
          ap (λ (y : Option Line). and_then (add_line max_len d n y) (λ e. add_all e (suc n) (map held_line (held_rows c (suc i) ns)))) (held_read h r.small r.least)
              ∙ ap (λ (y : Result Draft). and_then y (λ e. add_all e (suc n) (map held_line (held_rows c (suc i) ns)))) (add_row d n h o r.fits (below_free i i d.holds below (omega arith)))
              ∙ s.1 ∙ ap (λ (hs : List Held). ok (s.0, with_holds d hs)) (append_assoc d.holds (h ∷ []) (held_rows c (suc i) ns)),
        )

-- each segment of an accepted network
fit_rows : (net : Network) → Accepted net → (c : Config) → RowsFit net.nodes c → (j : ℕ) → j < length net.nodes → is_segment (get_or net.nodes j no_node) ≡ true → FitRow net.nodes c (suc j)
fit_rows net acc c z j l y = let f = acc.few_nodes in fit_row net.nodes c j (get_or net.nodes j no_node) refl (acc.wf.backwards j l) z (omega arith) y

-- behind the nodes and `out` of an accepted network
pub rows_read : (net : Network) → Accepted net → (c : Config) → RowsFit net.nodes c → (d : Draft) → d.nodes ≡ net.nodes → has_out d ≡ true → (n : ℕ)
    → (m : ℕ) × (add_all (with_holds d []) n (lines_of (config_text net c)) ≡ ok (m, with_holds d (held_rows c 1 net.nodes)))
rows_read net acc c z d ns o n =
    let r = rows_added c net.nodes 1 n (with_holds d []) o fit (λ h m. absurd (Memᴰ.not-nil m)) in
    (r.0, ap (add_all (with_holds d []) n) (held_lines c 1 net.nodes) ∙ r.1)
  where
    fit : (j : ℕ) → j < length net.nodes → is_segment (get_or net.nodes j no_node) ≡ true → FitRow d.nodes c (1 + j)
    fit j l y =
        let q : suc j ≡ 1 + j = omega arith in
        subst (λ (x : List Node). FitRow x c (1 + j)) (sym ns) (subst (FitRow net.nodes c) q (fit_rows net acc c z j l y))

-- ---- each segment has its line

row_in : (c : Config) (ns : List Node) (i j : ℕ) → is_segment (get_or ns j no_node) ≡ true → Memᴰ (held_line record { segment_number = i + j; bits = at c (i + j) [] }) (map held_line (held_rows c i ns))
unfolding held_rows
row_in c [] i j e = absurd (true_false (sym e))
row_in c (x ∷ ns) i zero e = rw (e, add-zero i) (Memᴰ.head refl)
row_in c (x ∷ ns) i (suc j) e = go (is_segment x)
    (subst (λ (k : ℕ). Memᴰ (held_line record { segment_number = k; bits = at c k [] }) (map held_line (held_rows c (suc i) ns))) (suc-add i j ∙ sym (add-suc i j)) (row_in c ns (suc i) j e))
  where
    h : Held
    h = record { segment_number = i + suc j; bits = at c (i + suc j) [] }

    go : (t : Bool) → Memᴰ (held_line h) (map held_line (held_rows c (suc i) ns))
        → Memᴰ (held_line h) (map held_line (cond t (record { segment_number = i; bits = at c i [] } ∷ held_rows c (suc i) ns) (held_rows c (suc i) ns)))
    go true m = Memᴰ.tail m
    go false m = m

-- it is read as the segment's number and bits
pub segment_printed : (net : Network) → Accepted net → (c : Config) → RowsFit net.nodes c → (j : ℕ) → j < length net.nodes → is_segment (get_or net.nodes j no_node) ≡ true
    → (l : Bytes) × Memᴰ l (lines_of (config_text net c)) × (line_of l ≡ some (hold (suc j) (get_or c j [])))
segment_printed net acc c z j l y =
    let h : Held = record { segment_number = suc j; bits = get_or c j [] } in
    let r = fit_rows net acc c z j l y in
    let q : 1 + j ≡ suc j = omega arith in (
      held_line h,
      subst (Memᴰ (held_line h)) (sym (held_lines c 1 net.nodes))
          (subst (λ (k : ℕ). Memᴰ (held_line record { segment_number = k; bits = at c k [] }) (map held_line (held_rows c 1 net.nodes))) q (row_in c net.nodes 1 j y)),
      held_read h r.small r.least,
    )

-- ---- the start that they give

-- the row of a segment, and of a node that is none
abbrev row_or : List Trit → Config → Node → ℕ → List Trit
row_or other c x s = cond (is_segment x) (at c s []) other

rows_above : (other : List Trit) (c : Config) (ns : List Node) (i s : ℕ) → s < i → held_or other (held_rows c i ns) s ≡ other
unfolding held_or held_rows
rows_above other c [] i s l = refl
rows_above other c (x ∷ ns) i s l = go (is_segment x) (rows_above other c ns (suc i) s (omega arith))
  where
    go : (t : Bool) → held_or other (held_rows c (suc i) ns) s ≡ other
        → held_or other (cond t (record { segment_number = i; bits = at c i [] } ∷ held_rows c (suc i) ns) (held_rows c (suc i) ns)) s ≡ other
    go true r = rw (ne_eqb i s (λ z. omega arith)) r
    go false r = r

row_held : (other : List Trit) (c : Config) (ns : List Node) (i j : ℕ) → j < length ns → held_or other (held_rows c i ns) (i + j) ≡ row_or other c (get_or ns j no_node) (i + j)
unfolding held_or held_rows
row_held other c [] i j l = absurd (not-suc-le-zero l)
row_held other c (x ∷ ns) i zero l = rw (add-zero i) (go (is_segment x))
  where
    go : (t : Bool) → held_or other (cond t (record { segment_number = i; bits = at c i [] } ∷ held_rows c (suc i) ns) (held_rows c (suc i) ns)) i ≡ cond t (at c i []) other
    go true = rw (eqb_same i)
    go false = rows_above other c ns (suc i) i (omega arith)
row_held other c (x ∷ ns) i (suc j) l = go (is_segment x)
    (subst (λ (k : ℕ). held_or other (held_rows c (suc i) ns) k ≡ row_or other c (get_or ns j no_node) k) (suc-add i j ∙ sym (add-suc i j)) (row_held other c ns (suc i) j (le_of_suc-le-suc l)))
  where
    go : (t : Bool) → held_or other (held_rows c (suc i) ns) (i + suc j) ≡ row_or other c (get_or ns j no_node) (i + suc j)
        → held_or other (cond t (record { segment_number = i; bits = at c i [] } ∷ held_rows c (suc i) ns) (held_rows c (suc i) ns)) (i + suc j) ≡ row_or other c (get_or ns j no_node) (i + suc j)
    go true r = rw (ne_eqb i (i + suc j) (λ z. omega arith)) r
    go false r = r

no_bits : {A : Type 0} (l : List A) → length l ≡ 0 → [] ≡ l
no_bits [] e = refl
no_bits (a ∷ l) e = absurd (omega arith)

-- a multiplexer has no bits: configurations with the same bits of each segment are the same
pub same_config : (ns : List Node) (c e : Config) → RowsFit ns c → RowsFit ns e → ((j : ℕ) → j < length ns → is_segment (get_or ns j no_node) ≡ true → get_or c j [] ≡ get_or e j []) → c ≡ e
same_config ns c e y z f = ext_get_or [] c e (y.rows ∙ sym z.rows) (λ j l. go j (omega (arith, y.rows)) (get_or ns j no_node) refl)
  where
    go : (j : ℕ) → j < length ns → (x : Node) → get_or ns j no_node ≡ x → get_or c j [] ≡ get_or e j []
    go j l (segment from len shadow) q = f j l (ap is_segment q)
    go j l (multiplexer s b ins) q = sym (no_bits (get_or c j []) (y.each (suc j) ∙ ap len_of q)) ∙ no_bits (get_or e j []) (z.each (suc j) ∙ ap len_of q)

row_is : (other : List Trit) (c : Config) (x : Node) (s : ℕ) → length other ≡ len_of x → length (at c s []) ≡ len_of x → row_or other c x s ≡ at c s []
row_is other c (segment from len shadow) s l e = refl
row_is other c (multiplexer u b ins) s l e = sym (no_bits other l) ∙ no_bits (at c s []) e

-- whatever the RESETs are
pub start_held : (ns : List Node) (rs : List Held) (c : Config) → ResetsFit ns rs → RowsFit ns c → start_of ns rs (held_rows c 1 ns) ≡ c
unfolding start_of
start_held ns rs c fit z = ext_get_or [] (map_from 1 row ns) c (length_map_from 1 row ns ∙ sym z.rows) (λ j l. at_row j (omega (arith, length_map_from 1 row ns)))
  where
    other : ℕ → Node → List Trit
    other s n = held_or (silent_bits ns s (len_of n)) rs s

    other_length : (j : ℕ) → length (other (suc j) (get_or ns j no_node)) ≡ len_of (get_or ns j no_node)
    other_length j =
        held_length _ rs (suc j) (len_of (get_or ns j no_node)) (length-replicate (len_of (get_or ns j no_node)) _) (λ h m q. (fit h m).as_long ∙ ap (λ (k : ℕ). len_of (at ns k no_node)) q)

    row : ℕ → Node → List Trit
    row s n = held_or (other s n) (held_rows c 1 ns) s

    at_row : (j : ℕ) → j < length ns → get_or (map_from 1 row ns) j [] ≡ get_or c j []
    at_row j l =
        let q : 1 + j ≡ suc j = omega arith in
        at_map_from row ns (suc j) no_node [] (omega arith) l
        ∙ subst (λ (k : ℕ). held_or (other (suc j) (get_or ns j no_node)) (held_rows c 1 ns) k ≡ row_or (other (suc j) (get_or ns j no_node)) c (get_or ns j no_node) k) q (row_held _ c ns 1 j l)
        ∙ row_is _ c (get_or ns j no_node) (suc j) (other_length j) (z.each (suc j))
