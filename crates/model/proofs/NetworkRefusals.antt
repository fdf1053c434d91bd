-- The reader refuses only with the rows of the network's refusals.
-- Assumes nothing.
use mathlib.Core.Path.{◌≡◌, refl, sym, ap, ◌∙◌, subst}
use mathlib.Core.Bool.{Bool, true, false, cond, not}
use Rattle.std.specs.Prelude.{Option, None as none, Some as some}
use mathlib.Core.List.{List, [], ◌∷◌}
use Prim.Native.Nat.{ℕ, zero, suc, ◌+◌, ◌≤◌, ◌<◌}
use native.Mathlib.Omega.{arith}
use native.Mathlib.Nat.{not-suc-le-zero}
use lib.ListN.{length, get_or, drop}
use lib.Dec.{eqb, leb, ltb}
use borrow.Author.Tests.{ltb-true, eqb-false, not-true}
use Rattle.model.specs.Accepted.{WellFormed}
use Rattle.model.specs.Drafted.{EachNode, Stage, no_out, behind_out, Sound}
use Rattle.model.specs.Limits.{max_len}
use Rattle.model.specs.Network.{Node, segment, multiplexer, Target, Network, at, no_node, is_segment, len_of, total_bits, is_steering}
use Rattle.model.specs.NetworkText.{Reset, bad_reset, Line, node, out, hold, target, line_of, Draft, has_out, outside, add_node, bad_address, first_bad, out_if, add_out, fits_bits, is_held, add_hold, target_segment, fits_target, is_target, add_target, add_line, at_end, read_lines, network_of, if_starts, finish, no_lines, read_network}
use Rattle.model.specs.Path.{Walk, path, stop, bit_of, walk}
use Rattle.model.specs.Places.{behind_lines, IsLine, IsMux, IsWrongReset, NetworkRefusal, wrong_form, unended, out_of_bounds, too_large, too_long, out_of_order, out_missing, wrong_address, wrong_segment, target_steers, fifth_target, start_stops, wrong_reset}
use Rattle.model.specs.Result.{Result, refused}
use Rattle.model.specs.Text.{Bytes, line_end, parts, Trit}
use Rattle.model.proofs.Accepted.{draft_formed}
use Rattle.model.proofs.Ends.{Ends, gives, refuses, listed, ends_if, ends_then, line_at, is_line}
use Rattle.model.proofs.LineForms.{mux_bare}
use Rattle.model.proofs.Lists.{true_false, none_some, some_same}
use Rattle.model.proofs.PlanTexts.{parts_more}
use Rattle.model.proofs.Reading.{each_more, has_none, sound_line, sound_start}
use Rattle.model.proofs.Walking.{WalkFalls, walk_falls}

-- ---- where multiplexers are

-- the first bad address is a multiplexer's
record BadAt (n m : ℕ) (ns : List Node) : Type 0 where
  index : ℕ
  is : m ≡ n + index
  within : index < length ns
  mux : is_segment (get_or ns index no_node) ≡ false

bad_is_mux : (all : List Node) (x : Node) → bad_address all x ≡ true → is_segment x ≡ false
bad_is_mux all (segment from len shadow) e = sym e
bad_is_mux all (multiplexer s b ins) e = refl

bad_at : (all : List Node) (n m : ℕ) (ns : List Node) → first_bad all n ns ≡ some m → BadAt n m ns
unfolding first_bad
bad_at all n m [] e = absurd (none_some m e)
bad_at all n m (x ∷ ns) e = go (bad_address all x) refl e (λ f. bad_at all (suc n) m ns f)
  where
    go : (t : Bool) → bad_address all x ≡ t → cond t (some n) (first_bad all (suc n) ns) ≡ some m → (first_bad all (suc n) ns ≡ some m → BadAt (suc n) m ns) → BadAt n m (x ∷ ns)
    go true q f rest = let z : n ≡ m = some_same n m f in record { index = 0; is = omega arith; within = omega arith; mux = bad_is_mux all x q }
    go false q f rest = let r = rest f in record { index = suc r.index; is = omega arith; within = omega arith; mux = r.mux }

module _ (t : Bytes) where
  -- node k stands on line k
  abbrev OnLine : ℕ → Node → Type 0
  OnLine k x = (v : Reset) × (line_of (at (parts line_end t) k []) ≡ some (node x v))

  abbrev NodesOn : List Node → Type 0
  NodesOn ns = EachNode OnLine ns

  mux_line_law : (ns : List Node) → NodesOn ns → (i : ℕ) → i < length ns → is_segment (get_or ns i no_node) ≡ false → IsMux t (suc i)
  mux_line_law ns on i l f = go (get_or ns i no_node) f (on i l)
    where
      go : (x : Node) → is_segment x ≡ false → OnLine (suc i) x → IsMux t (suc i)
      go (segment from len shadow) f e = absurd (true_false f)
      go (multiplexer s b ins) f (v, e) = record { seg = s; bit = b; inputs = ins; says = e ∙ ap (λ (w : Reset). some (node (multiplexer s b ins) w)) (mux_bare _ s b ins v e) }

  -- ---- one line

  reset_line : (n : ℕ) (x : Node) (v : Reset) → line_of (at (parts line_end t) n []) ≡ some (node x v) → bad_reset x v ≡ true → IsWrongReset t n
  reset_line n x none e b = absurd (true_false (sym b))
  reset_line n (segment from len shadow) (some bs) e b =
      record { from = from; len = len; shadow = shadow; reset = bs; says = e; wrong = eqb-false (length bs) len (not-true (eqb (length bs) len) b) }
  reset_line n (multiplexer s a ins) (some bs) e b = absurd (none_some bs (sym (mux_bare _ s a ins (some bs) e)))

  abbrev Keeps : Result Draft → Type 0
  Keeps r = Ends (NetworkRefusal t) (λ (d : Draft). NodesOn d.nodes) r

  module _ (d : Draft) (n : ℕ) (l : IsLine t n) (on : NodesOn d.nodes) where
    node_ends : (x : Node) (v : Reset) → Sound d n → line_of (at (parts line_end t) n []) ≡ some (node x v) → Keeps (add_node max_len d n x v)
    unfolding add_node
    node_ends x v s e =
        ends_if (has_out d) 4 n _ (λ h. out_of_order l)
        (λ h. ends_if (outside max_len n x) 2 n _ (λ h. out_of_bounds l)
        (λ _. ends_if (bad_reset x v) 18 n _ (λ h. wrong_reset (reset_line n x v e h))
        (λ _. ends_if (leb 128 (length d.nodes)) 3 n _ (λ h. too_large l)
        (λ _. ends_if (ltb 4000 (total_bits d.nodes + len_of x)) 3 n _ (λ h. too_large l)
        (λ _. gives (each_more OnLine d.nodes x on (subst (λ (k : ℕ). OnLine k x) (next h s.stage) (v, e))))))))
      where
        next : has_out d ≡ false → Stage d n → n ≡ suc (length d.nodes)
        next h (no_out q m hs ts) = m
        next h (behind_out k q z y u w) = absurd (has_none d k q h)

    out_ends : (k : ℕ) → Keeps (add_out d n k)
    unfolding add_out
    out_ends k =
        ends_if (has_out d) 4 n _ (λ h. out_of_order l)
        (λ h. ends_if (ltb (length d.nodes) k) 2 n _ (λ h. out_of_bounds l)
        (λ h. go (first_bad d.nodes 1 d.nodes) refl))
      where
        go : (o : Option ℕ) → first_bad d.nodes 1 d.nodes ≡ o → Keeps (out_if d k o)
        go none q = gives on
        go (some m) q =
            let b = bad_at d.nodes 1 m d.nodes q in
            let e : suc b.index ≡ m = omega arith in
            refuses (wrong_address (subst (IsMux t) e (mux_line_law d.nodes on b.index b.within b.mux)))

    hold_ends : (s : ℕ) (bs : List Trit) → Keeps (add_hold d n s bs)
    unfolding add_hold
    hold_ends s bs =
        ends_if (not (has_out d)) 4 n _ (λ h. out_of_order l)
        (λ h. ends_if (not (fits_bits d.nodes s bs)) 6 n _ (λ h. wrong_segment l)
        (λ h. ends_if (is_held d.holds s) 6 n _ (λ h. wrong_segment l) (λ h. gives on)))

    target_ends : (x : Target) → Keeps (add_target d n x)
    unfolding add_target
    target_ends x =
        ends_if (not (has_out d)) 4 n _ (λ h. out_of_order l)
        (λ h. ends_if (not (fits_target d.nodes x)) 6 n _ (λ h. wrong_segment l)
        (λ h. ends_if (is_target d.targets x) 6 n _ (λ h. wrong_segment l)
        (λ h. ends_if (is_steering d.nodes (target_segment x)) 7 n _ (λ h. target_steers l)
        (λ h. ends_if (leb 4 (length d.targets)) 8 n _ (λ h. fifth_target l) (λ h. gives on)))))

    line_ends : (o : Option Line) → Sound d n → line_of (at (parts line_end t) n []) ≡ o → Keeps (add_line max_len d n o)
    line_ends none s e = refuses (wrong_form l)
    line_ends (some (node x v)) s e = node_ends x v s e
    line_ends (some (out k)) s e = out_ends k
    line_ends (some (hold j bs)) s e = hold_ends j bs
    line_ends (some (target x)) s e = target_ends x

  -- ---- the lines in turn

  record Read (r : ℕ × Draft) : Type 0 where
    behind : r.0 ≡ behind_lines t
    sound : Sound r.1 r.0
    on : NodesOn r.1.nodes

  lines_end : (l : Bytes) (ls : List Bytes) (m : ℕ) (d : Draft) → drop m (parts line_end t) ≡ l ∷ ls → Sound d (suc m) → NodesOn d.nodes
      → Ends (NetworkRefusal t) Read (read_lines max_len d (suc m) (l ∷ ls))
  unfolding read_lines
  lines_end l [] m d e s on = last l (omega (arith, (line_at t m l [] e).count))
    where
      last : (l : Bytes) → suc m ≡ behind_lines t → Ends (NetworkRefusal t) Read (at_end (suc m, d) 1 l (suc m))
      last [] c = gives record { behind = c; sound = s; on = on }
      last (b ∷ bs) c = refuses (subst (NetworkRefusal t 1) (sym c) unended)
  lines_end l (k ∷ ls) m d e s on =
      let a = line_at t m l (k ∷ ls) e in
      ends_then _ (line_ends d (suc m) (is_line t m l k ls a) on (line_of l) s (ap line_of a.here))
      (λ f g on'. lines_end k ls (suc m) f a.rest (sound_line d f (suc m) l s g) on')

  -- ---- the end

  abbrev Ended : Result Network → Type 0
  Ended r = Ends (NetworkRefusal t) (λ (net : Network). Unit {0}) r

  starts_end : (net : Network) → WellFormed net → NodesOn net.nodes → (w : Walk) → walk net net.start ≡ w → Ended (if_starts net w)
  starts_end net wf on (path p) e = gives tt
  starts_end net wf on (stop m) e = go m (rw e at (walk_falls net.nodes wf.backwards (bit_of net.start) net.out net.out wf.ends))
    where
      go : (m : ℕ) → WalkFalls net.nodes (suc net.out) (stop m) → Ended (refused 9 m)
      go zero f = absurd (not-suc-le-zero f.0)
      go (suc i) f = refuses (start_stops (mux_line_law net.nodes on i (let a : suc i < suc net.out = f.1 in let b = wf.ends in omega arith) f.2))

  finish_ends : (n : ℕ) (d : Draft) → Read (n, d) → (o : Option ℕ) → d.feeds ≡ o → Ended (finish n d o)
  finish_ends n d r none e = refuses (subst (NetworkRefusal t 4) (sym r.behind) out_missing)
  finish_ends n d r (some k) e = starts_end (network_of d k) (draft_formed d n k r.sound e) r.on (walk (network_of d k) (network_of d k).start) refl

  pub network_ends : Ended (read_network t)
  unfolding read_network
  network_ends =
      let p = parts_more line_end t in
      let lines : Ends (NetworkRefusal t) Read (read_lines max_len no_lines 1 (parts line_end t)) =
      rw p.2 (lines_end p.0 p.1 0 no_lines p.2 sound_start (λ i l. absurd (not-suc-le-zero l))) in
      ends_if (ltb 16384 (length t)) 3 0 _ (λ h. too_long (ltb-true 16384 (length t) h))
      (λ h. ends_then _ lines (λ r e x. finish_ends r.0 r.1 x r.1.feeds refl))

-- ---- none of 10 to 13

pub own_number : {t : Bytes} {number place : ℕ} → NetworkRefusal t number place → 10 ≤ number → number ≤ 13 → ⊥
own_number (wrong_form l) a b = omega arith
own_number unended a b = omega arith
own_number (out_of_bounds l) a b = omega arith
own_number (too_large l) a b = omega arith
own_number (too_long l) a b = omega arith
own_number (out_of_order l) a b = omega arith
own_number out_missing a b = omega arith
own_number (wrong_address l) a b = omega arith
own_number (wrong_segment l) a b = omega arith
own_number (target_steers l) a b = omega arith
own_number (fifth_target l) a b = omega arith
own_number (start_stops l) a b = omega arith
own_number (wrong_reset l) a b = omega arith

pub network_number : (n : Bytes) (number place : ℕ) → read_network n ≡ refused number place → 10 ≤ number → number ≤ 13 → ⊥
network_number n number place e = let l = listed (network_ends n) in own_number (rw e at l)
