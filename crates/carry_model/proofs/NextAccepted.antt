-- Document 02, Change 3: the node lines and the `out` line of the first text, the printed lines, and target lines behind them, are an accepted text.
-- Assumes nothing.
use mathlib.Core.Path.{◌≡◌, refl, sym, ap, ◌∙◌, subst}
use mathlib.Core.Bool.{Bool, true, false, not, ◌||◌}
use mathlib.Core.List.Memᴰ
use mathlib.Core.List.{List, [], ◌++◌, map, append-nil, Memᴰ}
use Prim.Native.Nat.{ℕ, ◌+◌, ◌*◌, ◌≤◌}
use native.Mathlib.Omega.{arith}
use lib.ListN.{length, length-append}
use borrow.Author.Tests.{le-ltb}
use Rattle.model.specs.Accepted.{Accepted}
use Rattle.model.specs.Drafted.{ResetsFit}
use Rattle.model.specs.Limits.{max_targets, max_network_bytes, max_len}
use Rattle.model.specs.Network.{Node, Target, Config, Network, total_bits, Held, start_of}
use Rattle.model.specs.NetworkText.{Draft, is_some, has_out, read_lines, network_of, if_starts, finish, no_lines, read_network}
use Rattle.model.specs.Path.{walk}
use Rattle.model.specs.Plan.{Plan}
use Rattle.model.specs.Result.{Result, ok, refuse_if, and_then}
use Rattle.model.specs.Text.{Bytes, line_end, parts, lines_of}
use Rattle.model.proofs.Accepted.{accepted}
use Rattle.model.proofs.AddedLines.{add_all, read_ended, add_append, lines_added}
use Rattle.model.proofs.Lists.{Every, every_append, every_map}
use Rattle.model.proofs.PlanTexts.{Free}
use Rattle.model.proofs.Reading.{Source, source}
use Rattle.carry_model.specs.Carry.{left_by}
use Rattle.carry_model.specs.Continued.{lines_where, text_of_lines, is_target_line, is_wiring, NextText, next_text, StartAccepted, TargetsAccepted}
use Rattle.carry_model.specs.Restart.{restarted}
use Rattle.carry_model.proofs.Carried.{Carried, carried_of, left_bytes}
use Rattle.carry_model.proofs.HeldStart.{rows_read, start_held}
use Rattle.carry_model.proofs.HoldText.{held_line, held_hold, held_no_end, held_rows, held_text, held_lines}
use Rattle.carry_model.proofs.LeftConfig.{RowsFit, left_sized, valid_last}
use Rattle.carry_model.proofs.LinesByKind.{with_holds, with_targets, bare, wiring_apart, targets_apart}
use Rattle.carry_model.proofs.NextStart.{source_nodes, source_feeds, same_nodes}
use Rattle.carry_model.proofs.TextLengths.{wiring_bytes, len_most, target_bytes}
use Rattle.carry_model.proofs.TextLines.{text_append, text_parts, text_lines, lines_free, where_append, every_where, where_pass, where_all, where_none}

module _ (n held : Bytes) (net : Network) (plan : Plan) (is : read_network n ≡ ok net) (printed : Carried net plan held) where
  abbrev wiring : List Bytes
  wiring = lines_where is_wiring (lines_of n)

  abbrev left : Config
  left = left_by net plan

  abbrev rows : List Held
  rows = held_rows left 1 net.nodes

  acc : Accepted net
  acc = accepted n net is

  from : Source n net
  from = source n net is

  sized : RowsFit net.nodes left
  sized = left_sized net acc.wf plan printed.valid.valid

  -- ---- the lines

  wiring_free : Every (Free line_end) wiring
  wiring_free = every_where (Free line_end) is_wiring (lines_of n) (lines_free n)

  rows_free : Every (Free line_end) (map held_line rows)
  rows_free = every_map (Free line_end) held_line held_no_end rows

  next_is : next_text n held ≡ text_of_lines (wiring ++ map held_line rows)
  next_is = ap (λ (t : Bytes). text_of_lines wiring ++ t) (printed.text ∙ held_text left 1 net.nodes) ∙ sym (text_append wiring (map held_line rows))

  next_lines : lines_of (next_text n held) ≡ wiring ++ map held_line rows
  next_lines = ap lines_of next_is ∙ text_lines (wiring ++ map held_line rows) (every_append (Free line_end) wiring (map held_line rows) wiring_free rows_free)

  next_text_law : NextText n held (next_text n held)
  next_text_law = record {
    agree = ap (lines_where is_wiring) next_lines ∙ where_append is_wiring wiring (map held_line rows)
        ∙ ap (λ (ls : List Bytes). ls ++ lines_where is_wiring (map held_line rows)) (where_all is_wiring wiring (where_pass is_wiring (lines_of n)))
        ∙ ap (λ (ls : List Bytes). wiring ++ ls)
        (where_none is_wiring (map held_line rows) (every_map (λ l. is_wiring l ≡ false) held_line (λ h. ap (λ (t : Bool). not (t || is_target_line (held_line h))) (held_hold h)) rows))
        ∙ append-nil wiring;
    holds = λ l m. subst (Memᴰ l) (sym next_lines) (Memᴰ.append_right wiring (subst (Memᴰ l) (ap lines_of printed.text ∙ held_lines left 1 net.nodes) m));
  }

  -- ---- reading them, and target lines behind them

  abbrev nodes_and_out : Draft
  nodes_and_out = bare from.draft

  abbrev filled : Draft
  filled = with_holds nodes_and_out rows

  has : has_out nodes_and_out ≡ true
  has = ap is_some from.fed

  nodes_are : nodes_and_out.nodes ≡ net.nodes
  nodes_are = source_nodes n net from

  wiring_adds : (m : ℕ) × (add_all no_lines 1 wiring ≡ ok (m, nodes_and_out))
  wiring_adds = wiring_apart (from.behind, from.draft) (lines_of n) (lines_added n net from)

  -- what target lines must be
  record TargetLines (asked : List Bytes) (ts : List Target) : Type 0 where
    free : Every (Free line_end) asked
    adds : (m : ℕ) → (k : ℕ) × (add_all filled m asked ≡ ok (k, with_targets filled ts))
    short : length (text_of_lines asked) ≤ max_targets * (12 + max_len)

  module _ (asked : List Bytes) (ts : List Target) (behind : TargetLines asked ts) where
    abbrev text : Bytes
    text = next_text n held ++ text_of_lines asked

    abbrev lines : List Bytes
    lines = (wiring ++ map held_line rows) ++ asked

    text_is : text ≡ text_of_lines lines
    text_is = ap (λ (t : Bytes). t ++ text_of_lines asked) next_is ∙ sym (text_append (wiring ++ map held_line rows) asked)

    all_free : Every (Free line_end) lines
    all_free = every_append (Free line_end) (wiring ++ map held_line rows) asked (every_append (Free line_end) wiring (map held_line rows) wiring_free rows_free) behind.free

    all_added : (k : ℕ) × (read_lines max_len no_lines 1 (parts line_end text) ≡ ok (k, with_targets filled ts))
    all_added =
        let a = wiring_adds in
        let b = rows_read net acc left sized nodes_and_out nodes_are has a.0 in
        let c : add_all no_lines 1 (wiring ++ map held_line rows) ≡ ok (b.0, filled) =
        add_append wiring (map held_line rows) no_lines nodes_and_out 1 a.0 a.1 ∙ ap (add_all nodes_and_out a.0) (sym (held_lines left 1 net.nodes)) ∙ b.1 in
        let d = behind.adds b.0 in (
          d.0,
          ap (λ (t : Bytes). read_lines max_len no_lines 1 (parts line_end t)) text_is ∙ ap (read_lines max_len no_lines 1) (text_parts lines all_free) ∙ read_ended lines no_lines 1
              ∙ add_append (wiring ++ map held_line rows) asked no_lines filled 1 b.0 c ∙ d.1,
        )

    short : length text ≤ max_network_bytes
    short =
        let a = wiring_bytes wiring no_lines 1 net.out (wiring_adds.0, nodes_and_out) (where_pass is_wiring (lines_of n)) wiring_adds.1 (source_feeds n net from) in
        let b = left_bytes n net plan is printed.valid in
        let c = ap length printed.text in
        let d = ap length nodes_are in
        let e = ap total_bits nodes_are in
        let f = acc.few_nodes in
        let g = acc.few_bits in
        omega (arith, length-append (next_text n held) (text_of_lines asked), length-append (text_of_lines wiring) held, behind.short)

    start_left : start_of nodes_and_out.nodes nodes_and_out.resets rows ≡ left
    start_left =
        ap (λ (ns : List Node). start_of ns nodes_and_out.resets rows) nodes_are
        ∙ start_held net.nodes nodes_and_out.resets left (subst (λ (ns : List Node). ResetsFit ns nodes_and_out.resets) nodes_are from.sound.sound.resets_fit) sized

    network_is : network_of (with_targets filled ts) net.out ≡ restarted net left ts
    network_is = λ i. record { nodes = nodes_are i; out = net.out; start = start_left i; targets = ts }

    reads : read_network text ≡ ok (restarted net left ts)
    unfolding read_network
    reads =
        ap (λ (t : Bool). refuse_if t 3 0 (and_then (read_lines max_len no_lines 1 (parts line_end text)) (λ r. finish r.0 r.1 r.1.feeds))) (le-ltb max_network_bytes (length text) short)
        ∙ ap (λ (x : Result (ℕ × Draft)). and_then x (λ r. finish r.0 r.1 r.1.feeds)) all_added.1
        ∙ ap (finish all_added.0 (with_targets filled ts)) (source_feeds n net from)
        ∙ ap (λ (w : Network). if_starts w (walk w w.start)) network_is
        ∙ ap (if_starts (restarted net left ts)) (valid_last net plan net.start printed.valid.valid)

  none_behind : TargetLines [] []
  unfolding add_all text_of_lines
  none_behind = record { free = tt; adds = λ m. (m, refl); short = omega arith }

pub next_accepted : StartAccepted
unfolding text_of_lines
next_accepted n p held net plan e is reads' =
    let c = carried_of n p held net plan e is reads' in
    record { next = next_text_law n held net plan is c; accepted = ap read_network (sym (append-nil (next_text n held))) ∙ reads n held net plan is c [] [] (none_behind n held net plan is c) }

pub targets_behind : TargetsAccepted
targets_behind n p held n'' net net'' plan e is reads' agree is'' = reads n held net plan is c asked net''.targets record {
  free = every_where (Free line_end) is_target_line (lines_of n'') (lines_free n'');
  adds = adds;
  short = let k = adds 0 in let t = (accepted n'' net'' is'').targets_fit.most in omega (arith, target_bytes net.nodes (len_most net (accepted n net is).wf) asked base 0 _ (where_pass is_target_line (lines_of n'')) nodes k.1);
}
  where
    c : Carried net plan held
    c = carried_of n p held net plan e is reads'

    asked : List Bytes
    asked = lines_where is_target_line (lines_of n'')

    b : Source n'' net''
    b = source n'' net'' is''

    base : Draft
    base = filled n held net plan is c

    nodes : base.nodes ≡ net.nodes
    nodes = nodes_are n held net plan is c

    adds : (m : ℕ) → (k : ℕ) × (add_all base m asked ≡ ok (k, with_targets base net''.targets))
    adds m =
        let r = targets_apart (b.behind, b.draft) base (nodes ∙ same_nodes n n'' net net'' (source n net is) b agree ∙ sym (source_nodes n'' net'' b)) (has n held net plan is c) (lines_of n'') m (lines_added n'' net'' b) in
        (r.0, r.1 ∙ ap (λ (w : Network). ok (r.0, with_targets base w.targets)) b.is)
