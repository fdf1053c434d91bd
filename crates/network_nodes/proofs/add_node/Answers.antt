-- `network_nodes::add_node` meets its contract: a node line is refused with 4, 2, 18 or 3 in this order as the model refuses it,
-- and otherwise the arrays represent the draft with this node and its RESET more.
-- Assumes nothing.
use mathlib.Core.Path.{refl, sym, ap, ◌∙◌}
use Prim.Native.Nat.{◌+◌, ◌≤◌, ◌<◌}
use native.Mathlib.Omega.{arith}
use lib.ListN.{length}
use borrow.Author.Rules.{rules}
use Rattle.model.specs.Network.{len_of, total_bits}
use Rattle.network_line.specs.Line.{node_for, reset_in}
use Rattle.network_draft.specs.Store.{unfit_reset}
use Rattle.network_draft.proofs.Nodes.{numbers_size}
use Rattle.network_draft.proofs.Representing.{represented_out, represented_count}
use Rattle.network_nodes.proofs.AddingNodes.{node_4, node_2, reset_18, node_3, bits_3, node_added, reset_unfit, good_form, short_reset, longer}
use Rattle.network_nodes.proofs.add_node.Goals as goal

pub returns-then-t : goal.returns-then-t
returns-then-t c = λ d form w.
    rw (c.at.ensures, node_4 d c.args.n (node_for c.args.x) (reset_in c.args.reset.now) (represented_out w ∙ c.if-t.true)) (refl, refl)

pub returns-then-is_outside : goal.returns-then-is_outside
returns-then-is_outside c = λ d form w.
    let no-out = represented_out w ∙ c.if-t.false in
    rw (c.at-then-is_outside.ensures, node_2 d c.args.n (node_for c.args.x) (reset_in c.args.reset.now) no-out (sym c.is_outside.ensures ∙ c.if-is_outside.true)) (refl, refl)

pub returns-then-is_unfit : goal.returns-then-is_unfit
returns-then-is_unfit c =
    let inside = sym c.is_outside.ensures ∙ c.if-is_outside.false in
    let unfit = ap (unfit_reset (length c.args.reset.now)) (sym c.bits_of-len.ensures) ∙ sym c.is_unfit.ensures in
    λ d form w.
    let no-out = represented_out w ∙ c.if-t.false in
    let bad = reset_unfit (node_for c.args.x) c.args.reset.now form ∙ unfit ∙ c.if-is_unfit.true in
    rw (c.at-then-is_unfit.ensures, reset_18 d c.args.n (node_for c.args.x) (reset_in c.args.reset.now) no-out inside bad) (refl, refl)

pub returns-then-t-ge-MAX_NODES : goal.returns-then-t-ge-MAX_NODES
returns-then-t-ge-MAX_NODES c =
    let inside = sym c.is_outside.ensures ∙ c.if-is_outside.false in
    let unfit = ap (unfit_reset (length c.args.reset.now)) (sym c.bits_of-len.ensures) ∙ sym c.is_unfit.ensures in
    λ d form w.
    let no-out = represented_out w ∙ c.if-t.false in
    let fit = reset_unfit (node_for c.args.x) c.args.reset.now form ∙ unfit ∙ c.if-is_unfit.false in
    let many : 128 ≤ length d.nodes = omega (arith, represented_count w) in
    rw (c.at-then-t-ge-MAX_NODES.ensures, node_3 d c.args.n (node_for c.args.x) (reset_in c.args.reset.now) no-out inside fit many) (refl, refl)

pub returns-then-t-len : goal.returns-then-t-len
returns-then-t-len c =
    let inside = sym c.is_outside.ensures ∙ c.if-is_outside.false in
    let unfit = ap (unfit_reset (length c.args.reset.now)) (sym c.bits_of-len.ensures) ∙ sym c.is_unfit.ensures in
    λ d form w.
    let no-out = represented_out w ∙ c.if-t.false in
    let fit = reset_unfit (node_for c.args.x) c.args.reset.now form ∙ unfit ∙ c.if-is_unfit.false in
    let few : length d.nodes < 128 = omega (arith, represented_count w) in
    let long : 4000 < total_bits d.nodes + len_of (node_for c.args.x) = omega (arith, w.total_is, c.bits_of-len.ensures) in
    rw (c.at-then-t-len.ensures, bits_3 d c.args.n (node_for c.args.x) (reset_in c.args.reset.now) no-out inside fit few long) (refl, refl)

pub store_numbers-requires : goal.store_numbers-requires
store_numbers-requires c =
    (search rules, search rules, rw c.numbers_of.ensures (numbers_size (node_for c.args.x)))

pub store_start-requires : goal.store_start-requires
store_start-requires c =
    let inside = sym c.is_outside.ensures ∙ c.if-is_outside.false in
    let unfit = ap (unfit_reset (length c.args.reset.now)) (sym c.bits_of-len.ensures) ∙ sym c.is_unfit.ensures in
    (omega arith, short_reset c.args.n (node_for c.args.x) _ inside (unfit ∙ c.if-is_unfit.false), search rules, search rules, search rules)

pub returns : goal.returns
returns c =
    let inside = sym c.is_outside.ensures ∙ c.if-is_outside.false in
    let unfit = ap (unfit_reset (length c.args.reset.now)) (sym c.bits_of-len.ensures) ∙ sym c.is_unfit.ensures in
    let x = node_for c.args.x in
    let stored = c.store_start.ensures in
    λ d form w.
    let no-out = represented_out w ∙ c.if-t.false in
    let fits = unfit ∙ c.if-is_unfit.false in
    let few : length d.nodes < 128 = omega (arith, represented_count w) in
    let short : total_bits d.nodes + len_of x ≤ 4000 = omega (arith, w.total_is, c.bits_of-len.ensures) in
    rw (
      node_added d c.args.n x (reset_in c.args.reset.now) no-out inside (reset_unfit x c.args.reset.now form ∙ fits) few short,
      c.bits_of-len.ensures,
      stored.bits_are,
      stored.known_are,
      stored.flags_are,
      c.reset_flag.ensures,
    )
    (longer w x (good_form c.args.x c.requires.0) c.args.reset.now form _ _
    (rw c.numbers_of.ensures at c.store_numbers.ensures) c.mark_steering.ensures no-out inside fits (search rules) short)
