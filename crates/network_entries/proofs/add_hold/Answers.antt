-- `network_entries::add_hold` meets its contract: a `hold` line is refused with 4 or 6 in this order as the model refuses it,
-- and otherwise the arrays represent the draft with this hold more.
-- Assumes nothing.
use lib.ListN.{length}
use Prim.Native.Nat.{◌≤◌}
use borrow.Author.Tests.{not-true, not-false, eq-eqb, ne_eqb}
use native.Mathlib.Omega.{arith}
use mathlib.Core.Path.{◌≡◌, refl, sym, ap, ◌∙◌}
use borrow.Author.Rules.{rules}
use Rattle.model.specs.Network.{len_of}
use Rattle.model.specs.Text.{trit}
use Rattle.network_path.specs.Layout.{node_at}
use Rattle.network_path.proofs.NodeLaws.{node_in}
use Rattle.network_line.specs.Line.{bits_in}
use Rattle.network_draft.proofs.GivenBits.{bits_in_length, by_hold_law}
use Rattle.network_draft.proofs.Representing.{represented_out, represented_len}
use Rattle.network_entries.proofs.AddingHolds.{unfit_none, unfit_length, fit, hold_4, hold_6, held_6, hold_added, with_hold_law}
use Rattle.network_entries.proofs.add_hold.Goals as goal

pub returns-then-not-t : goal.returns-then-not-t
returns-then-not-t c = λ steering d form w.
    let out = represented_out w ∙ not-true _ c.if-not-t.true in
    rw (c.at.ensures, hold_4 d c.args.n c.args.s (bits_in trit c.args.f.now) out) (refl, refl)

pub returns-in_default : goal.returns-in_default
returns-in_default c = let bs = bits_in trit c.args.f.now in
    λ steering d form w.
    let out = represented_out w ∙ not-false _ c.if-not-t.false in
    let unfit = unfit_none w c.args.s bs (represented_len w 0 c.args.s c.in_default.ensures.long) in
    rw (c.at-in_default.ensures, hold_6 d c.args.n c.args.s bs out unfit) (refl, refl)

pub returns-then-f-len : goal.returns-then-f-len
returns-then-f-len c = let bs = bits_in trit c.args.f.now in
    λ steering d form w.
    let out = represented_out w ∙ not-false _ c.if-not-t.false in
    let len = represented_len w c.in-Some.len c.args.s c.in-Some.ensures.long in
    let unfit = unfit_length w c.args.s bs (λ z. c.if-f-len.true (sym (bits_in_length trit c.args.f.now form) ∙ z ∙ len)) in
    rw (c.at-then-f-len.ensures, hold_6 d c.args.n c.args.s bs out unfit) (refl, refl)

pub returns-then-held-s-eq-BY_HOLD : goal.returns-then-held-s-eq-BY_HOLD
returns-then-held-s-eq-BY_HOLD c =
    let there = c.in-Some.ensures.there in
    let in-range : c.args.s ≤ 128 = omega (arith, there.2, c.requires.0.nodes_fit) in
    λ steering d form w.
    let len = represented_len w c.in-Some.len c.args.s c.in-Some.ensures.long in
    let many = bits_in_length trit c.args.f.now form ∙ c.if-f-len.false ∙ sym len in
    let fits = fit w c.args.s (bits_in trit c.args.f.now) (λ z. omega (arith, there.0, len, z)) many in
    let out = represented_out w ∙ not-false _ c.if-not-t.false in
    let again = sym (by_hold_law w c.args.s in-range) ∙ eq-eqb _ 1 c.if-held-s-eq-BY_HOLD.true in
    rw (c.at-then-held-s-eq-BY_HOLD.ensures, held_6 d c.args.n c.args.s (bits_in trit c.args.f.now) out fits again) (refl, refl)

pub store_start-requires : goal.store_start-requires
store_start-requires c =
    let there = c.in-Some.ensures.there in
    let its-length : length c.args.f.now ≡ len_of (node_at c.args.nodes.now c.args.s) = c.if-f-len.false ∙ c.in-Some.ensures.long ∙ ap len_of (node_in _ _ _ there.1 there.2) in
    (omega (arith, there.2, c.requires.0.nodes_fit), omega (arith, its-length, c.requires.1 _ there.1 there.2), search rules, search rules, search rules)

pub returns : goal.returns
returns c =
    let there = c.in-Some.ensures.there in
    let in-range : c.args.s ≤ 128 = omega (arith, there.2, c.requires.0.nodes_fit) in
    let its-length : length c.args.f.now ≡ len_of (node_at c.args.nodes.now c.args.s) = c.if-f-len.false ∙ c.in-Some.ensures.long ∙ ap len_of (node_in _ _ _ there.1 there.2) in
    let bs = bits_in trit c.args.f.now in
    let stored = c.store_start.ensures in
    λ steering d form w.
    let len = represented_len w c.in-Some.len c.args.s c.in-Some.ensures.long in
    let many = bits_in_length trit c.args.f.now form ∙ c.if-f-len.false ∙ sym len in
    let fits = fit w c.args.s bs (λ z. omega (arith, there.0, len, z)) many in
    let out = represented_out w ∙ not-false _ c.if-not-t.false in
    let fresh = sym (by_hold_law w c.args.s in-range) ∙ ne_eqb _ 1 c.if-held-s-eq-BY_HOLD.false in
    let is = hold_added d c.args.n c.args.s bs out fits fresh in
    rw (is, stored.bits_are, stored.known_are, stored.flags_are) (with_hold_law w c.args.s c.args.f.now form in-range its-length fresh is)
