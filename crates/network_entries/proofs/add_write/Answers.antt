-- `network_entries::add_write` meets its contract: a `write` line is refused with 4 or 6 in this order as the model refuses it,
-- and otherwise answers as `add_target` does.
-- Assumes nothing.
use lib.ListN.{length}
use borrow.Author.Tests.{not-true, not-false}
use native.Mathlib.Omega.{arith}
use mathlib.Core.Path.{◌≡◌, refl, sym, ap, ◌∙◌}
use Rattle.model.specs.Network.{write, len_of}
use Rattle.model.specs.Text.{bit}
use Rattle.network_words.proofs.FieldLaws.{word_of_bits_law}
use Rattle.network_path.specs.Layout.{node_at}
use Rattle.network_path.proofs.NodeLaws.{node_in}
use Rattle.network_line.specs.Line.{bits_in}
use Rattle.network_draft.proofs.Representing.{represented_out, represented_len}
use Rattle.network_draft.proofs.GivenBits.{bits_in_length, bits_are}
use Rattle.network_entries.proofs.AddingTargets.{target_4, target_6, target_rest}
use Rattle.network_entries.proofs.AddingHolds.{unfit_none, unfit_length, fit}
use Rattle.network_entries.proofs.add_write.Goals as goal

pub returns-then-not-t : goal.returns-then-not-t
returns-then-not-t c = λ bits known held d form w.
    let out = represented_out w ∙ not-true _ c.if-not-t.true in
    rw (c.at.ensures, target_4 d c.args.n (write c.args.s (bits_in bit c.args.f.now)) out) (refl, refl)

pub returns-in_default : goal.returns-in_default
returns-in_default c = let bs = bits_in bit c.args.f.now in
    λ bits known held d form w.
    let out = represented_out w ∙ not-false _ c.if-not-t.false in
    let unfit = unfit_none w c.args.s bs (represented_len w 0 c.args.s c.in_default.ensures.long) in
    rw (c.at-in_default.ensures, target_6 d c.args.n (write c.args.s bs) out unfit) (refl, refl)

pub returns-then-f-len : goal.returns-then-f-len
returns-then-f-len c = let bs = bits_in bit c.args.f.now in
    λ bits known held d form w.
    let out = represented_out w ∙ not-false _ c.if-not-t.false in
    let len = represented_len w c.in-Some.len c.args.s c.in-Some.ensures.long in
    let unfit = unfit_length w c.args.s bs (λ z. c.if-f-len.true (sym (bits_in_length bit c.args.f.now form) ∙ z ∙ len)) in
    rw (c.at-then-f-len.ensures, target_6 d c.args.n (write c.args.s bs) out unfit) (refl, refl)

pub words_of-requires : goal.words_of-requires
words_of-requires c =
    let there = c.in-Some.ensures.there in
    let its-length : length c.args.f.now ≡ len_of (node_at c.args.nodes.now c.args.s) = c.if-f-len.false ∙ c.in-Some.ensures.long ∙ ap len_of (node_in _ _ _ there.1 there.2) in
    omega (arith, its-length, c.requires.1 _ there.1 there.2)

pub add_target-requires : goal.add_target-requires
add_target-requires c =
    let p = c.requires.0 in
    (p, omega (arith, c.in-Some.ensures.there.2, p.nodes_fit))

pub returns : goal.returns
returns c =
    let there = c.in-Some.ensures.there in
    let its-length : length c.args.f.now ≡ len_of (node_at c.args.nodes.now c.args.s) = c.if-f-len.false ∙ c.in-Some.ensures.long ∙ ap len_of (node_in _ _ _ there.1 there.2) in
    let bs = bits_in bit c.args.f.now in
    λ bits known held d form w.
    let out = represented_out w ∙ not-false _ c.if-not-t.false in
    let len = represented_len w c.in-Some.len c.args.s c.in-Some.ensures.long in
    let many = bits_in_length bit c.args.f.now form ∙ c.if-f-len.false ∙ sym len in
    let fits = fit w c.args.s bs (λ z. omega (arith, there.0, len, z)) many in
    rw (target_rest d c.args.n (write c.args.s bs) out fits)
    (c.add_target.ensures c.args.nodes.now bits known held bs d out fits
    (c.words_of.ensures.0 ∙ word_of_bits_law c.args.f.now bs (bits_are bit c.args.f.now form), bits_in_length bit c.args.f.now form ∙ its-length) w)
