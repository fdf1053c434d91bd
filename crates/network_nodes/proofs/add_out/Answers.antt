-- `network_nodes::add_out` meets its contract: an `out` line is refused with 4, 2 or 5 in this order as the model refuses it,
-- and otherwise the arrays represent the draft with its `out`.
-- Assumes nothing.
use lib.ListN.{length}
use mathlib.Core.List.{List}
use Prim.Native.Nat.{◌≤◌, ◌<◌}
use native.Mathlib.Omega.{arith}
use mathlib.Core.Path.{refl, sym, ap, ◌∙◌}
use Rattle.model.specs.NetworkText.{first_bad}
use Rattle.model.specs.Network.{Node}
use Rattle.network_draft.proofs.Representing.{represented_out, represented_count}
use Rattle.network_nodes.proofs.AddingOut.{out_4, out_2, out_5, out_added, fed}
use Rattle.network_nodes.proofs.add_out.Goals as goal

pub returns-then-t : goal.returns-then-t
returns-then-t c = λ bits known steering held d w.
    rw (c.at.ensures, out_4 d c.args.n c.args.k (represented_out w ∙ c.if-t.true)) (refl, refl)

pub returns-then-t-k : goal.returns-then-t-k
returns-then-t-k c = λ bits known steering held d w.
    let beyond : length d.nodes < c.args.k = omega (arith, represented_count w) in
    rw (c.at-then-t-k.ensures, out_2 d c.args.n c.args.k (represented_out w ∙ c.if-t.false) beyond) (refl, refl)

pub first_bad-requires : goal.first_bad-requires
first_bad-requires c = (omega (arith, c.requires.0.nodes_fit), c.requires.1)

pub returns-in-Some : goal.returns-in-Some
returns-in-Some c = λ bits known steering held d w.
    let there : c.args.k ≤ length d.nodes = omega (arith, represented_count w) in
    let first = sym c.in-Some.is ∙ c.first_bad.ensures ∙ ap (λ (ns : List Node). first_bad ns 1 ns) w.nodes_are in
    rw (c.at-in-Some.ensures, out_5 d c.args.n c.args.k (represented_out w ∙ c.if-t.false) there _ first) (refl, refl)

pub returns : goal.returns
returns c = λ bits known steering held d w.
    let there : c.args.k ≤ length d.nodes = omega (arith, represented_count w) in
    let first = sym c.in_default.is ∙ c.first_bad.ensures ∙ ap (λ (ns : List Node). first_bad ns 1 ns) w.nodes_are in
    let is = out_added d c.args.n c.args.k (represented_out w ∙ c.if-t.false) there first in
    rw is (fed w c.args.k is)
