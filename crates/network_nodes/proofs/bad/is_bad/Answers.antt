-- `network_nodes::bad::is_bad` meets its contract: it tells a multiplexer whose address is not within a segment with shadow, test by test.
-- Assumes nothing.
use mathlib.Core.Path.{sym, ◌∙◌}
use native.Mathlib.Omega.{arith}
use Rattle.network_nodes.proofs.BadAddresses.{bad_segment, bad_zero, bad_beyond, bad_plain, bad_one, bad_empty, bad_two}
use Rattle.network_nodes.proofs.bad.is_bad.Goals as goal

pub returns-then-kind-lt2 : goal.returns-then-kind-lt2
returns-then-kind-lt2 c = bad_segment c.args.nodes.now c.args.count c.args.k (omega (arith, c.field-kind.ensures))

pub returns-then-seg-lt1 : goal.returns-then-seg-lt1
returns-then-seg-lt1 c = bad_zero c.args.nodes.now c.args.count c.args.k (omega (arith, c.field-kind.ensures)) (omega (arith, c.field-seg.ensures))

pub returns-then-count-seg : goal.returns-then-count-seg
returns-then-count-seg c = bad_beyond c.args.nodes.now c.args.count c.args.k (omega (arith, c.field-kind.ensures)) (omega (arith, c.field-seg.ensures))

pub returns-then-field-ne1 : goal.returns-then-field-ne1
returns-then-field-ne1 c =
    let kind = rw c.field-seg.ensures at c.field.ensures in
    bad_plain c.args.nodes.now c.args.count c.args.k (omega (arith, c.field-kind.ensures)) (omega (arith, c.field-seg.ensures)) (omega (arith, c.field-seg.ensures))
    (λ z. c.if-field-ne1.true (kind ∙ z))

pub returns-then-kind-eq2 : goal.returns-then-kind-eq2
returns-then-kind-eq2 c =
    let kind = rw c.field-seg.ensures at c.field.ensures in
    let len = rw c.field-seg.ensures at c.field-len.ensures in
    rw (len, c.field-bit.ensures)
    (bad_one c.args.nodes.now c.args.count c.args.k (omega (arith, c.field-kind.ensures)) (omega (arith, c.field-seg.ensures)) (omega (arith, c.field-seg.ensures))
    (sym kind ∙ c.if-field-ne1.false) (sym c.field-kind.ensures ∙ c.if-kind-eq2.true))

pub returns-then-len-eq0 : goal.returns-then-len-eq0
returns-then-len-eq0 c =
    let kind = rw c.field-seg.ensures at c.field.ensures in
    let len = rw c.field-seg.ensures at c.field-len.ensures in
    bad_empty c.args.nodes.now c.args.count c.args.k (omega (arith, c.field-kind.ensures)) (omega (arith, c.field-seg.ensures)) (omega (arith, c.field-seg.ensures))
    (sym kind ∙ c.if-field-ne1.false) (λ z. c.if-kind-eq2.false (c.field-kind.ensures ∙ z)) (sym len ∙ c.if-len-eq0.true)

pub returns : goal.returns
returns c =
    let kind = rw c.field-seg.ensures at c.field.ensures in
    let len = rw c.field-seg.ensures at c.field-len.ensures in
    rw (len, c.field-bit.ensures)
    (bad_two c.args.nodes.now c.args.count c.args.k (omega (arith, c.field-kind.ensures)) (omega (arith, c.field-seg.ensures)) (omega (arith, c.field-seg.ensures))
    (sym kind ∙ c.if-field-ne1.false) (λ z. c.if-kind-eq2.false (c.field-kind.ensures ∙ z)) (λ z. c.if-len-eq0.false (len ∙ z)))
