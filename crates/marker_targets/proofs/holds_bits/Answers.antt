-- `marker_targets::holds_bits` meets its contract.
-- Assumes nothing.
use mathlib.Core.Path.{sym, ◌∙◌}
use native.Mathlib.Omega.{arith}
use Rattle.marker_targets.proofs.Judging.{bit_other, bit_same}
use Rattle.marker_targets.proofs.holds_bits.Goals as goal

pub returns-then-bit_at : goal.returns-then-bit_at
returns-then-bit_at c =
    let l = c.loop-b in
    bit_other _ _ _ _ l.b c.loop-b-test.true (λ z. c.if-bit_at.true (c.bit_at-in-loop-b.ensures ∙ z ∙ sym c.bit_at-in-loop-b-2.ensures)) ∙ l.invariant

pub loop-b-preserved : goal.loop-b-preserved
loop-b-preserved c =
    let l = c.loop-b in
    let e = sym c.bit_at-in-loop-b.ensures ∙ c.if-bit_at.false ∙ c.bit_at-in-loop-b-2.ensures in
    bit_same _ _ _ _ l.b c.loop-b-test.true (λ z. omega (arith, c.bit_at.ensures)) e ∙ l.invariant
