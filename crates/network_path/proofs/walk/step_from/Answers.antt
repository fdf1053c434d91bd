-- `network_path::walk::step_from` meets its contract.
-- Assumes nothing.
use mathlib.Core.Path.{refl}
use native.Mathlib.Omega.{arith}
use Rattle.network_path.proofs.NodeLaws.{safe_mux}
use Rattle.network_path.proofs.StepLaws.{step_segment, step_mux, step_unknown, step_input, step_beyond}
use Rattle.network_path.proofs.walk.step_from.Goals as goal

pub returns-then-kind-lt2 : goal.returns-then-kind-lt2
returns-then-kind-lt2 c = step_segment _ c.args.bits.now c.args.known.now _ _ c.field-kind.ensures c.if-kind-lt2.true _ c.field.ensures

pub bounds-bits-seg : goal.bounds-bits-seg
bounds-bits-seg c = omega (arith, (safe_mux _ _ _ c.field-kind.ensures c.if-kind-lt2.false c.requires.1).0, c.field-seg.ensures)

pub bounds-known-seg : goal.bounds-known-seg
bounds-known-seg c = omega (arith, (safe_mux _ _ _ c.field-kind.ensures c.if-kind-lt2.false c.requires.1).0, c.field-seg.ensures)

pub address_of-requires : goal.address_of-requires
address_of-requires c = omega (arith, (safe_mux _ _ _ c.field-kind.ensures c.if-kind-lt2.false c.requires.1).1, c.field-bit.ensures)

pub field-requires-then-i-kind : goal.field-requires-then-i-kind
field-requires-then-i-kind c = (omega arith, omega (arith, (safe_mux _ _ _ c.field-kind.ensures c.if-kind-lt2.false c.requires.1).2))

pub returns-in_err-i : goal.returns-in_err-i
returns-in_err-i c =
    let mux = step_mux _ c.args.bits.now c.args.known.now _ _ c.field-kind.ensures c.if-kind-lt2.false _ _ c.field-seg.ensures c.field-bit.ensures _ c.in_err-i.ensures in
    rw c.from_residual.ensures (step_unknown _ _ _ _ _ mux refl)

pub returns-then-i-kind : goal.returns-then-i-kind
returns-then-i-kind c =
    let mux = step_mux _ c.args.bits.now c.args.known.now _ _ c.field-kind.ensures c.if-kind-lt2.false _ _ c.field-seg.ensures c.field-bit.ensures _ c.in_ok-i.ensures in
    step_input _ _ _ _ _ mux _ _ refl c.if-i-kind.true c.field-then-i-kind.ensures

pub returns : goal.returns
returns c =
    let mux = step_mux _ c.args.bits.now c.args.known.now _ _ c.field-kind.ensures c.if-kind-lt2.false _ _ c.field-seg.ensures c.field-bit.ensures _ c.in_ok-i.ensures in
    step_beyond _ _ _ _ _ mux _ refl c.if-i-kind.false
