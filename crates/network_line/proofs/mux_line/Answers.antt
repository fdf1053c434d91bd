-- `network_line::mux_line` meets its contract.
-- Assumes nothing.
use mathlib.Core.Path.{refl}
use native.Mathlib.Omega.{arith}
use Rattle.model.specs.Text.{bits_from}
use Rattle.network_line.proofs.MuxLines.{mux_count, mux_seg, mux_bit, mux_inputs, mux_is, done_bad, done_all, done_next}
use Rattle.network_line.proofs.mux_line.Goals as goal

pub returns-then-count-lt5 : goal.returns-then-count-lt5
returns-then-count-lt5 c = record { means = mux_count _ _ c.requires.counted c.then-count-lt5.either; good = tt }

pub returns-in_err-seg : goal.returns-in_err-seg
returns-in_err-seg c = rw c.from_residual.ensures (record { means = mux_seg _ (omega arith) (omega arith) c.in_err-seg.ensures.value; good = tt })

pub returns-in_err-bit : goal.returns-in_err-bit
returns-in_err-bit c =
    rw c.from_residual-in_err-bit.ensures
    (record { means = mux_bit _ (omega arith) (omega arith) _ c.in_ok-seg.ensures.value c.in_err-bit.ensures.value; good = tt })

pub returns-in_err-inputs : goal.returns-in_err-inputs
returns-in_err-inputs c =
    let bad = done_bad _ _ _ c.loop-k.invariant (omega arith) c.in_err-inputs.ensures.value in
    rw c.from_residual-in_err-inputs.ensures
    (record { means = mux_inputs _ (omega arith) (omega arith) _ c.in_ok-seg.ensures.value _ c.in_ok-bit.ensures.value bad; good = tt })

pub loop-k-preserved : goal.loop-k-preserved
loop-k-preserved c =
    let n = c.in_ok-inputs.ensures in
    done_next _ _ _ c.loop-k.invariant _ (omega arith) (omega arith) n.value (n.small _ refl)

pub returns : goal.returns
unfolding bits_from
returns c =
    let seg = c.in_ok-seg.ensures in
    let bit = c.in_ok-bit.ensures in
    let d = c.loop-k.invariant in
    let all = done_all _ _ _ d _ (omega arith) c.loop-k-test.false in
    record {
      means = mux_is _ (omega arith) (omega arith) _ seg.value _ bit.value _ all;
      good = ((seg.small _ refl, bit.small _ refl, omega arith, omega arith, d.long, d.small), refl);
    }
