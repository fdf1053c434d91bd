-- `network_line::seg_line` meets its contract, by the count of fields and the field of RESET.
-- Assumes nothing.
use mathlib.Core.Bool.{true}
use mathlib.Core.Path.{sym, ap, ◌∙◌}
use native.Mathlib.Omega.{arith}
use Rattle.text.specs.Bits.{bits_form}
use Rattle.network_line.proofs.Lines.{field_part, no_line, plain_line}
use Rattle.network_line.proofs.SegLines.{seg_count, seg_none_of, seg_plain, seg_wrong, seg_reset}
use Rattle.network_line.proofs.seg_line.Goals as goal

pub returns-then-count-lt4 : goal.returns-then-count-lt4
returns-then-count-lt4 c = no_line _ (seg_count _ _ c.requires.counted c.then-count-lt4.either)

pub returns-in_err-segment_of : goal.returns-in_err-segment_of
returns-in_err-segment_of c = rw c.from_residual.ensures (no_line _ (seg_none_of _ (omega arith) (omega arith) c.in_err-segment_of.ensures))

pub returns-then-count-eq4 : goal.returns-then-count-eq4
returns-then-count-eq4 c =
    let line = seg_plain _ _ (sym c.requires.counted ∙ c.if-count-eq4.true) c.in_ok-segment_of.ensures in
    plain_line _ _ _ c.plain.ensures line.0 line.1

pub returns-then-not-are_bits : goal.returns-then-not-are_bits
returns-then-not-are_bits c =
    let form = sym (c.are_bits.ensures ∙ ap (bits_form true) c.field-bits.ensures) in
    no_line _ (seg_wrong _ (omega (arith, c.requires.counted)) (form ∙ c.if-not-are_bits.true))

pub returns : goal.returns
returns c =
    let form = sym (c.are_bits.ensures ∙ ap (bits_form true) c.field-bits.ensures) in
    let line = seg_reset _ (omega (arith, c.requires.counted)) _ (form ∙ c.if-not-are_bits.false) c.in_ok-segment_of.ensures in
    record {
      part = field_part (c.requires.placed 4 (omega arith) (omega (arith, c.requires.counted))) c.field-bits.ensures;
      means = rw c.field-bits.ensures line.0;
      good = rw c.field-bits.ensures line.1;
    }
