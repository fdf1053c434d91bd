-- `network_line::bits_line` meets its contract, by the field of BITS.
-- Assumes nothing.
use mathlib.Core.Path.{◌≡◌, refl, sym, ap, ◌∙◌}
use native.Mathlib.Omega.{arith}
use Rattle.text.specs.Bits.{bits_form}
use Rattle.network_line.proofs.Lines.{field_part, bits_entry, no_line, bits_count, bits_number, bits_wrong, bits_line_law}
use Rattle.network_line.proofs.bits_line.Goals as goal
use Rattle.network_line.proofs.bits_line.Goals.{then-unknown, else-unknown}

pub returns-then-count-ne3 : goal.returns-then-count-ne3
returns-then-count-ne3 c = no_line _ (bits_count c.args.unknown _ (λ e. c.if-count-ne3.true (c.requires.counted ∙ e)))

pub returns-in_err-s : goal.returns-in_err-s
returns-in_err-s c = rw c.from_residual.ensures (no_line _ (bits_number _ (sym c.requires.counted ∙ c.if-count-ne3.false) c.args.unknown c.in_err-s.ensures.value))

pub returns-then-not-are_bits : goal.returns-then-not-are_bits
returns-then-not-are_bits c =
    let form = sym (c.are_bits.ensures ∙ ap (bits_form c.args.unknown) c.field-bits.ensures) in
    no_line _ (bits_wrong _ (sym c.requires.counted ∙ c.if-count-ne3.false) _ c.in_ok-s.ensures.value c.args.unknown (form ∙ c.if-not-are_bits.true))

pub returns : goal.returns
returns c =
    let d = c.in_ok-s.ensures in
    let form = sym (c.are_bits.ensures ∙ ap (bits_form c.args.unknown) c.field-bits.ensures) in
    let line = bits_line_law _ (sym c.requires.counted ∙ c.if-count-ne3.false) _ d.value c.args.unknown (d.small _ refl) (form ∙ c.if-not-are_bits.false) in
    let entry : c.if-unknown.entry ≡ bits_entry c.args.unknown c.in_ok-s.s =
    elim c.if-unknown.branch [ then-unknown w ↦ rw w.if-unknown.true w.entry-is | else-unknown w ↦ rw w.if-unknown.false w.entry-is ] in
    record {
      part = field_part (c.requires.placed 2 (omega arith) (omega (arith, c.requires.counted, c.if-count-ne3.false))) c.field-bits.ensures;
      means = rw (entry, c.field-bits.ensures) line.0;
      good = rw (entry, c.field-bits.ensures) line.1;
    }
