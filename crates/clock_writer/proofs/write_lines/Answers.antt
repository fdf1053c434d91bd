-- `clock_writer::write_lines` meets its contract. The loop's invariant: the clocks of the lines before `at` are written.
-- Assumes nothing.
use mathlib.Core.Path.{refl}
use native.Mathlib.Omega.{arith}
use Rattle.clock_writer.proofs.Lines.{written_none, written_kept, written_all, line_within, written_line}
use Rattle.clock_writer.proofs.write_lines.Goals as goal

pub loop-at-init : goal.loop-at-init
loop-at-init c = let p = c.requires.has_form in written_none _ _ _ p.0 p.1

pub bits_at-bits-requires : goal.bits_at-bits-requires
bits_at-bits-requires c = omega (arith, line_within _ _ _ _ _ _ c.loop-at.invariant c.loop-at-test.true _ refl)

pub write_tms-requires : goal.write_tms-requires
write_tms-requires c =
    let kept = written_kept _ _ _ _ _ _ c.loop-at.invariant c.requires.room.0 c.requires.room.1 in
    omega (arith, kept.0, line_within _ _ _ _ _ _ c.loop-at.invariant c.loop-at-test.true _ c.bits_at-bits.ensures)

pub write_tdi-at-requires : goal.write_tdi-at-requires
write_tdi-at-requires c =
    let kept = written_kept _ _ _ _ _ _ c.loop-at.invariant c.requires.room.0 c.requires.room.1 in
    omega (arith, kept.1, line_within _ _ _ _ _ _ c.loop-at.invariant c.loop-at-test.true _ c.bits_at-bits.ensures)

pub loop-at-preserved : goal.loop-at-preserved
loop-at-preserved c = let p = c.requires.room in
    written_line _ _ _ _ _ _ c.loop-at.invariant c.loop-at-test.true _ c.bits_at-bits.ensures p.0 p.1 _ _ _
    c.write_tms.ensures.tms_after c.write_tdi-at.ensures.tdi_after c.write_tdi-at.ensures.value

pub returns : goal.returns
returns c = let all = written_all _ _ _ _ _ _ c.loop-at.invariant c.loop-at-test.false in
    record { tms_after = all.0; tdi_after = all.1 }
