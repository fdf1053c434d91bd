-- `mark_answer::put_gots` meets its contract.
-- Assumes nothing.
use mathlib.Core.Path.{refl}
use native.Mathlib.Omega.{arith}
use Rattle.model.specs.Printed.{got_lines}
use Rattle.program_lines.proofs.Parts.{puts_none, puts_more}
use Rattle.mark_answer.proofs.MarkShown.{rows_more}
use Rattle.mark_answer.proofs.put_gots.Goals as goal

pub loop-row-init : goal.loop-row-init
unfolding got_lines
loop-row-init c = record { size = refl; fits = omega arith; lines = puts_none _ _ }

pub loop-row-preserved : goal.loop-row-preserved
loop-row-preserved c =
    let v = c.loop-row.invariant in
    let put = c.put_got-next.ensures in
    record {
      size = omega (arith, v.size, c.put_got-next.auto.out);
      fits = omega (arith, v.fits, put.upper_bound);
      lines = rw (rows_more c.args.rows.now c.loop-row.row-index c.loop-row-test.true) (puts_more v.lines put.puts (omega arith));
    }
