-- `program_lines::put_fields` meets its contract. The loop's invariant: the fields before the place are written.
-- Assumes nothing.
use Rattle.std.proofs.Common.{refl, arith}
use Rattle.program_lines.specs.Puts.{tabbed}
use Rattle.program_lines.proofs.Parts.{puts_none, field_next, fields_done}
use Rattle.program_lines.proofs.put_fields.Goals as goal

pub loop-n-init : goal.loop-n-init
unfolding tabbed
loop-n-init c = record { long = refl; upper_bound = omega arith; puts = puts_none _ _ }

pub loop-n-preserved : goal.loop-n-preserved
loop-n-preserved c =
    let v = c.loop-n.invariant in
    let f = c.put_field-next in
    record {
      long = omega (arith, f.auto.out);
      upper_bound = omega arith;
      puts = field_next _ _ _ _ _ _ _ _ c.loop-n-test.true v.puts (omega arith) f.ensures.puts;
    }

pub returns : goal.returns
returns c = record { puts = fields_done _ _ _ _ _ _ c.loop-n-test.false c.loop-n.invariant.puts; upper_bound = omega arith }
