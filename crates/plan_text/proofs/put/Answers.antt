-- `plan_text::put` meets its contract. The loop's invariant: the first i bytes are written.
-- Assumes nothing.
use Rattle.std.proofs.Common.{refl, sym}
use lib.ListN.{length-set}
use Rattle.plan_text.proofs.Writing.{write_none, put_next, put_done}
use Rattle.plan_text.proofs.put.Goals as goal

pub loop-i-init : goal.loop-i-init
loop-i-init c = record { long = refl; written = sym (write_none _ _) }

pub loop-i-preserved : goal.loop-i-preserved
loop-i-preserved c =
    let v = c.loop-i.invariant in
    record { long = simp length-set v.long; written = put_next _ _ _ _ _ c.requires c.loop-i-test.true v.written }

pub returns-clause-buf_after : goal.returns-clause-buf_after
returns-clause-buf_after c = put_done _ _ _ _ _ c.loop-i-test.false c.loop-i.invariant.written
