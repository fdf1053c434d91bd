-- `planner_text::write_plan` meets its contract.
-- Assumes nothing.
use native.Mathlib.Omega.{arith}
use Rattle.planner_text.proofs.Given.{given_short, given_written}
use Rattle.planner_text.proofs.write_plan.Goals as goal

pub returns-then-plan-needed : goal.returns-then-plan-needed
returns-then-plan-needed c = λ net cs o. rw c.at.ensures (given_short _ _ _ (c.text_length-needed.ensures.counts net cs o) c.if-plan-needed.true)

pub write_text-requires : goal.write_text-requires
write_text-requires c =
    let e = c.text_length-needed.ensures in
    let p = c.requires.countable in record {
      writable = (p.0, p.1, record { counts = p.2; room = omega (arith, c.if-plan-needed.false, e.counts p.0 p.1 p.2) });
      rows_right = e.rows_right;
    }

pub returns : goal.returns
returns c = λ net cs o.
    let e = c.text_length-needed.ensures.counts net cs o in
    let l = c.if-plan-needed.false in
    given_written _ _ _ e l _ (c.write_text.ensures net cs record { counts = o; room = omega (arith, e, l) })
