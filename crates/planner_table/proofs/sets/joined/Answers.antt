-- `planner_table::sets::joined` meets its contract. The loop's invariant: r has each of the first m sets of targets that is in sets, together
-- with g, and nothing else.
-- Assumes nothing.
use mathlib.Core.Path.{sym, ◌∙◌}
use Rattle.planner_table.proofs.SetLaws.{together_small, joined_alone, joined_in, joined_out}
use Rattle.planner_table.proofs.sets.joined.Goals as goal
use Rattle.planner_table.proofs.sets.joined.Goals.{then-has, else-has}

pub returns-then-g-eq0 : goal.returns-then-g-eq0
returns-then-g-eq0 c = joined_alone c.args.sets c.args.g c.if-g-eq0.true

pub only-r-requires : goal.only-r-requires
only-r-requires c = together_small c.loop-m.m c.args.g c.loop-m-test.true c.requires

pub loop-m-preserved : goal.loop-m-preserved
loop-m-preserved c = let a = c.args in
    let l = c.loop-m in
    elim c.if-has.branch [
      | then-has w ↦ rw (w.r-is, w.only-r.ensures) (joined_in a.sets a.g l.m l.r c.loop-m-test.true (sym c.has.ensures ∙ w.if-has.true) l.invariant)
      | else-has w ↦ rw w.r-is (joined_out a.sets a.g l.m l.r (sym c.has.ensures ∙ w.if-has.false) l.invariant)
    ]
