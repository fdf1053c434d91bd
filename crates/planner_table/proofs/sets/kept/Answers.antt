-- `planner_table::sets::kept` meets its contract. The loop's invariant: of the first m sets of targets r has those that stay, and nothing else.
-- Assumes nothing.
use mathlib.Core.Path.{refl, sym, ◌∙◌}
use Rattle.planner_table.proofs.SetLaws.{together_small, kept_alone, kept_in, kept_out}
use Rattle.planner_table.proofs.sets.kept.Goals as goal
use Rattle.planner_table.proofs.sets.kept.Goals.{then-has+then-has-2, else-has, else-has-via-then-has+else-has-2, else-has-via-else-has}

pub returns-then-g-eq0 : goal.returns-then-g-eq0
returns-then-g-eq0 c = let a = c.args in
    kept_alone a.sets a.g a.all c.if-g-eq0.true

pub has-requires-then-has : goal.has-requires-then-has
has-requires-then-has c = together_small c.loop-m.m c.args.g c.loop-m-test.true c.requires

pub loop-m-preserved : goal.loop-m-preserved
loop-m-preserved c = let a = c.args in
    let l = c.loop-m in
    elim c.if-has.branch [
      | then-has+then-has-2 w ↦ rw (w.r-is, w.only-r.ensures) (kept_in a.sets a.g a.all l.m l.r (sym c.has.ensures ∙ w.if-has.true) (sym w.has-then-has.ensures ∙ w.if-has-2.true) l.invariant)
      | else-has w ↦ rw w.r-is (kept_out a.sets a.g a.all l.m l.r c.loop-m-test.true
          (elim w.else-has.branch [
            | else-has-via-then-has+else-has-2 w' ↦ rw (sym c.has.ensures ∙ w'.if-has.true, sym w'.has-then-has.ensures ∙ w'.if-has-2.false) refl
            | else-has-via-else-has w' ↦ rw (sym c.has.ensures ∙ w'.if-has.false) refl
          ]) l.invariant)
    ]
