-- `text::split` meets its contract. The loop's invariant: the fields before `at` are placed and the next one begins there.
-- Assumes nothing.
use mathlib.Core.Path.{refl}
use Prim.Native.Nat.{◌+◌}
use native.Mathlib.Omega.{arith}
use Rattle.text.proofs.Splitting.{Closed, open_first, closed_noted, closed_past, open_next, split_done}
use Rattle.text.proofs.split.Goals as goal
use Rattle.text.proofs.split.Goals.{then-count-lt8, else-count-lt8}

pub loop-count-init : goal.loop-count-init
loop-count-init c = open_first _ _ refl refl

pub end_of-end-requires : goal.end_of-end-requires
end_of-end-requires c = c.loop-count.invariant.within

pub returns-then-end-line : goal.returns-then-end-line
returns-then-end-line c =
    let at-closed : Closed c.args.line.now c.if-count-lt8.starts (c.loop-count.count + 1) c.end_of-end.result =
    let o = c.loop-count.invariant in
    let e = c.end_of-end.ensures in
    elim c.if-count-lt8.branch [
      | then-count-lt8 w ↦ closed_noted _ _ _ _ _ _ o e w.if-count-lt8.true w.starts-is
      | else-count-lt8 w ↦ closed_past _ _ _ _ _ _ o e w.if-count-lt8.false w.starts-is
    ] in
    split_done _ _ _ _ _ _ c.loop-count.invariant c.end_of-end.ensures at-closed c.if-end-line.true

pub loop-count-preserved : goal.loop-count-preserved
loop-count-preserved c =
    let at-closed : Closed c.args.line.now c.if-count-lt8.starts (c.loop-count.count + 1) c.end_of-end.result =
    let o = c.loop-count.invariant in
    let e = c.end_of-end.ensures in
    elim c.if-count-lt8.branch [
      | then-count-lt8 w ↦ closed_noted _ _ _ _ _ _ o e w.if-count-lt8.true w.starts-is
      | else-count-lt8 w ↦ closed_past _ _ _ _ _ _ o e w.if-count-lt8.false w.starts-is
    ] in
    open_next _ _ _ _ _ _ c.loop-count.invariant c.end_of-end.ensures at-closed (omega arith)
