-- `planner_search::trace::trace` meets its contract. The invariant: the way has come to setting x with the targets m, and i choices of the
-- plan are written.
-- Assumes nothing.
use Prim.Native.Nat.{ℕ, ◌*◌, ◌<◌}
use mathlib.Core.Path.{refl}
use native.Mathlib.Omega.{arith}
use lib.Bits.{or_lt}
use borrow.Author.Rules.{rules}
use Rattle.std.specs.Prelude.{Option, None as none, Some as some, unwrap_or, IsSome}
use Rattle.planner_rows.specs.Rows.{Lands}
use Rattle.planner_rows.proofs.RowLaws.{lands_of, listed_small, gain_read_small}
use Rattle.planner_search.proofs.KeptWay.{tracing_start, tracing_within, tracing_step, tracing_end}
use Rattle.planner_search.proofs.trace.trace.Goals as goal
use Rattle.planner_search.proofs.trace.trace.Goals.{After-know_row, After-first_choice}

-- the row of the setting here
row : (c : After-know_row) → Lands c.requires.plannable.0 c.know_row.new.rows c.loop-i.x
row c = let k = c.know_row.ensures in lands_of c.requires.plannable.1 k.rows_right c.loop-i.x c.loop-i.invariant.x_small k.x_after

-- one of the choices is found
chosen : (c : After-first_choice) → unwrap_or c.first_choice.result c.list_lands-n.result < c.list_lands-n.result
chosen c =
    let a = c.args in
    let l = c.loop-i in
    let k = c.know_row.ensures in
    let q = c.requires.plannable in
    let kept = c.requires.kept q.0 q.1 in
    tracing_within q.0 (a.start * 16) a.d a.table.now kept a.out.now l.out l.x l.m l.i (l.invariant.tracing q.0 q.1 kept)
    q.1 k.rows_right l.invariant.x_small k.x_after c.list_lands-n.ensures c.number-m.result c.number-m.ensures l.invariant.m_small c.loop-i-test.true _ c.first_choice.ensures

is_found : (o : Option ℕ) (n : ℕ) → unwrap_or o n < n → IsSome o
is_found none n l = absurd (omega arith)
is_found (some r) n l = refl

pub loop-i-init : goal.loop-i-init
loop-i-init c = record {
  x_small = c.requires.room.1;
  m_small = search rules;
  rows_right = c.requires.rows_right;
  tracing = λ net q kept. tracing_start net c.args.start c.args.d c.args.table.now kept c.args.out.now c.requires.room.2;
}

pub list_lands-n-requires : goal.list_lands-n-requires
list_lands-n-requires c = (refl, c.loop-i.invariant.x_small, (c.requires.plannable.0, row (goal.at.list_lands-n-requires c).After-know_row))

pub first_choice-requires-clause-room : goal.first_choice-requires-clause-room
first_choice-requires-clause-room c =
    let g = c.number-m in
    let small = gain_read_small (row (goal.at.first_choice-requires-clause-room c).After-know_row) g.result g.ensures in
    (c.requires.room.0, c.list_lands-n.ensures.most, omega (arith, c.requires.room.3), or_lt 4 c.loop-i.m g.result c.loop-i.invariant.m_small small)

pub first_choice-requires-clause-lands_small : goal.first_choice-requires-clause-lands_small
first_choice-requires-clause-lands_small c = listed_small (row (goal.at.first_choice-requires-clause-lands_small c).After-know_row) c.list_lands-n.ensures

pub unwrap-c-requires : goal.unwrap-c-requires
unwrap-c-requires c = is_found _ _ (chosen (goal.at.unwrap-c-requires c).After-first_choice)

pub bounds-lands-c : goal.bounds-lands-c
bounds-lands-c c = omega (arith, rw c.unwrap-c.ensures at (chosen (goal.at.bounds-lands-c c).After-first_choice), c.list_lands-n.ensures.most)

pub loop-i-preserved : goal.loop-i-preserved
loop-i-preserved c =
    let a = c.args in
    let l = c.loop-i in
    let k = c.know_row.ensures in
    let g = c.number-m in
    let found = rw c.unwrap-c.ensures at c.first_choice.ensures in
    let less = rw c.unwrap-c.ensures at (chosen (goal.at.loop-i-preserved c).After-first_choice) in
    let here = row (goal.at.loop-i-preserved c).After-know_row in record {
      x_small = rw c.from-x.ensures (listed_small here c.list_lands-n.ensures _ less);
      m_small = or_lt 4 l.m g.result l.invariant.m_small (gain_read_small here g.result g.ensures);
      rows_right = k.rows_right;
      tracing = λ net q kept.
          tracing_step net (a.start * 16) a.d a.table.now kept a.out.now l.out l.x l.m l.i (l.invariant.tracing net q kept)
          q k.rows_right l.invariant.x_small k.x_after c.list_lands-n.ensures g.result g.ensures l.invariant.m_small c.loop-i-test.true c.unwrap-c.result found
          c.requires.room.4 c.requires.room.3 c.from-x.result c.from-x.ensures;
    }

pub returns-clause-traced : goal.returns-clause-traced
returns-clause-traced c = λ net q.
    let l = c.loop-i in
    let kept = c.requires.kept net q in
    tracing_end net (c.args.start * 16) c.args.d c.args.table.now kept c.args.out.now l.out l.x l.m l.i (l.invariant.tracing net q kept) (omega arith)
