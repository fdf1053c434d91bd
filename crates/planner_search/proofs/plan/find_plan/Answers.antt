-- `planner_search::plan::find_plan` meets its contract.
-- Assumes nothing.
use Prim.Native.Nat.{ℕ}
use mathlib.Core.Path.{ap, ◌∙◌}
use mathlib.Core.List.{List}
use native.Mathlib.Omega.{arith}
use lib.ListN.{get_or}
use Rattle.planner_search.proofs.Zeros.{cleared_low, cleared_again}
use Rattle.planner_search.proofs.Answer.{nothing_found, plan_found}
use Rattle.planner_search.proofs.plan.find_plan.Goals as goal
use Rattle.planner_search.proofs.plan.find_plan.Goals.{in-Some, in_default}

pub find_layer-found-requires-clause-empty : goal.find_layer-found-requires-clause-empty
find_layer-found-requires-clause-empty c =
    let z = c.clear in
    (omega (arith, z.auto.table, c.requires.room.0), λ n lt. ap (λ (l : List ℕ). get_or l n 0) z.ensures ∙ cleared_low c.args.table.now n lt)

pub returns-clause-found : goal.returns-clause-found
returns-clause-found c = λ net q.
    let old = c.args.out.now in
    let starts = c.requires.starts net q in
    elim c.match-found.branch [
      | in-Some w ↦ plan_found net c.args.start old _ _ _ _ _ w.found-is w.out-is (w.in-Some.ensures.met net q starts) (w.trace.ensures.traced net q)
      | in_default w ↦ nothing_found net c.args.start old _ _ (w.found-is ∙ w.in_default.is) w.out-is (rw w.in_default.is at (c.find_layer-found.ensures.met net q starts))
    ]

pub returns-clause-cleared : goal.returns-clause-cleared
returns-clause-cleared c =
    let d = c.find_layer-found in
    let q = c.requires.plannable in
    c.clear-2.ensures ∙ cleared_again c.args.table.now c.clear.new.table _ c.requires.room.0 c.clear.ensures (c.match-found.auto.table ∙ d.ensures.rest_kept.0) (λ n le.
    elim c.match-found.branch [
      | in-Some w ↦
          let kept = w.keep_all.ensures.useful q.0 q.1 (c.requires.starts q.0 q.1) (λ z. w.in-Some.ensures.met q.0 q.1 (c.requires.starts q.0 q.1)) in
          rw w.table-is (kept.beyond n le ∙ d.ensures.rest_kept.1 n le)
      | in_default w ↦ rw w.table-is (d.ensures.rest_kept.1 n le)
    ])
