-- `planner_forward::layers::find_layer` meets its contract. The loop's invariant: the search has come to layer i, no layer so far has a goal, and
-- nothing behind the slots has changed.
-- Assumes nothing.
use mathlib.Core.Path.{refl, ◌∙◌}
use mathlib.Core.Logic.{inr}
use Prim.Native.Nat.{ℕ, ◌*◌}
use native.Mathlib.Omega.{arith}
use lib.ListN.{set, replicate, length-set, length-replicate}
use Rattle.planner_forward.proofs.Layering.{seen_start, forward_start, slot_sets, forward_next, met_goal, met_empty, met_nothing}
use Rattle.planner_forward.proofs.layers.find_layer.Goals as goal

pub loop-i-init : goal.loop-i-init
loop-i-init c = record {
  rows_right = c.requires.rows_right;
  table_size = refl;
  rest_kept = λ n le. refl;
  seen_size = length-set (replicate 729 0) c.args.start 1 ∙ length-replicate {A = ℕ} 729 0;
  forward = λ net p st. forward_start net c.args.start c.args.full st c.args.table.now (set (replicate 729 0) c.args.start 1) c.requires.empty.1 (λ q. seen_start 729 c.args.start q c.requires.small.0);
}

pub returns-then-came-eq0-clause-met : goal.returns-then-came-eq0-clause-met
returns-then-came-eq0-clause-met c = let l = c.loop-i in
    let less = c.loop-i-test.true in
    let a = c.spread_layer-came in
    let start = c.args.start * 16 in
    λ net p st.
    let f = l.invariant.forward net p st in
    let q = a.ensures.spread net p f.known in
    let sets = slot_sets net p.accepted start l.i less l.table l.seen a.new.table a.new.seen f q a.result (a.ensures.sets_in net p f.known) in
    met_empty net p.accepted start l.i less l.table l.seen a.new.table a.new.seen f q (rw c.if-came-eq0.true at sets)

pub returns-then-meets_goal-clause-met : goal.returns-then-meets_goal-clause-met
returns-then-meets_goal-clause-met c = let l = c.loop-i in
    let less = c.loop-i-test.true in
    let a = c.spread_layer-came in
    let g = c.meets_goal in
    let start = c.args.start * 16 in
    λ net p st.
    let f = l.invariant.forward net p st in
    let q = a.ensures.spread net p f.known in
    let sets = slot_sets net p.accepted start l.i less l.table l.seen a.new.table a.new.seen f q a.result (a.ensures.sets_in net p f.known) in
    met_goal net p.accepted start l.i less l.table l.seen a.new.table a.new.seen f q g.result (λ known. g.ensures.goal net p st.all known sets) c.if-meets_goal.true

pub loop-i-preserved : goal.loop-i-preserved
loop-i-preserved c = let l = c.loop-i in
    let less = c.loop-i-test.true in
    let a = c.spread_layer-came in
    let g = c.meets_goal in
    let start = c.args.start * 16 in record {
      rows_right = g.ensures.rows_right;
      table_size = a.ensures.only_slot.0.size ∙ l.invariant.table_size;
      rest_kept = λ n le. a.ensures.only_slot.0.others n (inr (omega arith)) ∙ l.invariant.rest_kept n le;
      seen_size = a.ensures.only_slot.1;
      forward = λ net p st.
          let f = l.invariant.forward net p st in
          let q = a.ensures.spread net p f.known in
          let sets = slot_sets net p.accepted start l.i less l.table l.seen a.new.table a.new.seen f q a.result (a.ensures.sets_in net p f.known) in
          forward_next net p.accepted start l.i less l.table l.seen a.new.table a.new.seen f q g.result (λ known. g.ensures.goal net p st.all known sets) c.if-meets_goal.false;
    }

pub returns-clause-met : goal.returns-clause-met
returns-clause-met c = let l = c.loop-i in
    λ net p st. met_nothing net (c.args.start * 16) l.i l.table l.seen (omega arith) (l.invariant.forward net p st)
