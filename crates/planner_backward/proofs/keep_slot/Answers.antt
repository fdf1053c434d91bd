-- `planner_backward::keep_slot` meets its contract. The invariant: slot i is filtered up to setting x.
-- Assumes nothing.
use Prim.Native.Nat.{◌+◌, ◌<◌}
use native.Mathlib.Omega.{arith}
use Rattle.planner_settings.proofs.SettingWalk.{settings_count}
use Rattle.planner_backward.specs.Keeping.{leads}
use Rattle.planner_backward.proofs.Filtering.{filtering_none, filtering_more, filtering_skip, filtering_all}
use Rattle.planner_backward.proofs.SetTests.{filtered_by, leads_same}
use Rattle.planner_backward.proofs.keep_slot.Goals as goal

pub loop-x-init : goal.loop-x-init
loop-x-init c = let a = c.args in
    let n = c.setting_count-end in
    let k = c.next_setting-x in record {
      within = k.ensures.most;
      rows_right = c.requires.rows_right;
      filtering = λ net q all.
          let test = leads net a.table.now a.d a.i in
          filtering_skip test a.i 0 a.table.now a.table.now (filtering_none test a.i a.table.now) n.result k.result n.ensures.1 k.ensures;
    }

pub loop-x-preserved : goal.loop-x-preserved
loop-x-preserved c = let a = c.args in
    let old = a.table.now in
    let l = c.loop-x in
    let n = c.setting_count-end in
    let w = c.kept_sets in
    let k = c.next_setting-x-in-loop-x in
    let small : l.x < 729 = omega (arith, n.ensures.1, c.loop-x-test.true) in record {
      within = k.ensures.most;
      rows_right = w.ensures.rows_right;
      filtering = λ net q all.
          let h = l.invariant.filtering net q all in
          let test = leads net old a.d a.i in
          let more = filtering_more test a.i l.x old l.table h w.result (omega (arith, c.requires.room, l.auto.table)) (omega (arith, c.requires.room)) small
          (filtered_by test _ (λ s. leads_same net old l.table a.d a.i s h.others) l.x _ w.result (w.ensures.filtered net q all)) in
          filtering_skip test a.i (l.x + 1) old _ more n.result k.result n.ensures.1 k.ensures;
    }

pub returns-clause-filtered : goal.returns-clause-filtered
returns-clause-filtered c = let l = c.loop-x in
    let a = c.args in
    λ net q all known. filtering_all (leads net a.table.now a.d a.i) a.i l.x _ l.table (l.invariant.filtering net q all) l.auto.table
    (λ s e. omega (arith, known s e, settings_count net _ _ _ q, c.setting_count-end.ensures.0))
