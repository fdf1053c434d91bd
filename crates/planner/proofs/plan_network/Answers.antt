-- `planner::plan_network` meets its contract.
-- Assumes nothing.
use mathlib.Core.Path.{◌≡◌, ap, ◌∙◌}
use Prim.Native.Nat.{ℕ, ◌*◌, ◌-◌, ◌^◌, ◌%◌, ◌≤◌}
use native.Mathlib.Nat.{pow-le-pow_right}
use native.Mathlib.Omega.{arith}
use Rattle.std.specs.Prelude.{Err}
use Rattle.std.proofs.lemmas.Result.{err_from_is_err_and}
use Rattle.planner_settings.proofs.SettingWalk.{planned_listed}
use Rattle.planner.proofs.Records.{record_steered}
use Rattle.planner.proofs.Planning.{rows_none, plans_empty, prepared, search_asks, finds_none, has_text, finds_plan}
use Rattle.planner.proofs.plan_network.Goals as goal

pub returns-then-summary-eq0 : goal.returns-then-summary-eq0
returns-then-summary-eq0 c = plans_empty _ _ c.requires _ _ c.clear.ensures c.if-summary-eq0.true

-- ---- the search

pub problem_of-problem-requires : goal.problem_of-problem-requires
problem_of-problem-requires c = let p = c.requires in record_steered _ p.filled p.accepted p.few

pub setting_number-start-requires : goal.setting_number-start-requires
setting_number-start-requires c = planned_listed _ _ _ _ (prepared _ _ c.requires _ c.problem_of-problem.ensures)

-- the number of all targets
all_targets : (n : ℕ) → n ≤ 4 → 1 * 2 ^ n % 18446744073709551616 - 1 ≡ 2 ^ n - 1
all_targets n l = omega (arith, pow-le-pow_right {n = 2} (omega arith) {j = 4} l)

pub find_plan-found-requires : goal.find_plan-found-requires
find_plan-found-requires c =
    let lists = c.problem_of-problem.ensures in
    let full = all_targets c.args.summary.target_count c.requires.filled.in_limits.targets_fit in
    let asks = search_asks _ _ c.requires _ lists _ c.setting_number-start.ensures _ full (omega (arith, c.if-summary-eq0.false)) in record {
      plannable = (_, prepared _ _ c.requires _ lists);
      rows_right = rows_none _ _ _;
      room = asks.0;
      starts = asks.1;
    }

pub write_plan-requires-clause-countable : goal.write_plan-requires-clause-countable
write_plan-requires-clause-countable c =
    let f = c.find_plan-found.ensures in
    has_text _ _ c.requires _ c.problem_of-problem.ensures _ c.setting_number-start.ensures c.args.plan.now _ f.cleared _ _ f.found _ c.in_ok-n.ensures.ok_part

pub returns-in_err-n : goal.returns-in_err-n
returns-in_err-n c =
    let f = c.find_plan-found.ensures in
    let none = finds_none _ _ c.requires _ c.problem_of-problem.ensures _ c.setting_number-start.ensures c.args.plan.now _ f.cleared _ _ f.found c.in_err-n.ensures.ok_part in
    let p = err_from_is_err_and c.from_residual.result c.from_residual.ensures.1 in
    let e = rw c.in_err-n.ensures.ok_part at c.in_err-n.ensures.value in
    rw (p.1 ∙ ap Err p.2 ∙ e ∙ ap Err c.at.ensures) none

pub returns : goal.returns
returns c =
    let f = c.find_plan-found.ensures in
    finds_plan _ _ c.requires _ c.problem_of-problem.ensures _ c.setting_number-start.ensures _ _ f.cleared _ _ f.found _ c.in_ok-n.ensures.ok_part _ _ c.write_plan.ensures
