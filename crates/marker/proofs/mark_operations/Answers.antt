-- `marker::mark_operations` meets its contract.
-- Assumes nothing.
use mathlib.Core.Path.{◌≡◌}
use native.Mathlib.Omega.{arith}
use Rattle.std.specs.Prelude.{Ok, Err}
use Rattle.marker_operations.specs.Operations.{marking}
use Rattle.marker.proofs.Leaving.{leaves_done}
use Rattle.marker.proofs.Verdicts.{runnable, run_refused, judgeable, judged}
use Rattle.marker.proofs.mark_operations.Goals as goal

pub run_plan-requires : goal.run_plan-requires
run_plan-requires c =
    let s = runnable _ _ _ c.requires in
    record { has_form = s.0; startable = s.1 }

pub returns-in_err-run_plan : goal.returns-in_err-run_plan
returns-in_err-run_plan c =
    let gone : c.from_residual.result ≡ Err c.in_err-run_plan.field-0.0 = grind arith in
    let n = c.run_plan.new in
    let told = run_refused _ _ _ c.requires c.in_err-run_plan.field-0.0 (marking n.bits n.known n.met) c.in_err-run_plan.ensures in
    rw gone record { mark_value = record { result = told; rows = tt }; leaves = tt }

pub judge-requires : goal.judge-requires
judge-requires c = let n = c.run_plan.new in judgeable _ _ _ c.requires (marking n.bits n.known n.met) c.in_ok-run_plan.ensures

pub returns-in_err-pass : goal.returns-in_err-pass
returns-in_err-pass c =
    let gone : c.from_residual-in_err-pass.result ≡ Err c.in_err-pass.field-0.0 = grind arith in
    let n = c.run_plan.new in
    let told = judged _ _ _ c.requires (marking n.bits n.known n.met) c.in_ok-run_plan.ensures (Err c.in_err-pass.field-0.0) c.in_err-pass.ensures.judges in
    rw gone record { mark_value = record { result = told; rows = tt }; leaves = tt }

pub returns : goal.returns
returns c =
    let n = c.run_plan.new in
    let after = marking n.bits n.known n.met in
    let ran = c.in_ok-run_plan.ensures in
    let j = c.in_ok-pass.ensures in
    record {
      mark_value = record { result = judged _ _ _ c.requires after ran (Ok c.in_ok-pass.pass) j.judges; rows = j.rows_for };
      leaves = leaves_done _ _ _ c.requires after ran c.in_ok-pass.pass;
    }
