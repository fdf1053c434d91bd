-- `marker::mark_leaving` meets its contract.
-- Assumes nothing.
use mathlib.Core.Path.{◌≡◌, ◌∙◌}
use native.Mathlib.Omega.{arith}
use Rattle.std.specs.Prelude.{Err}
use Rattle.marker.proofs.Leaving.{leaves_after}
use Rattle.marker.proofs.Verdicts.{network_refused, network_accepted, plan_refused, markable}
use Rattle.marker.proofs.mark_leaving.Goals as goal

pub returns-in_err-net : goal.returns-in_err-net
returns-in_err-net c =
    let gone : c.from_residual.result ≡ Err c.in_err-net.field-0.0 = grind arith in
    rw gone record { mark_returned = record { result = network_refused _ _ _ c.in_err-net.ensures; rows = tt }; left_after = tt }

pub returns-in_err-operations : goal.returns-in_err-operations
returns-in_err-operations c =
    let gone : c.from_residual-in_err-operations.result ≡ Err c.in_err-operations.field-0.0 = grind arith in
    rw gone record { mark_returned = record { result = plan_refused _ _ _ c.in_ok-net.ensures _ c.in_err-operations.ensures; rows = tt }; left_after = tt }

pub mark_operations-requires : goal.mark_operations-requires
mark_operations-requires c = markable _ c.args.plan.now _ c.in_ok-net.ensures _ c.in_ok-operations.ensures

pub returns : goal.returns
returns c =
    let is = c.in_ok-net.ensures in
    let e = c.mark_operations.ensures in
    record {
      mark_returned = record { result = e.mark_value.result ∙ network_accepted _ _ _ is; rows = e.mark_value.rows };
      left_after = leaves_after _ _ _ is c.mark_operations.result e.leaves;
    }
