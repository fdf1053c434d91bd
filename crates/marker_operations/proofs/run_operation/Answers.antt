-- `marker_operations::run_operation` meets its contract.
-- Assumes nothing.
use mathlib.Core.Path.{◌≡◌}
use native.Mathlib.Omega.{arith}
use Rattle.std.specs.Prelude.{Ok, Err}
use Rattle.network_path.proofs.StoredLaws.{stored_walkable}
use Rattle.marker_operations.specs.Operations.{state}
use Rattle.marker_operations.proofs.Running.{op_next, op_stop}
use Rattle.marker_operations.proofs.run_operation.Goals as goal

pub find_path-requires : goal.find_path-requires
find_path-requires c =
    let o = c.requires.1 in
    stored_walkable _ _ _ _ o.stored _ o.found.holds.size

pub returns-in-Ok : goal.returns-in-Ok
returns-in-Ok c =
    let is : c.find_path.result ≡ Ok c.in-Ok.next = grind (arith, c.in-Ok.is) in
    op_next _ _ _ _ _ _ _ _ c.if-scan-path.false c.note_targets.ensures c.load.ensures c.find_path.ensures _ is

pub returns-in-Err : goal.returns-in-Err
returns-in-Err c =
    let is : c.find_path.result ≡ Err c.in-Err.field-0 = grind (arith, c.in-Err.is) in
    let stopped = op_stop _ _ _ _ _ (state _ _ _ _) (state _ _ _ _) _ c.if-scan-path.false c.note_targets.ensures c.load.ensures c.find_path.ensures _ is in
    rw c.at-in-Err.ensures (λ net o. record { tells = (stopped net o).tells; leaves = (stopped net o).leaves })
