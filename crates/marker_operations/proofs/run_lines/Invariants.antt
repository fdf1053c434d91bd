-- `marker_operations::run_lines` meets its contract. The invariant is the law `Going`; the measure is what is left of the text.
-- Assumes nothing.
use mathlib.Core.Path.{◌≡◌}
use Prim.Native.Nat.{◌-◌}
use lib.ListN.{length}
use Rattle.model.specs.Result.{ok}
use Rattle.model.specs.Network.{Network}
use Rattle.model.specs.Plan.{Plan}
use Rattle.model.specs.PlanText.{read_plan}
use Rattle.model.specs.Mark.{run_from}
use Rattle.marker_operations.specs.Operations.{config_at, state, path_at, OnPath}
use Rattle.marker_operations.proofs.Running.{Going}
use Rattle.marker_operations.proofs.run_lines.Given as goal

abbrev pub invariant-loop-at : goal.invariant-loop-at
invariant-loop-at l = let first = state l.initial.way l.initial.bits l.initial.known l.initial.met in
    (net : Network) (whole : Plan) → read_plan l.plan ≡ ok whole → OnPath net l.nodes l.t l.fn.start first
    → Going net whole l.nodes l.t l.plan (run_from net 1 (path_at l.nodes l.fn.start.segments first) (config_at l.nodes l.t first.marking) whole) l.at l.k l.path (state l.way l.bits l.known l.met)

abbrev pub decreases-loop-at : goal.decreases-loop-at
decreases-loop-at l = length l.plan - l.at
