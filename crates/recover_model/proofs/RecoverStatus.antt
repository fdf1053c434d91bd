-- The exit status of the recover program tells refusals: only their line begins with `fail`.
-- Assumes nothing.
use mathlib.Core.Path.{◌≡◌}
use Rattle.model.specs.Text.{Bytes}
use Rattle.model.specs.PlanText.{write_plan}
use Rattle.model.specs.Printed.{exit_status}
use Rattle.model.specs.Demands.{status_for}
use Rattle.model.proofs.ExitStatus.{status_by, csu_status}
use Rattle.recover_model.specs.Recover.{recover, recover_program}

pub recover_status : (t : Bytes) → exit_status (recover_program t) ≡ status_for (recover t)
unfolding recover_program
recover_status t = status_by write_plan (recover t) (λ plan e. csu_status plan)
