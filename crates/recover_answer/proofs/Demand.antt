-- The demand of the recover program's printing function, from the model's theorem.
-- Assumes nothing.
use mathlib.Core.Path.{ap, ◌∙◌}
use Rattle.model.specs.Printed.{printed}
use Rattle.recover_model.proofs.Requests.{cut_in_parts}
use Rattle.program_text.proofs.Demand.{writes_shown}
use Rattle.recover_answer.specs.Demand.{RecoveredWritten}
use Rattle.recover_answer.proofs.RecoveryShown.{alike_end, took_parts}

pub recovered_written : RecoveredWritten
recovered_written orig cut answer rest plan few room took r new p =
    writes_shown _ plan r new p ∙ ap (printed (λ text. text)) (alike_end _ _ (took_parts orig cut answer rest plan took)) ∙ cut_in_parts cut orig few room
