-- What a caller keeps between two calls, by its four numbers.
-- Assumes nothing.
use Rattle.std.specs.Prelude.{cond, ltb}
use Rattle.std.specs.Prelude.{Option, None as none, Some as some}
use Rattle.recover_model.specs.RecoverCalls.{Progress}
use Rattle.recover_line.specs.declared.Progress.{Progress as Numbers}

abbrev pub progress_from : Numbers → Progress
progress_from p = record { lines = p.lines; state = p.state; entries = p.entries; plan_bytes = p.bytes }

-- where a state has its number
abbrev pub if_state : Progress → Option Progress
if_state p = cond (ltb p.state 16) (some p) none
