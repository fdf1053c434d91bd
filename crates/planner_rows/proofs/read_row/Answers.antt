-- `planner_rows::read_row` meets its contract. The row becomes that of the walk in setting x.
-- Assumes nothing.
use mathlib.Core.Path.{refl}
use Rattle.planner_rows.proofs.KnownRows.{stop_known, path_known}
use Rattle.planner_rows.proofs.read_row.Goals as goal

pub returns-in-Err-clause-rows_right : goal.returns-in-Err-clause-rows_right
returns-in-Err-clause-rows_right c = stop_known _ _ c.args.problem _ c.requires.x_lt_max_settings.1 _ _ _ c.in-Err.ensures.each _ _ refl c.write_stop.ensures

pub returns-in-Ok-clause-rows_right : goal.returns-in-Ok-clause-rows_right
returns-in-Ok-clause-rows_right c = path_known _ _ c.args.problem _ c.requires.x_lt_max_settings.1 _ _ _ c.in-Ok.ensures.each _ _ refl c.write_path.ensures
