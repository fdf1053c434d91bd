-- `planner_settings::digit_off` meets its contract. The digit is 0 where the segment is marked.
-- Assumes nothing.
use native.Mathlib.Omega.{arith}
use Rattle.planner_settings.proofs.Basing.{power_small, power_positive}
use Rattle.planner_settings.proofs.digit_off.Goals as goal

pub pow-requires : goal.pow-requires
pow-requires c = omega (arith, power_small c.args.j (omega arith))

pub nonzero_div-result : goal.nonzero_div-result
nonzero_div-result c = power_positive _ _ c.pow.ensures
