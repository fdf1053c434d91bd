-- `planner_settings::setting_count` meets its contract.
-- Assumes nothing.
use native.Mathlib.Omega.{arith}
use Rattle.planner_settings.proofs.Basing.{power_small}
use Rattle.planner_settings.proofs.setting_count.Goals as goal

pub pow-requires : goal.pow-requires
pow-requires c = omega (arith, power_small c.args.k c.requires)

pub returns : goal.returns
returns c = (c.pow.ensures, omega (arith, c.pow.ensures, power_small c.args.k c.requires))
