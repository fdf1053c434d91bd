-- `planner_text::land_of` meets its contract.
-- Assumes nothing.
use native.Mathlib.Omega.{arith}
use Rattle.planner_text.proofs.Writings.{land_listed, land_in}
use Rattle.planner_text.proofs.land_of.Goals as goal

pub bounds-lands-c : goal.bounds-lands-c
bounds-lands-c c = let p = c.requires in omega (arith, land_listed p.chosen c.list_lands.ensures p.landing.1)

pub returns : goal.returns
returns c = let p = c.requires in land_in p.chosen c.list_lands.ensures p.landing.1 c.from.ensures
