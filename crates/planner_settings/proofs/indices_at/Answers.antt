-- `planner_settings::indices_at` meets its contract. A segment whose word of steering bits is 0 has none of them.
-- Assumes nothing.
use Rattle.planner_settings.proofs.Ordering.{indexing_clear}
use Rattle.planner_settings.proofs.indices_at.Goals as goal

pub returns-then-steering-s-eq0 : goal.returns-then-steering-s-eq0
returns-then-steering-s-eq0 c =
    indexing_clear c.args.steering.now c.args.listed.now _ _ _ _ c.requires.steers c.requires.k_bound.2 c.requires.k_bound.3 c.if-steering-s-eq0.true
