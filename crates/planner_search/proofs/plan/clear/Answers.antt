-- `planner_search::plan::clear` meets its contract.
-- Assumes nothing.
use Rattle.planner_search.proofs.Zeros.{zeros_put}
use Rattle.planner_search.proofs.plan.clear.Goals as goal

pub returns : goal.returns
returns c = zeros_put c.args.table.now c.fill.new.self c.requires (c.fill.ensures.after (λ y e. e))
