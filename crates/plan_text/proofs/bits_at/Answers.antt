-- `plan_text::bits_at` meets its contract.
-- Assumes nothing.
use borrow.Author.Rules.{rules}
use Rattle.plan_text.proofs.Bits.{run_part}
use Rattle.plan_text.proofs.bits_at.Goals as goal

pub slice_bounds-result-end : goal.slice_bounds-result-end
slice_bounds-result-end c = (run_part _ _ _ (search rules) c.bits_end-end.ensures).0

pub returns : goal.returns
returns c = (run_part _ _ _ (search rules) c.bits_end-end.ensures).1
