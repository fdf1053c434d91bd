-- `hold_lines::is_segment` meets its contract.
-- Assumes nothing.
use Rattle.hold_lines.proofs.Text.{is_segment_law}
use Rattle.hold_lines.proofs.is_segment.Goals as goal

pub returns : goal.returns
returns c = is_segment_law _ _ _ c.field.ensures
