-- `network_reader::start::fill_one` meets its contract.
-- Assumes nothing.
use Rattle.network_reader.proofs.Starting.{one_given, one_free}
use borrow.Author.Rules.{rules}
use Rattle.network_reader.proofs.start.fill_one.Goals as goal

pub returns-then-held-s-ne0 : goal.returns-then-held-s-ne0
returns-then-held-s-ne0 c = one_given _ _ c.if-held-s-ne0.true

pub returns : goal.returns
returns c = one_free _ _ _ c.if-held-s-ne0.false (search rules) (search rules) _ c.segment_len.ensures c.start_marks.ensures
