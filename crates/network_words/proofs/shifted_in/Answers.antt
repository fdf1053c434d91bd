-- `network_words::shifted_in` meets its contract.
-- Assumes nothing.
use Rattle.network_words.specs.Words.{word_width}
use Rattle.network_words.proofs.WordLaws.{top_placed}
use Rattle.network_words.proofs.shifted_in.Goals as goal

pub returns : goal.returns
returns c = let h = c.requires in top_placed c.args.len h.1.0 word_width c.args.w c.args.b h.0 h.1.1.0 h.1.1.1
