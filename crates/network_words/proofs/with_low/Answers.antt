-- `network_words::with_low` meets its contract.
-- Assumes nothing.
use Prim.Native.Nat.{◌-◌}
use native.Mathlib.Omega.{arith}
use Rattle.network_words.specs.Words.{word_width}
use Rattle.network_words.proofs.WordLaws.{low_place}
use Rattle.network_words.proofs.with_low.Goals as goal

pub returns : goal.returns
returns c = low_place word_width (word_width - 1) c.args.w c.args.b c.requires.0 c.requires.1 (omega arith)
