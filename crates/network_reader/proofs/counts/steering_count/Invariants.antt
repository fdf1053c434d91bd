-- `network_reader::counts::steering_count` meets its contract. The invariant: sum is at most a word's width for each segment passed, and
-- sum and the bits of the segments from s on make the whole count.
-- Assumes nothing.
use Rattle.network_words.specs.Words.{word_width}
use Rattle.network_reader.specs.Counts.{count_from}
use Prim.Native.Nat.{◌+◌, ◌-◌, ◌*◌, ◌≤◌}
use mathlib.Core.Path.{◌≡◌}
use Rattle.network_reader.proofs.counts.steering_count.Given as goal

abbrev pub invariant-loop-s : goal.invariant-loop-s
invariant-loop-s l = (l.sum + word_width ≤ word_width * l.s) × (l.sum + count_from l.nodes l.steering l.s (l.count + 1 - l.s) ≡ count_from l.nodes l.steering 1 l.count)
