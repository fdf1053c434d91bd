-- `text::split` meets its contract. The loop's invariant: the fields before `at` are placed and the next one begins there.
-- Assumes nothing.
use Prim.Native.Nat.{◌-◌, suc}
use lib.ListN.{length}
use Rattle.text.proofs.Splitting.{Open}
use Rattle.text.proofs.split.Given as goal

abbrev pub invariant-loop-count : goal.invariant-loop-count
invariant-loop-count l = Open l.line l.starts l.count l.at

abbrev pub decreases-loop-count : goal.decreases-loop-count
decreases-loop-count l = suc (length l.line) - l.at
