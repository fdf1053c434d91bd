-- `network_reader::counts::steering_in` meets its contract.
-- Assumes nothing.
use Rattle.network_reader.specs.Counts.{count_in}
use Prim.Native.Nat.{◌+◌, ◌-◌, ◌≤◌}
use mathlib.Core.Path.{◌≡◌}
use Rattle.network_reader.proofs.counts.steering_in.Given as goal

abbrev pub invariant-loop-b : goal.invariant-loop-b
invariant-loop-b l = (l.sum ≤ l.b) × (l.sum + count_in l.word l.b (l.len - l.b) ≡ count_in l.word 0 l.len)
