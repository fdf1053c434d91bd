-- 69 bytes are enough for each line.
use Rattle.std.proofs.Common.{◌≡◌, ◌*◌, ◌≤◌, length}
use Rattle.controller_table.proofs.put_states.Given as goal

abbrev pub invariant-loop-state : goal.invariant-loop-state
invariant-loop-state l = (l.end ≤ 69 * l.state-index) × (length l.out ≡ length l.initial.out)
