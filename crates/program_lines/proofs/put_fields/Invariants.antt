-- `program_lines::put_fields` meets its contract. The loop's invariant: the fields before the place are written.
-- Assumes nothing.
use Rattle.std.proofs.Common.{◌≡◌, ◌+◌, ◌*◌, ◌≤◌, length, take}
use Rattle.program_lines.specs.Puts.{Puts, tabbed}
use Rattle.program_lines.proofs.put_fields.Given as goal

abbrev pub invariant-loop-n : goal.invariant-loop-n
invariant-loop-n l = record {
  long : length l.out ≡ length l.initial.out;
  upper_bound : l.next ≤ l.at + 21 * l.n-index;
  puts : Puts l.at (tabbed (take l.n-index l.numbers)) l.initial.out l.next l.out;
}
