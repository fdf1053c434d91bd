-- `mark_answer::put_gots` meets its contract: the lines of the first rows are written.
-- Assumes nothing.
use mathlib.Core.Path.{◌≡◌}
use mathlib.Core.List.{map}
use Prim.Native.Nat.{◌+◌, ◌*◌, ◌≤◌}
use lib.ListN.{length, take}
use Rattle.model.specs.Printed.{got_lines}
use Rattle.program_lines.specs.Puts.{Puts}
use Rattle.marker_targets.specs.Answers.{got_of}
use Rattle.mark_answer.proofs.put_gots.Given as goal

abbrev pub invariant-loop-row : goal.invariant-loop-row
invariant-loop-row l =
    record {
      size : length l.out ≡ length l.initial.out;
      fits : l.next ≤ l.at + 67 * l.row-index;
      lines : Puts l.at (got_lines (map got_of (take l.row-index l.rows))) l.initial.out l.next l.out;
    }
