-- `marker_operations::note_targets` meets its contract: the targets below i are noted.
-- Assumes nothing.
use Rattle.std.proofs.Common.{◌≡◌, ◌≤◌, ◌<◌, ℕ, length, take}
use Rattle.network_path.specs.Layout.{scan_path}
use Rattle.marker_operations.specs.Operations.{access_at, segment_at, access_after}
use Rattle.marker_operations.proofs.note_targets.Given as goal

abbrev pub invariant-loop-i : goal.invariant-loop-i
invariant-loop-i l =
    record {
      size : length l.met ≡ 4;
      noted : (j : ℕ) → j < l.i → access_at l.met j ≡ access_after (scan_path l.nodes (take l.n l.way)) (segment_at l.targets j) l.k (access_at l.initial.met j);
      others : (j : ℕ) → l.i ≤ j → access_at l.met j ≡ access_at l.initial.met j;
    }
