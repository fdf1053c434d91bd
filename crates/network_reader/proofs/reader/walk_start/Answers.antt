-- `network_reader::reader::walk_start` meets its contract: the start's path stops, or its length and the steering bits are counted.
-- Assumes nothing.
use Prim.Native.Nat.{ℕ}
use lib.ListN.{length-replicate}
use Rattle.network_reader.proofs.ReadingNetwork.{start_walkable, start_short, ends_refused, start_stops, start_recorded}
use Rattle.network_reader.proofs.reader.walk_start.Goals as goal

pub find_path-requires : goal.find_path-requires
find_path-requires c = start_walkable c.requires.1.1 _ (length-replicate {A = ℕ} 128 0)

pub steering_count-requires : goal.steering_count-requires
steering_count-requires c = start_short c.requires.1.1

pub returns-in-Err : goal.returns-in-Err
returns-in-Err c = λ d n b. rw c.at.ensures (ends_refused _ _ _ _ _ _ (start_stops b _ _ c.in-Err.ensures))

pub returns-in-Ok : goal.returns-in-Ok
returns-in-Ok c = λ d n b. start_recorded b _ _ c.in-Ok.ensures _ c.steering_count.ensures
