-- `clock_writer::run` meets its contract. The loop's invariant: from the state now on, the clocks from here on lead to the last state.
-- Assumes nothing.
use mathlib.Core.Path.{◌≡◌}
use mathlib.Core.List.{map}
use lib.ListN.{drop}
use Rattle.model.specs.Tap.{state_at, state_after}
use Rattle.clock_writer.specs.Machine.{is_one, state_code}
use Rattle.clock_writer.proofs.run.Given as goal

abbrev pub invariant-loop-byte : goal.invariant-loop-byte
invariant-loop-byte l =
    state_after (state_at (state_code l.now)) (map is_one (drop l.byte-index l.tms)) ≡ state_after (state_at (state_code l.initial.now)) (map is_one l.tms)
