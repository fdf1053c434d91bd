-- `network_line::mux_line` meets its contract. The loop's invariant: the first k inputs are read.
-- Assumes nothing.
use Rattle.model.specs.Text.{fields}
use Rattle.network_line.proofs.MuxLines.{Done}
use Rattle.network_line.proofs.mux_line.Given as goal

abbrev pub invariant-loop-k : goal.invariant-loop-k
invariant-loop-k l = Done (fields l.line) l.inputs l.k
