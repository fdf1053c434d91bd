-- `clock_line::find_line` meets its contract.
-- Assumes nothing.
use native.Mathlib.Omega.{arith}
use Rattle.clock_line.proofs.Ends.{found_clocks}
use Rattle.clock_line.proofs.find_line.Goals as goal

pub returns-then-behind-eq10 : goal.returns-then-behind-eq10
returns-then-behind-eq10 c =
    found_clocks c.args.text.now _ _ _ (omega arith) (omega (arith, c.if-guess-text.true)) c.if-behind-eq10.true c.if-is_some.ensures c.count_clocks-clocks.ensures
