-- `hold_lines::put_trits` meets its contract.
-- Assumes nothing.
use Rattle.hold_lines.proofs.Bits.{puts_unknown}
use Rattle.hold_lines.proofs.put_trits.Goals as goal

pub returns-then-known-eq0-clause-puts : goal.returns-then-known-eq0-clause-puts
returns-then-known-eq0-clause-puts c =
    let a = c.args in
    let p = c.put_repeated.ensures in
    puts_unknown a.len a.bits a.known a.at _ _ _ c.if-known-eq0.true p.value p.buf_after
