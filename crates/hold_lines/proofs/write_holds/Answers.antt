-- `hold_lines::write_holds` meets its contract.
-- Assumes nothing.
use Rattle.hold_lines.proofs.Text.{enough}
use Rattle.hold_lines.proofs.write_holds.Goals as goal

pub returns : goal.returns
returns c =
    let a = c.args in
    enough _ _ _ _ (c.text_length-needed.ensures a.bits.now a.known.now) c.if-out-needed.false c.put_text.ensures
