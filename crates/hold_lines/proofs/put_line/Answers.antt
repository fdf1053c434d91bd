-- `hold_lines::put_line` meets its contract: the parts of the line, each behind the one before it.
-- Assumes nothing.
use native.Mathlib.Omega.{arith}
use Rattle.network_words.specs.Words.{trits_of}
use Rattle.hold_lines.proofs.Text.{trits_length, puts_line}
use Rattle.hold_lines.proofs.put_line.Goals as goal

pub returns : goal.returns
returns c =
    let a = c.args in
    let word = c.put-number.ensures in
    let digits = c.put_number-number_end.ensures in
    let parted = c.put-start.ensures in
    let ended = c.put.ensures in
    puts_line a.s (trits_of a.len a.bits a.known) (omega (arith, trits_length a.len a.bits a.known, c.requires.1))
    (word.value, word.buf_after) (digits.value.0, digits.out_after) (parted.value, parted.buf_after) c.put_trits-end.ensures.puts (ended.value, ended.buf_after)
