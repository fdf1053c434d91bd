-- `network_reader::start::start_marks` meets its contract.
-- Assumes nothing.
use native.Mathlib.Omega.{arith}
use lib.Pow.{pow_pos, pow_mono}
use borrow.Author.Tests.{eq-eqb, ne_eqb}
use Rattle.network_words.specs.Words.{word_width}
use Rattle.network_reader.proofs.Starting.{twice_top}
use Rattle.network_reader.proofs.start.start_marks.Goals as goal

pub returns-then-steering-eq0 : goal.returns-then-steering-eq0
returns-then-steering-eq0 c = rw (eq-eqb _ 0 c.if-steering-eq0.true)

pub returns-then-len-eq0 : goal.returns-then-len-eq0
returns-then-len-eq0 c = rw (ne_eqb _ 0 c.if-steering-eq0.false, c.if-len-eq0.true)

pub overflow_sub-result : goal.overflow_sub-result
overflow_sub-result c = omega (arith, twice_top _ _ c.if-len-eq0.false c.only_bit-top.ensures, pow_pos c.args.len)

pub overflow_add-result : goal.overflow_add-result
overflow_add-result c = omega (arith, twice_top _ _ c.if-len-eq0.false c.only_bit-top.ensures, pow_mono {i = c.args.len} {j = word_width} c.requires)

pub returns : goal.returns
returns c = rw (ne_eqb _ 0 c.if-steering-eq0.false)
    (omega (arith, twice_top _ _ c.if-len-eq0.false c.only_bit-top.ensures, pow_pos c.args.len))
