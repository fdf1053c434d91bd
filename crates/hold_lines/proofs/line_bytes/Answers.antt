-- `hold_lines::line_bytes` meets its contract.
-- Assumes nothing.
use mathlib.Core.Path.{sym, ap, ◌∙◌}
use native.Mathlib.Omega.{arith}
use lib.ListN.{length}
use borrow.Author.Rules.{rules}
use Rattle.program_lines.proofs.Digits.{at_most_20}
use Rattle.hold_lines.proofs.Text.{mux_line_law, segment_bytes}
use Rattle.hold_lines.proofs.line_bytes.Goals as goal

pub overflow_add-result : goal.overflow_add-result
overflow_add-result c =
    let n = at_most_20 c.args.s (search rules) in
    omega (arith, n, c.digit_count.ensures)

pub overflow_add-result-then-is_segment : goal.overflow_add-result-then-is_segment
overflow_add-result-then-is_segment c =
    let n = at_most_20 c.args.s (search rules) in
    let l = c.requires.0.short c.args.s c.requires.1 (omega arith) in
    omega (arith, n, l, c.digit_count.ensures, c.segment_len.ensures)

pub returns-then-is_segment : goal.returns-then-is_segment
returns-then-is_segment c =
    let a = c.args in
    let n = at_most_20 a.s (search rules) in
    let l = c.requires.0.short a.s c.requires.1 (omega arith) in
    let d = c.digit_count.ensures in
    let e = c.segment_len.ensures in
    let is = sym c.is_segment.ensures ∙ c.if-is_segment.true in
    record {
      line_length = λ bits known. omega (arith, d, e, segment_bytes a.nodes.now a.s bits known is);
      upper_bound = omega (arith, n, l, d, e);
    }

pub returns-clause-line_length : goal.returns-clause-line_length
returns-clause-line_length c = λ bits known. sym (ap length (mux_line_law _ _ bits known (sym c.is_segment.ensures ∙ c.if-is_segment.false)))
