-- `hold_lines::put_node` meets its contract.
-- Assumes nothing.
use mathlib.Core.Path.{sym, ◌∙◌}
use native.Mathlib.Omega.{arith}
use Rattle.program_lines.proofs.Parts.{puts_none}
use Rattle.hold_lines.proofs.Text.{segment_line, mux_line_law, segment_bytes}
use Rattle.hold_lines.proofs.put_node.Goals as goal

pub put_line-requires : goal.put_line-requires
put_line-requires c =
    let a = c.args in
    let s = c.requires in
    let is = sym c.is_segment.ensures ∙ c.if-is_segment.true in
    let len = c.segment_len.ensures in
    let l = s.configured.0.in_words.short a.s s.configured.1 (omega arith) in
    let b = segment_bytes a.nodes.now a.s a.bits.now a.known.now is in
    (omega (arith, len, l), omega (arith, len, b, s.s_in_bounds))

pub returns-then-is_segment : goal.returns-then-is_segment
returns-then-is_segment c =
    let a = c.args in
    let is = sym c.is_segment.ensures ∙ c.if-is_segment.true in
    rw (segment_line a.nodes.now a.s a.bits.now a.known.now is, ← c.segment_len.ensures) c.put_line.ensures

pub returns : goal.returns
returns c =
    let a = c.args in
    rw (mux_line_law a.nodes.now a.s a.bits.now a.known.now (sym c.is_segment.ensures ∙ c.if-is_segment.false)) (puts_none a.at a.out.now)
