-- `network_reader::reader::read_lines` meets its contract: the lines that are left are read from the draft of the lines before.
-- Assumes nothing.
use Rattle.std.proofs.lemmas.Result.{err_from_is_err_and}
use Rattle.network_reader.proofs.ReadingLines.{standing_start, standing_unended, standing_refused, standing_next, no_out_line, out_line}
use Rattle.network_reader.specs.Reads.{finish_of}
use borrow.Author.Rules.{rules}
use borrow.Author.Tests.{not-true, not-false}
use native.Mathlib.Omega.{arith}
use mathlib.Core.Path.{ap, ◌∙◌}
use lib.ListN.{length}
use Prim.Native.Nat.{◌<◌}
use Rattle.network_reader.proofs.reader.read_lines.Goals as goal

pub loop-at-init : goal.loop-at-init
loop-at-init c = (omega arith, omega arith, standing_start _ (rw c.empty_summary-summary.ensures c.requires.1))

pub returns-then-end-text : goal.returns-then-end-text
returns-then-end-text c =
    rw c.at.ensures (ap finish_of (standing_unended c.loop-at.invariant.2 _ c.end_of-end.ensures (omega arith) c.if-end-text.true))

pub add_line-requires : goal.add_line-requires
add_line-requires c = let s = c.loop-at.invariant.2 in
    (s.draft, s.represented)

pub returns-in_err-summary : goal.returns-in_err-summary
returns-in_err-summary c =
    let p = err_from_is_err_and c.from_residual.result c.from_residual.ensures.1 in
    rw (p.1, p.2) (ap finish_of (standing_refused c.loop-at.invariant.2 _ _ c.end_of-end.ensures (omega arith) _ c.in_err-summary.ensures))

pub loop-at-preserved : goal.loop-at-preserved
loop-at-preserved c =
    let ended : c.end_of-end.result < length c.args.text.now = omega arith in
    (omega arith, omega arith, standing_next c.loop-at.invariant.2 _ _ c.end_of-end.ensures ended _ c.in_ok-summary.ensures)

pub returns-then-not-summary : goal.returns-then-not-summary
returns-then-not-summary c = rw c.at-then-not-summary.ensures (no_out_line c.loop-at.invariant.2 c.loop-at-test.false (not-true _ c.if-not-summary.true))

pub returns : goal.returns
returns c = out_line c.loop-at.invariant.2 c.loop-at-test.false (not-false _ c.if-not-summary.false)
