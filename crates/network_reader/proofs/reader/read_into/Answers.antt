-- `network_reader::reader::read_into` meets its contract: a text is refused as the model refuses it, for its length or as its lines
-- and its start end, and otherwise the arrays and counts are of the model's network.
-- Assumes nothing.
use native.Mathlib.Omega.{arith}
use mathlib.Core.Path.{◌∙◌}
use Rattle.std.proofs.lemmas.Result.{err_from_is_err_and}
use Rattle.network_draft.proofs.Representing.{represented_words}
use Rattle.network_reader.proofs.ReadingNetwork.{represents_zero, ends_refused, too_long, of_lines, begun, start_ends}
use Rattle.network_reader.proofs.reader.read_into.Goals as goal

pub returns-then-text-gt-MAX_NETWORK_BYTES : goal.returns-then-text-gt-MAX_NETWORK_BYTES
returns-then-text-gt-MAX_NETWORK_BYTES c = rw c.at.ensures (ends_refused _ _ _ _ _ _ (too_long c.args.text.now (omega arith)))

pub read_lines-requires : goal.read_lines-requires
read_lines-requires c = (omega arith, represents_zero _ _ _ _ c.requires)

pub returns-in_err-summary : goal.returns-in_err-summary
returns-in_err-summary c =
    let p = err_from_is_err_and c.from_residual.result c.from_residual.ensures.1 in
    rw (p.1, p.2) (ends_refused _ _ _ _ _ _ (of_lines c.args.text.now (omega arith) ∙ c.in_err-summary.ensures))

pub fill_start-requires : goal.fill_start-requires
fill_start-requires c = let w = c.in_ok-summary.ensures.represented in
    (w.in_limits.nodes_fit, represented_words w, w.sized.bit_words, w.sized.known_words)

pub walk_start-requires : goal.walk_start-requires
walk_start-requires c = (_, (_, begun c.args.text.now (omega arith) _ _ c.in_ok-summary.ensures _ _ c.fill_start.ensures))

pub returns : goal.returns
returns c = start_ends c.args.text.now (omega arith) _ _ c.in_ok-summary.ensures _ _ c.fill_start.ensures _ c.walk_start.ensures
