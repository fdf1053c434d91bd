-- `network_reader::reader::add_line` meets its contract: by the kind of line n, what is added agrees with what the model adds.
-- Assumes nothing.
use mathlib.Core.Path.{refl, sym}
use Rattle.std.proofs.lemmas.Result.{err_from_is_err_and}
use Rattle.network_draft.proofs.Representing.{represented_formed, represented_words}
use Rattle.network_reader.proofs.ReadingLines.{line_is, entry_good}
use Rattle.network_reader.proofs.reader.add_line.Goals as goal

pub returns-in_default : goal.returns-in_default
returns-in_default c = λ d w. rw (c.at.ensures, sym c.in_default.ensures.means) (refl, refl)

pub add_node-requires : goal.add_node-requires
add_node-requires c = let w = c.requires.1 in
    ((entry_good _ _ c.in-Some.ensures _ c.in-Node.is).0, w.in_limits, w.sized)

pub returns-in-Node : goal.returns-in-Node
returns-in-Node c = let good = entry_good _ _ c.in-Some.ensures _ c.in-Node.is in
    λ d w. rw (line_is _ _ c.in-Some.ensures _ c.in-Node.is) (c.add_node.ensures d good.1 w)

pub add_out-requires : goal.add_out-requires
add_out-requires c = let w = c.requires.1 in
    (w.in_limits, represented_formed w)

pub returns-in-Out : goal.returns-in-Out
returns-in-Out c = λ d w.
    rw (line_is _ _ c.in-Some.ensures _ c.in-Out.is) (c.add_out.ensures c.args.bits.now c.args.known.now c.args.steering.now c.args.held.now d w)

pub add_hold-requires : goal.add_hold-requires
add_hold-requires c = let w = c.requires.1 in
    (w.in_limits, represented_words w, w.sized.bit_words, w.sized.known_words, w.sized.held_flags)

pub returns-in_err-add_hold-in-Hold : goal.returns-in_err-add_hold-in-Hold
returns-in_err-add_hold-in-Hold c =
    let good = entry_good _ _ c.in-Some.ensures _ c.in-Hold.is in
    let p = err_from_is_err_and c.from_residual.result c.from_residual.ensures.1 in
    λ d w. rw (p.1, p.2, line_is _ _ c.in-Some.ensures _ c.in-Hold.is) (c.in_err-add_hold-in-Hold.ensures c.args.steering.now d good.1 w)

pub returns-in_ok-add_hold-in-Hold : goal.returns-in_ok-add_hold-in-Hold
returns-in_ok-add_hold-in-Hold c = let good = entry_good _ _ c.in-Some.ensures _ c.in-Hold.is in
    λ d w. rw (line_is _ _ c.in-Some.ensures _ c.in-Hold.is) (c.in_ok-add_hold-in-Hold.ensures c.args.steering.now d good.1 w)

pub add_write-requires : goal.add_write-requires
add_write-requires c = let w = c.requires.1 in
    (w.in_limits, represented_words w)

pub returns-in-Write : goal.returns-in-Write
returns-in-Write c = let good = entry_good _ _ c.in-Some.ensures _ c.in-Write.is in
    λ d w. rw (line_is _ _ c.in-Some.ensures _ c.in-Write.is) (c.add_write.ensures c.args.bits.now c.args.known.now c.args.held.now d good.1 w)

pub returns-in-Read : goal.returns-in-Read
returns-in-Read c = λ d w.
    rw (line_is _ _ c.in-Some.ensures _ c.in-Read.is) (c.add_read.ensures c.args.bits.now c.args.known.now c.args.held.now d w)
