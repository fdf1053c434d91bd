-- `network_reader::reader::read_network` meets its contract: the arrays that a text was read into, as one record, or the refusal.
-- Assumes nothing.
use mathlib.Core.Path.{refl}
use Rattle.std.proofs.lemmas.Result.{err_from_is_err_and}
use Rattle.network_reader.proofs.reader.read_network.Goals as goal

pub read_into-requires : goal.read_into-requires
read_into-requires c = record { nodes_are = refl; bits_are = refl; known_are = refl; steering_are = refl }

pub returns-in_err-filled : goal.returns-in_err-filled
returns-in_err-filled c =
    let p = err_from_is_err_and c.from_residual.result c.from_residual.ensures.1 in
    rw (p.1, p.2) record { reads = c.in_err-filled.ensures.reads; filled = tt }

pub returns : goal.returns
returns c = record { reads = c.in_ok-filled.ensures.reads; filled = c.in_ok-filled.ensures.filled }
