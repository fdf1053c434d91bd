-- `network_entries::len_of` meets its contract.
-- Assumes nothing.
use mathlib.Core.Path.{sym, ap, ◌∙◌}
use Rattle.model.specs.Network.{len_of}
use Rattle.network_path.proofs.NodeLaws.{node_in, node_beyond}
use Rattle.network_entries.proofs.len_of.Goals as goal

pub returns-then-count-s-clause-long : goal.returns-then-count-s-clause-long
returns-then-count-s-clause-long c = sym (ap len_of (node_beyond c.args.nodes.now c.args.count c.args.s c.if-count-s.true))

pub returns-in-0-clause-long : goal.returns-in-0-clause-long
returns-in-0-clause-long c = sym c.in-0.is ∙ c.segment_len.ensures ∙ sym (ap len_of (node_in c.args.nodes.now c.args.count c.args.s c.if-s-lt1.false c.if-count-s.false))

pub returns-in_default-clause-long : goal.returns-in_default-clause-long
returns-in_default-clause-long c = c.segment_len.ensures ∙ sym (ap len_of (node_in c.args.nodes.now c.args.count c.args.s c.if-s-lt1.false c.if-count-s.false))
