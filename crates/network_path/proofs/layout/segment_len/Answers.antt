-- `network_path::layout::segment_len` meets its contract.
-- Assumes nothing.
use mathlib.Core.Path.{sym, ap, ◌∙◌}
use Rattle.model.specs.Network.{len_of}
use Rattle.network_path.proofs.NodeLaws.{segment_at_law, mux_at}
use Rattle.network_path.proofs.layout.segment_len.Goals as goal

pub returns-then-field-lt2 : goal.returns-then-field-lt2
returns-then-field-lt2 c = c.field-then-field-lt2.ensures ∙ sym (ap len_of (segment_at_law _ _ _ c.field.ensures c.if-field-lt2.true))

pub returns : goal.returns
returns c = sym (ap len_of (mux_at _ _ _ c.field.ensures c.if-field-lt2.false))
