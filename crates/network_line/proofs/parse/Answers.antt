-- `network_line::parse` meets its contract, word by word.
-- Assumes nothing.
use mathlib.Core.Path.{refl, ap, ◌∙◌}
use Rattle.std.specs.Prelude.{None as none, option_map}
use Rattle.model.specs.Network.{read}
use Rattle.model.specs.NetworkText.{out, target}
use native.Mathlib.Omega.{arith}
use Rattle.model.specs.Text.{tab}
use Rattle.network_line.proofs.Lines.{parts_some, no_part, no_word, by_word, no_line, plain_line, number_law}
use Rattle.network_line.proofs.parse.Goals as goal

pub field-requires : goal.field-requires
field-requires c = (omega arith, parts_some tab _, c.split-f.ensures.placed)

pub returns-in_err-word_of : goal.returns-in_err-word_of
returns-in_err-word_of c = rw c.from_residual.ensures (no_word _ _ c.field.ensures c.in_err-word_of.ensures)

pub returns-in-Seg : goal.returns-in-Seg
returns-in-Seg c = by_word _ _ c.field.ensures _ _ _ c.in_ok-word_of.ensures c.in-Seg.is c.seg_line.ensures

pub returns-in_err-mux_line-in-Mux : goal.returns-in_err-mux_line-in-Mux
returns-in_err-mux_line-in-Mux c =
    rw c.from_residual-in_err-mux_line-in-Mux.ensures
    (by_word _ _ c.field.ensures _ _ _ c.in_ok-word_of.ensures c.in-Mux.is (no_line _ c.in_err-mux_line-in-Mux.ensures.means))

pub returns-in_ok-mux_line-in-Mux : goal.returns-in_ok-mux_line-in-Mux
returns-in_ok-mux_line-in-Mux c =
    let line = c.in_ok-mux_line-in-Mux.ensures in
    by_word _ _ c.field.ensures _ _ _ c.in_ok-word_of.ensures c.in-Mux.is (plain_line _ _ _ c.plain.ensures line.means line.good)

pub returns-in_err-number_line-in-Out : goal.returns-in_err-number_line-in-Out
returns-in_err-number_line-in-Out c =
    let line = c.in_err-number_line-in-Out.ensures in
    rw c.from_residual-in_err-number_line-in-Out.ensures
    (by_word _ _ c.field.ensures _ _ _ c.in_ok-word_of.ensures c.in-Out.is (no_line _ (ap (option_map out) line.value ∙ number_law out _)))

pub returns-in_ok-number_line-in-Out : goal.returns-in_ok-number_line-in-Out
returns-in_ok-number_line-in-Out c =
    let line = c.in_ok-number_line-in-Out.ensures in
    let plain = c.plain-in-Out.ensures in
    by_word _ _ c.field.ensures _ _ _ c.in_ok-word_of.ensures c.in-Out.is
    record { part = rw plain.empty (no_part _); means = rw plain.says (ap (option_map out) line.value ∙ number_law out _); good = rw plain.says line.small }

pub returns-in-Hold : goal.returns-in-Hold
returns-in-Hold c = by_word _ _ c.field.ensures _ _ _ c.in_ok-word_of.ensures c.in-Hold.is c.bits_line.ensures

pub returns-in-Write : goal.returns-in-Write
returns-in-Write c = by_word _ _ c.field.ensures _ _ _ c.in_ok-word_of.ensures c.in-Write.is c.bits_line-in-Write.ensures

pub returns-in-Csu : goal.returns-in-Csu
returns-in-Csu c = by_word _ _ c.field.ensures _ _ _ c.in_ok-word_of.ensures c.in-Csu.is (no_line none refl)

pub returns-in_err-number_line-in-Read : goal.returns-in_err-number_line-in-Read
returns-in_err-number_line-in-Read c =
    let line = c.in_err-number_line-in-Read.ensures in
    rw c.from_residual-in_err-number_line-in-Read.ensures
    (by_word _ _ c.field.ensures _ _ _ c.in_ok-word_of.ensures c.in-Read.is (no_line _ (ap (option_map (λ s. target (read s))) line.value ∙ number_law (λ s. target (read s)) _)))

pub returns-in_ok-number_line-in-Read : goal.returns-in_ok-number_line-in-Read
returns-in_ok-number_line-in-Read c =
    let line = c.in_ok-number_line-in-Read.ensures in
    by_word _ _ c.field.ensures _ _ _ c.in_ok-word_of.ensures c.in-Read.is
    (plain_line _ _ _ c.plain-in-Read.ensures (ap (option_map (λ s. target (read s))) line.value ∙ number_law (λ s. target (read s)) _) line.small)
