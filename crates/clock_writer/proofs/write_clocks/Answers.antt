-- `clock_writer::write_clocks` meets its contract: each answer by the tests that led to it.
-- Assumes nothing.
use Rattle.std.proofs.lemmas.Result.{err_from_is_err_and}
use Rattle.plan_text.proofs.Forms.{form_good, form_refused}
use Rattle.clock_writer.proofs.Answers.{bad_form, short, all_written}
use Rattle.clock_writer.proofs.write_clocks.Goals as goal

pub returns-in_err-check_form : goal.returns-in_err-check_form
returns-in_err-check_form c =
    let p = err_from_is_err_and c.from_residual.result c.from_residual.ensures.1 in
    rw (p.1, p.2) (bad_form _ _ _ _ (form_refused _ _ _ c.check_form.ensures c.in_err-check_form.was))

pub returns-then-tms-n : goal.returns-then-tms-n
returns-then-tms-n c = let g = form_good _ _ _ c.check_form.ensures c.in_ok-check_form.was in
    rw c.at.ensures (short _ _ _ g.plan g.reads c.then-tms-n.either)

pub returns : goal.returns
returns c = let g = form_good _ _ _ c.check_form.ensures c.in_ok-check_form.was in
    all_written _ _ _ g.plan g.reads c.if-tms-n.false c.if-tdi-n.false _ _ c.write_lines.ensures.tms_after c.write_lines.ensures.tdi_after
