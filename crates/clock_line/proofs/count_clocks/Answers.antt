-- `clock_line::count_clocks` meets its contract.
-- Assumes nothing.
use mathlib.Core.Path.{refl, sym, ◌∙◌}
use borrow.Author.Tests.{leb-true}
use Rattle.clock_line.proofs.Lines.{no_room, not_tested, passed, word_here, no_word, no_tms, no_tdi, counted}
use Rattle.clock_line.proofs.count_clocks.Goals as goal
use Rattle.clock_line.proofs.count_clocks.Goals.{then-not-starts_with-via-then-not-starts_with, then-not-starts_with-via-else-not-starts_with+then-not-all_in}
use Rattle.clock_line.proofs.count_clocks.Goals.{then-line-tms_end-ne9-via-then-line-tms_end-ne9, then-line-tms_end-ne9-via-else-line-tms_end-ne9+then-not-all_in-2}

pub returns-in_err-n : goal.returns-in_err-n
returns-in_err-n c = rw c.from_residual.ensures (no_room _ c.in_err-n.ensures)

pub returns-then-not-starts_with : goal.returns-then-not-starts_with
returns-then-not-starts_with c = not_tested _ _ c.in_ok-n.ensures (λ t. elim c.then-not-starts_with.branch [
  | then-not-starts_with-via-then-not-starts_with w ↦ no_word _ _ _ c.starts_with.ensures.value w.if-not-starts_with.true t
  | then-not-starts_with-via-else-not-starts_with+then-not-all_in w ↦ no_tms _ _ (sym w.all_in.ensures ∙ w.if-not-all_in.true) t
])

pub returns-then-line-tms_end-ne9 : goal.returns-then-line-tms_end-ne9
returns-then-line-tms_end-ne9 c = not_tested _ _ c.in_ok-n.ensures (λ t. elim c.then-line-tms_end-ne9.branch [
  | then-line-tms_end-ne9-via-then-line-tms_end-ne9 w ↦ w.if-line-tms_end-ne9.true t.middle
  | then-line-tms_end-ne9-via-else-line-tms_end-ne9+then-not-all_in-2 w ↦ no_tdi _ _ (sym w.all_in-else-line-tms_end-ne9.ensures ∙ w.if-not-all_in-2.true) t
])

pub returns : goal.returns
returns c = let r = c.in_ok-n.ensures.fits _ refl in
    counted _ _ r.1 r.2 r.0
    (passed _ _ r.1 (word_here _ _ c.starts_with.ensures.value c.if-not-starts_with.false) c.if-line-tms_end-ne9.false (leb-true _ _ (sym c.all_in.ensures ∙ c.if-not-all_in.false))
    (leb-true _ _ (sym c.all_in-else-line-tms_end-ne9.ensures ∙ c.if-not-all_in-2.false)))
