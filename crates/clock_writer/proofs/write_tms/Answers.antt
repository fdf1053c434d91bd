-- `clock_writer::write_tms` meets its contract: one write for no bits; else three writes, each behind the one before it.
-- Assumes nothing.
use mathlib.Core.Path.{◌≡◌, sym, ap, ◌∙◌}
use mathlib.Core.List.{List}
use Prim.Native.Nat.{ℕ, ◌+◌, ◌-◌}
use native.Mathlib.Omega.{arith}
use lib.ListN.{length, replicate, length-replicate}
use Rattle.model.specs.Text.{bytes}
use Rattle.plan_text.specs.Writing.{write_at}
use Rattle.plan_text.proofs.Writing.{write_three}
use Rattle.clock_writer.proofs.Rows.{tms_some}
use Rattle.clock_writer.proofs.write_tms.Goals as goal

pub returns-clause-tms_after : goal.returns-clause-tms_after
returns-clause-tms_after c = let a = c.args in
    let zeros = replicate {A = ℕ} (a.n - 1) 48 in
    let l : length zeros ≡ a.n - 1 = length-replicate (a.n - 1) 48 in
    let last = c.put_repeated-last.ensures.value ∙ ap (λ (m : ℕ). c.put-shift.result + m) (sym l) in
    write_three a.at _ _ (bytes "100") zeros (bytes "110") a.tms.now (omega arith)
    c.put-shift.ensures.value c.put-shift.ensures.buf_after last c.put_repeated-last.ensures.buf_after c.put-2.ensures.buf_after
    ∙ ap (λ (row : List ℕ). write_at a.at row a.tms.now) (sym (tms_some a.n c.if-n-eq0.false))
