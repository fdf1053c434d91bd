-- `marker_operations::run_lines` meets its contract. The invariant is the law `Going`; the measure is what is left of the text.
-- Assumes nothing.
use mathlib.Core.Path.{◌≡◌}
use native.Mathlib.Omega.{arith}
use Rattle.std.specs.Prelude.{Err}
use Rattle.marker_operations.proofs.Running.{going_start, going_end, going_room, going_further, going_refused, going_next}
use Rattle.marker_operations.proofs.run_lines.Goals as goal

pub loop-at-init : goal.loop-at-init
loop-at-init c = λ net whole e o. going_start _ _ _ _ _ _ _ e o c.requires.reached

pub bits_at-scan-requires : goal.bits_at-scan-requires
bits_at-scan-requires c =
    let s = c.requires in
    let g = c.loop-at.invariant s.on_some_path.0 s.has_form.0 s.has_form.1 s.on_some_path.1 in
    going_room _ _ _ _ _ _ _ _ _ _ g c.loop-at-test.true

pub run_operation-requires : goal.run_operation-requires
run_operation-requires c =
    let s = c.requires in
    let g = c.loop-at.invariant s.on_some_path.0 s.has_form.0 s.has_form.1 s.on_some_path.1 in
    (s.on_some_path.0, g.on)

pub returns-in_err-path : goal.returns-in_err-path
returns-in_err-path c =
    let gone : c.from_residual.result ≡ Err c.in_err-path.field-0.0 = grind arith in
    rw gone (λ net whole e p. going_refused _ _ _ _ _ _ _ _ _ _ (c.loop-at.invariant net whole e p) c.loop-at-test.true _ c.bits_at-scan.ensures _ _ c.in_err-path.ensures)

pub overflow_add-at-in-loop-at : goal.overflow_add-at-in-loop-at
overflow_add-at-in-loop-at c =
    let s = c.requires in
    let g = c.loop-at.invariant s.on_some_path.0 s.has_form.0 s.has_form.1 s.on_some_path.1 in
    omega (arith, going_further _ _ _ _ _ _ _ _ _ _ g c.loop-at-test.true _ c.bits_at-scan.ensures)

pub overflow_add-k : goal.overflow_add-k
overflow_add-k c =
    let s = c.requires in
    let g = c.loop-at.invariant s.on_some_path.0 s.has_form.0 s.has_form.1 s.on_some_path.1 in
    omega (arith, going_further _ _ _ _ _ _ _ _ _ _ g c.loop-at-test.true _ c.bits_at-scan.ensures, g.few)

pub loop-at-preserved : goal.loop-at-preserved
loop-at-preserved c = λ net whole e p. going_next _ _ _ _ _ _ _ _ _ _ (c.loop-at.invariant net whole e p) c.loop-at-test.true _ c.bits_at-scan.ensures _ _ c.in_ok-path.ensures

pub returns : goal.returns
returns c = λ net whole e p. going_end _ _ _ _ _ _ _ _ _ _ (c.loop-at.invariant net whole e p) c.loop-at-test.false
