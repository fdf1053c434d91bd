-- `plan_text::check_form` meets its contract. The loop's invariant: n lines have good form, and the rest, from `at` on, decides.
-- Assumes nothing.
use Rattle.std.proofs.Common.{◌≡◌, ◌∙◌, None, Some}
use native.Mathlib.Omega.{arith}
use Rattle.std.proofs.lemmas.Result.{err_from_is_err_and}
use Rattle.plan_text.proofs.Forms.{form_long, form_start, form_end, form_late, form_bad, Onward, form_next}
use Rattle.plan_text.proofs.check_form.Goals as goal

pub returns-then-plan-gt-MAX_PLAN_BYTES : goal.returns-then-plan-gt-MAX_PLAN_BYTES
returns-then-plan-gt-MAX_PLAN_BYTES c = rw c.at.ensures (form_long _ c.if-plan-gt-MAX_PLAN_BYTES.true)

pub loop-at-init : goal.loop-at-init
loop-at-init c = record { within = omega arith; few = omega arith; decides = form_start _ c.if-plan-gt-MAX_PLAN_BYTES.false }

pub returns-then-n-eq-MAX_OPERATIONS : goal.returns-then-n-eq-MAX_OPERATIONS
returns-then-n-eq-MAX_OPERATIONS c = rw c.at-refusal.ensures (form_late _ _ _ c.loop-at.invariant.decides c.loop-at-test.true c.if-n-eq-MAX_OPERATIONS.true)

pub returns-in_err-at : goal.returns-in_err-at
returns-in_err-at c =
    let p = err_from_is_err_and c.from_residual.result c.from_residual.ensures.1 in
    let no_line : None ≡ c.line_at.result = grind (arith, c.in_err-at.ensures) in
    let why : c.in_err-at.field-0.0 ≡ c.at-refusal.result = grind (arith, c.in_err-at.ensures) in
    rw (p.1, p.2, why, c.at-refusal.ensures) (form_bad _ _ _ c.loop-at.invariant.decides c.loop-at-test.true (no_line ∙ c.line_at.ensures))

pub loop-at-preserved : goal.loop-at-preserved
loop-at-preserved c =
    let here : Some c.in_ok-at.at ≡ c.line_at.result = grind (arith, c.in_ok-at.ensures) in
    let on : Onward c.args.plan.now c.loop-at.n c.loop-at.at c.loop-at.invariant.decides c.in_ok-at.at =
    form_next _ _ _ _ _ (omega (arith, c.if-n-eq-MAX_OPERATIONS.false)) (here ∙ c.line_at.ensures) in
    record { within = on.within; few = omega (arith, c.if-n-eq-MAX_OPERATIONS.false); decides = on.decides }

pub returns : goal.returns
returns c = form_end _ _ _ c.loop-at.invariant.decides c.loop-at-test.false
