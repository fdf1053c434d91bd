-- `recover_line::step::check_line` meets its contract.
-- Assumes nothing.
use Rattle.std.specs.Prelude.{None as none, Some as some, option_map}
use Rattle.std.proofs.lemmas.Result.{err_from_is_err_and}
use mathlib.Core.List.{map}
use mathlib.Core.Path.{◌≡◌, ◌∙◌, ap}
use native.Mathlib.Omega.{arith}
use lib.ListN.{length, length-take, drop}
use Rattle.model.specs.Text.{Bytes}
use Rattle.recover_model.proofs.GoesOn.{tested}
use Rattle.clock_writer.specs.Machine.{is_one}
use Rattle.clock_line.proofs.Lines.{HasClocks, counted_clocks}
use Rattle.clock_follower.specs.Counts.{progress_for, counts_by}
use Rattle.recover_line.proofs.OneLine.{cannot_go_on, no_clocks, step_followed}
use Rattle.recover_line.proofs.step.check_line.Goals as goal
use Rattle.recover_line.proofs.step.check_line.Goals.{In_ok-clocks}

its_clocks : (c : In_ok-clocks) → HasClocks c.args.line.now c.in_ok-clocks.clocks
its_clocks c =
    let counted : some c.in_ok-clocks.clocks ≡ c.count_clocks.result = grind arith in
    counted_clocks _ _ (counted ∙ c.count_clocks.ensures)

pub returns-then-not-can_go_on : goal.returns-then-not-can_go_on
returns-then-not-can_go_on c = rw c.at.ensures (cannot_go_on (progress_for c.args.p) _ (cc))

pub returns-in_err-clocks : goal.returns-in_err-clocks
returns-in_err-clocks c =
    let p = err_from_is_err_and c.from_residual.result c.from_residual.ensures.1 in
    let uncounted : none ≡ c.count_clocks.result = grind arith in
    let same : c.in_err-clocks.field-0.0 ≡ c.at-refusal.result = grind arith in
    rw (p.1, p.2, same, c.at-refusal.ensures) (no_clocks (progress_for c.args.p) _ (cc) (uncounted ∙ c.count_clocks.ensures))

pub tms_of-requires : goal.tms_of-requires
tms_of-requires c = (its_clocks (goal.at.tms_of-requires c).In_ok-clocks).length_is

pub follow-requires : goal.follow-requires
follow-requires c = let a = c.args in
    let t = tested (progress_for a.p) (cc) in
    let h = its_clocks (goal.at.follow-requires c).In_ok-clocks in
    (t.few, t.short, omega (arith, ap length c.tms_of.ensures, length-take c.in_ok-clocks.clocks (drop 4 a.line.now), h.short, h.length_is))

pub returns-in_err-q : goal.returns-in_err-q
returns-in_err-q c =
    let p = err_from_is_err_and c.from_residual-in_err-q.result c.from_residual-in_err-q.ensures.1 in
    let offends : none ≡ c.follow.result = grind arith in
    let same : c.in_err-q.field-0.0 ≡ c.at-refusal.result = grind arith in
    rw (p.1, p.2, same, c.at-refusal.ensures)
    (step_followed (progress_for c.args.p) _ (cc) _ (its_clocks (goal.at.returns-in_err-q c).In_ok-clocks) none
    (ap (option_map progress_for) offends ∙ c.follow.ensures ∙ ap (λ (l : Bytes). counts_by (progress_for c.args.p) (map is_one l)) c.tms_of.ensures))

pub returns : goal.returns
returns c =
    let followed : some c.in_ok-q.q ≡ c.follow.result = grind arith in
    step_followed (progress_for c.args.p) _ (cc) _ (its_clocks (goal.at.returns c).In_ok-clocks) (some (progress_for c.in_ok-q.q))
    (ap (option_map progress_for) followed ∙ c.follow.ensures ∙ ap (λ (l : Bytes). counts_by (progress_for c.args.p) (map is_one l)) c.tms_of.ensures)
