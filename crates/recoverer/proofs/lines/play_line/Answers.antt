-- `recoverer::lines::play_line` meets its contract.
-- Assumes nothing.
use Rattle.std.specs.Prelude.{None as none, Some as some, option_map}
use Rattle.std.proofs.lemmas.Result.{err_from_is_err_and}
use mathlib.Core.List.{map}
use mathlib.Core.Path.{◌≡◌, sym, ◌∙◌, ap}
use native.Mathlib.Omega.{arith}
use lib.ListN.{length, length-take, drop}
use Rattle.model.specs.Text.{Bytes}
use Rattle.recover_model.proofs.GoesOn.{tested}
use Rattle.plan_text.specs.Writing.{write_at}
use Rattle.clock_writer.specs.Machine.{is_one, state_code}
use Rattle.clock_line.proofs.Lines.{HasClocks, counted_clocks}
use Rattle.clock_follower.specs.Counts.{progress_for, counts_by}
use Rattle.recover_line.proofs.OneLine.{cannot_go_on, no_clocks, step_followed}
use Rattle.recover_line.proofs.PutLine.{rows_as_long, row_of_bits, rows_text}
use Rattle.recoverer.proofs.PlayedLine.{play_refused, play_written}
use Rattle.recoverer.proofs.lines.play_line.Goals as goal
use Rattle.recoverer.proofs.lines.play_line.Goals.{In_ok-n}

its_clocks : (c : In_ok-n) → HasClocks c.args.line.now c.in_ok-n.n
its_clocks c =
    let counted : some c.in_ok-n.n ≡ c.args.clocks = grind arith in
    counted_clocks _ _ (counted ∙ c.requires.0)

pub returns-then-not-can_go_on : goal.returns-then-not-can_go_on
returns-then-not-can_go_on c = rw c.at.ensures (play_refused (progress_for c.args.p) _ _ _ (cannot_go_on (progress_for c.args.p) c.args.line.now (cc)) _)

pub returns-in_err-n : goal.returns-in_err-n
returns-in_err-n c = let a = c.args in
    let p = err_from_is_err_and c.from_residual.result c.from_residual.ensures.1 in
    let uncounted : none ≡ a.clocks = grind arith in
    let same : c.in_err-n.field-0.0 ≡ c.at-refusal.result = grind arith in
    rw (p.1, p.2, same, c.at-refusal.ensures) (play_refused (progress_for a.p) _ _ _ (no_clocks (progress_for a.p) a.line.now (cc) (uncounted ∙ c.requires.0)) _)

pub bytes_written-at-requires : goal.bytes_written-at-requires
bytes_written-at-requires c = (tested (progress_for c.args.p) (cc)).counted

pub tms_of-requires : goal.tms_of-requires
tms_of-requires c = (its_clocks (goal.at.tms_of-requires c).In_ok-n).length_is

pub tdi_of-requires : goal.tdi_of-requires
tdi_of-requires c = (its_clocks (goal.at.tdi_of-requires c).In_ok-n).length_is

pub play-requires : goal.play-requires
play-requires c = let a = c.args in
    let t = tested (progress_for a.p) (cc) in
    let h = its_clocks (goal.at.play-requires c).In_ok-n in
    record {
      limits = (t.few, t.short, omega (arith, ap length c.tms_of.ensures, length-take c.in_ok-n.n (drop 4 a.line.now), h.short, h.length_is));
      clocks_and_room = (
        rows_as_long _ _ h _ _ c.tms_of.ensures c.tdi_of.ensures,
        row_of_bits _ _ h _ _ c.tms_of.ensures c.tdi_of.ensures,
        omega (arith, c.bytes_written-at.ensures, t.counted),
        c.requires.1,
      );
    }

pub returns-in_err-q : goal.returns-in_err-q
returns-in_err-q c =
    let p = err_from_is_err_and c.from_residual-in_err-q.result c.from_residual-in_err-q.ensures.1 in
    let offends : none ≡ c.play.result = grind arith in
    let same : c.in_err-q.field-0.0 ≡ c.at-refusal.result = grind arith in
    rw (p.1, p.2, same, c.at-refusal.ensures)
    (play_refused (progress_for c.args.p) _ _ _
    (step_followed (progress_for c.args.p) _ (cc) _ (its_clocks (goal.at.returns-in_err-q c).In_ok-n) none
    (ap (option_map progress_for) offends ∙ c.play.ensures.answers ∙ ap (λ (l : Bytes). counts_by (progress_for c.args.p) (map is_one l)) c.tms_of.ensures)) _)

pub returns : goal.returns
returns c = let a = c.args in
    let h = its_clocks (goal.at.returns c).In_ok-n in
    let played : some c.in_ok-q.q ≡ c.play.result = grind arith in
    let e = ap (option_map progress_for) played in
    play_written (progress_for a.p) a.line.now a.plan.now _
    (step_followed (progress_for a.p) _ (cc) _ h (some (progress_for c.in_ok-q.q))
    (e ∙ c.play.ensures.answers ∙ ap (λ (l : Bytes). counts_by (progress_for a.p) (map is_one l)) c.tms_of.ensures))
    c.requires.1 _ c.bytes_written-at.ensures _
    (c.play.ensures.left (progress_for c.in_ok-q.q) (sym e) ∙ ap (λ (x : Bytes). write_at c.bytes_written-at.result x a.plan.now) (rows_text _ _ h _ _ c.tms_of.ensures c.tdi_of.ensures (state_code a.p.state)))
