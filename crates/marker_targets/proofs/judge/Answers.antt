-- `marker_targets::judge` meets its contract.
-- Assumes nothing.
use mathlib.Core.Path.{◌≡◌}
use Prim.Native.Nat.{◌+◌}
use native.Mathlib.Omega.{arith}
use lib.ListN.{get_or}
use Rattle.std.specs.Prelude.{None as none, Some as some, Err}
use Rattle.model.specs.declared.refusal.Kind.TheVariants.{Target}
use Rattle.marker_targets.proofs.Judging.{judging_held, judging_read, judged_unreached, judged_not_held, judged_last}
use Rattle.marker_targets.proofs.judge.Goals as goal
use Rattle.marker_targets.proofs.judge.Goals.{in-Some+else-not-is_held, in-None}

pub returns-in_err-first-clause-judges : goal.returns-in_err-first-clause-judges
returns-in_err-first-clause-judges c =
    let l = c.loop-i in
    let gone : c.from_residual.result ≡ Err record { kind = Target; place = l.i + 1 } = grind arith in
    let unmet : get_or c.args.met.now l.i none ≡ none = grind arith in
    rw gone (judged_unreached _ _ _ _ _ l.gots l.i l.invariant c.requires c.loop-i-test.true unmet)

pub returns-then-not-is_held-clause-judges : goal.returns-then-not-is_held-clause-judges
returns-then-not-is_held-clause-judges c =
    let l = c.loop-i in
    let met : get_or c.args.met.now l.i none ≡ some c.in_ok-first.first = grind arith in
    rw c.at-refusal.ensures (judged_not_held _ _ _ _ _ l.gots l.i l.invariant c.requires c.loop-i-test.true _ met c.in-Some.want (grind arith) (grind arith))

pub loop-i-preserved : goal.loop-i-preserved
loop-i-preserved c =
    let l = c.loop-i in
    let k = c.loop-i-test.true in
    let met : get_or c.args.met.now l.i none ≡ some c.in_ok-first.first = grind arith in
    elim c.match-target.branch [
      | in-Some+else-not-is_held w ↦ rw w.gots-is (judging_held _ _ _ _ _ l.gots l.i l.invariant c.requires k _ met w.in-Some.want (grind arith) (grind arith))
      | in-None w ↦ rw w.gots-is (judging_read _ _ _ _ _ l.gots l.i l.invariant c.requires k _ met _ (grind arith) w.push-gots.ensures)
    ]

pub returns-clause-judges : goal.returns-clause-judges
returns-clause-judges c = let l = c.loop-i in judged_last _ _ _ _ _ l.gots l.i l.invariant c.loop-i-test.false
