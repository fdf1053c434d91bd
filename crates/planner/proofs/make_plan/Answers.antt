-- `planner::make_plan` meets its contract.
-- Assumes nothing.
use mathlib.Core.Path.{refl, sym, ap, ◌∙◌}
use Rattle.std.specs.Prelude.{Err}
use Rattle.std.proofs.lemmas.Result.{err_from_is_err_and}
use Rattle.model.proofs.Accepted.{accepted}
use Rattle.planner.proofs.Calling.{network_refused, too_many, too_short, searched}
use Rattle.planner.proofs.make_plan.Goals as goal

pub returns-in_err-filled : goal.returns-in_err-filled
returns-in_err-filled c =
    let p = err_from_is_err_and c.from_residual.result c.from_residual.ensures.1 in
    rw (p.1 ∙ ap Err p.2) (network_refused _ _ _ _ (sym c.in_err-filled.ensures.reads))

pub returns-then-filled-gt-MAX_STEERING_BITS : goal.returns-then-filled-gt-MAX_STEERING_BITS
returns-then-filled-gt-MAX_STEERING_BITS c =
    let r = c.in_ok-filled.ensures in
    rw c.at.ensures (too_many _ _ _ _ (sym r.reads) _ r.filled.counted c.if-filled-gt-MAX_STEERING_BITS.true)

pub returns-then-search-lt-SEARCH_SIZE : goal.returns-then-search-lt-SEARCH_SIZE
returns-then-search-lt-SEARCH_SIZE c =
    let r = c.in_ok-filled.ensures in
    rw c.at-then-search-lt-SEARCH_SIZE.ensures (too_short _ _ _ _ (sym r.reads) _ r.filled.counted c.if-filled-gt-MAX_STEERING_BITS.false c.if-search-lt-SEARCH_SIZE.true)

pub plan_network-requires : goal.plan_network-requires
plan_network-requires c =
    let r = c.in_ok-filled.ensures in record {
      count = _;
      len = _;
      filled = r.filled;
      accepted = accepted _ _ (sym r.reads);
      few = c.if-filled-gt-MAX_STEERING_BITS.false;
      enough = c.if-search-lt-SEARCH_SIZE.false;
    }

pub returns : goal.returns
returns c =
    let r = c.in_ok-filled.ensures in
    searched _ _ _ _ (sym r.reads) _ r.filled.counted c.if-filled-gt-MAX_STEERING_BITS.false _ _ _ _ refl c.if-search-lt-SEARCH_SIZE.false c.plan_network.ensures
