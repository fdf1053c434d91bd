-- `recoverer::part::recover_part` meets its contract.
-- Assumes nothing.
use Rattle.recoverer.proofs.OnePart.{nothing_held, rest_held}
use Rattle.recoverer.proofs.PartListed.{part_listed}
use Rattle.recoverer.proofs.part.recover_part.Goals as goal

pub returns-in-Ok : goal.returns-in-Ok
returns-in-Ok c = record {
  did = rest_held _ _ _ _ c.follow_part.auto.plan _ c.in-Ok.ensures _ c.copy_within.ensures.after;
  listed = rw c.in-Ok.ensures.answers (part_listed _ _ c.args.text.now c.requires);
}

pub returns-in-Err : goal.returns-in-Err
returns-in-Err c = record {
  did = nothing_held _ _ _ _ c.follow_part.auto.plan _ c.in-Err.ensures;
  listed = rw c.in-Err.ensures.answers (part_listed _ _ c.args.text.now c.requires);
}
