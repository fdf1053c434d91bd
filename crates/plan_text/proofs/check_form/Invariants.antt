-- `plan_text::check_form` meets its contract. The loop's invariant: n lines have good form, and the rest, from `at` on, decides.
-- Assumes nothing.
use Rattle.std.proofs.Common.{◌-◌, ◌≤◌, length}
use Rattle.plan_text.proofs.Forms.{Decides}
use Rattle.plan_text.proofs.check_form.Given as goal

abbrev pub invariant-loop-at : goal.invariant-loop-at
invariant-loop-at l = record { within : l.at ≤ length l.plan; few : l.n ≤ 16; decides : Decides l.plan l.n l.at }

abbrev pub decreases-loop-at : goal.decreases-loop-at
decreases-loop-at l = length l.plan - l.at
