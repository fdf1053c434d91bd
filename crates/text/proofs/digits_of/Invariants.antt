-- `text::digits_of` meets its contract. The loop's invariant: the digits from the place on, behind v, give the field's number, and v is
-- below 10 to the count of the digits before it. Assumes nothing.
use Rattle.std.proofs.Common.{◌≡◌, ◌^◌, ◌<◌, drop}
use Rattle.model.specs.Text.{digits_from}
use Rattle.text.proofs.digits_of.Given as goal

abbrev pub invariant-loop-b : goal.invariant-loop-b
invariant-loop-b l = record { below : l.v < 10 ^ l.b-index; whole : digits_from l.v (drop l.b-index l.f) ≡ digits_from 0 l.f }
