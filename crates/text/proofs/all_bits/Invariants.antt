-- `text::all_bits` meets its contract. The loop's invariant: `all` says whether all bytes before the place are bits.
-- Assumes nothing.
use Rattle.std.proofs.Common.{◌≡◌, take}
use Rattle.std.specs.List.{list_all}
use Rattle.text.specs.Bits.{is_bit}
use Rattle.text.proofs.all_bits.Given as goal

abbrev pub invariant-loop-b : goal.invariant-loop-b
invariant-loop-b l = l.all ≡ list_all (is_bit l.unknown) (take l.b-index l.s)
