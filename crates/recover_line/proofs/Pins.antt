-- The rows of a line's bits are those of its clocks.
-- Assumes nothing.
use mathlib.Core.Path.{◌≡◌, refl, ap}
use mathlib.Core.Bool.{Bool, true, false}
use mathlib.Core.List.{List, [], ◌∷◌, map}
use Rattle.model.specs.Printed.{pins}
use Rattle.model.specs.Tap.{Clock, bit_byte}
use Rattle.model.specs.Text.{Bytes}
use Rattle.recover_model.proofs.ClockLines.{tms_of, tdi_of}
use Rattle.clock_writer.specs.Machine.{is_one}
use Rattle.clock_follower.specs.Stretches.{clocks_from, AreBits}

one_of : (b : Bool) → is_one (bit_byte b) ≡ b
one_of true = refl
one_of false = refl

pub ones : (pin : Clock → Bool) (cs : List Clock) → map is_one (pins pin cs) ≡ map pin cs
ones pin [] = refl
ones pin (c ∷ cs) = rw (one_of (pin c), ones pin cs)

pub are_bits : (pin : Clock → Bool) (cs : List Clock) → AreBits (pins pin cs)
are_bits pin [] = refl
are_bits pin (c ∷ cs) = rw (one_of (pin c)) (ap (λ (l : Bytes). bit_byte (pin c) ∷ l) (are_bits pin cs))

pub clocks_from_law : (cs : List Clock) → clocks_from (pins tms_of cs) (pins tdi_of cs) ≡ cs
clocks_from_law [] = refl
clocks_from_law (c ∷ cs) = rw (one_of c.tms, one_of c.tdi) (ap (λ (l : List Clock). c ∷ l) (clocks_from_law cs))
