-- The form of bits: `0` and `1`, or `0`, `1` and `X` where unknown ones are allowed.
-- Assumes nothing.
use Rattle.std.specs.Prelude.{Bool, true, false, [], ℕ}
use Rattle.model.specs.Text.{Bytes, bit, trit, bits_from, bits_field}
use Rattle.model.specs.NetworkText.{is_some}

abbrev pub is_bit : Bool → ℕ → Bool
is_bit false b = is_some (bit b)
is_bit true b = is_some (trit b)

abbrev pub all_bits : Bool → Bytes → Bool
all_bits false s = is_some (bits_from bit [] s)
all_bits true s = is_some (bits_from trit [] s)

-- a BITS or RESET field
abbrev pub bits_form : Bool → Bytes → Bool
bits_form false f = is_some (bits_field bit f)
bits_form true f = is_some (bits_field trit f)
