-- Words of a segment's bits by numbers: "two words a segment, bits and known marks".
-- Assumes nothing.
use Rattle.std.specs.Prelude.{Bool, true, false, cond, not, List, [], ◌∷◌, map, ℕ, ◌+◌, ◌-◌, ◌*◌, ◌/◌, ◌%◌, ◌^◌, eqb}
use Rattle.std.specs.Prelude.{None as none, Some as some}
use Rattle.model.specs.Text.{Bytes, Trit}
use Rattle.model.specs.Network.{tabulate}
use Rattle.model.specs.Path.{bit_value}

-- the bits of a word; a segment has no more. Document 02, Change 4: "The stored bits and known marks grow from 32 to 64"
abbrev pub word_width : ℕ
word_width = 64

-- the word with all bits set
abbrev pub all_known : ℕ
all_known = 2 ^ word_width - 1

abbrev pub word_bit : ℕ → ℕ → Bool
word_bit w b = eqb (w / 2 ^ b % 2) 1

-- bit b of a segment with these two words
abbrev pub trit_at : ℕ → ℕ → ℕ → Trit
trit_at bits known b = cond (word_bit known b) (some (word_bit bits b)) none

abbrev pub trits_of : ℕ → ℕ → ℕ → List Trit
trits_of len bits known = tabulate (trit_at bits known) 0 len

-- the word whose bit j is the j-th of these bits
unfoldable pub word_of_bits : List Bool → ℕ
word_of_bits [] = 0
word_of_bits (b ∷ bs) = bit_value b + 2 * word_of_bits bs

abbrev pub is_set : Trit → Bool
is_set none = false
is_set (some b) = b

abbrev pub is_known : Trit → Bool
is_known none = false
is_known (some b) = true

-- the two words of these bits; an unknown bit is 0 in both
abbrev pub bits_word : List Trit → ℕ
bits_word ts = word_of_bits (map is_set ts)

abbrev pub known_word : List Trit → ℕ
known_word ts = word_of_bits (map is_known ts)

-- ---- words of texts

-- a bit of a plan text as a bit
abbrev pub byte_bit : ℕ → Bool
byte_bit b = eqb b 49

-- a word of len bits after one place: b at the top, the lowest bit gone
abbrev pub shift_in : ℕ → ℕ → ℕ → ℕ
shift_in len w b = b * 2 ^ (len - 1) + w / 2

-- the word w with the bits of a field below it, one for each byte: "BITS starts with the highest bit"
unfoldable pub word_from : (ℕ → Bool) → ℕ → Bytes → ℕ
word_from test w [] = w
word_from test w (b ∷ bs) = word_from test (bit_value (test b) + 2 * w) bs

-- the known mark of a byte of BITS or RESET: `X` is unknown
abbrev pub byte_known : ℕ → Bool
byte_known b = not (eqb b 88)
