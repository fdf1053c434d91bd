-- The run at the front of a text: the bytes before the first one that fails a test.
-- Assumes nothing.
use Rattle.std.specs.Prelude.{Bool, cond, not, ◌&&◌, [], ◌∷◌, ℕ, suc, eqb, leb}
use Rattle.model.specs.Text.{Bytes}

-- a byte from `0` up to a last one: of bits up to `1`, of zeros up to `0`
abbrev pub in_run : ℕ → ℕ → Bool
in_run last b = leb 48 b && leb b last

-- the byte `0`
abbrev pub is_zero : ℕ → Bool
is_zero b = eqb b 48

-- a byte other than this one
abbrev pub other : ℕ → ℕ → Bool
other sep b = not (eqb b sep)

unfoldable pub run_length : (ℕ → Bool) → Bytes → ℕ
run_length good [] = 0
run_length good (b ∷ t) = cond (good b) (suc (run_length good t)) 0
