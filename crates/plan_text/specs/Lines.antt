-- A line of a plan text by its place.
-- Assumes nothing.
use Rattle.std.specs.Prelude.{Bool, cond, List, [], ◌∷◌, ℕ, ◌+◌, length, take, drop, get_or, eqb}
use Rattle.std.specs.Prelude.{Option, None as none, Some as some}
use Rattle.model.specs.Text.{Bytes, bytes, bind, line_end, same, bit}

abbrev pub or_stop : Option Bool → List Bool → List Bool
or_stop none bs = []
or_stop (some b) bs = b ∷ bs

-- the bits at the front of a text
unfoldable pub bit_run : Bytes → List Bool
bit_run [] = []
bit_run (b ∷ t) = or_stop (bit b) (bit_run t)

-- the bits at the front of a text, if a line's end stands behind them
abbrev pub ended : Bytes → Option (List Bool)
ended t = cond (eqb (get_or t (length (bit_run t)) 0) line_end) (some (bit_run t)) none

-- the bits of a text's first line, if it has good form and is ended
unfoldable pub first_line : Bytes → Option (List Bool)
first_line t = cond (same (take 4 t) (bytes "csu\t")) (ended (drop 4 t)) none

-- the place behind the line that starts at a place, if that has good form
abbrev pub next_from : Bytes → ℕ → Option ℕ
next_from t at = bind (first_line (drop at t)) (λ bs. some (at + (5 + length bs)))
