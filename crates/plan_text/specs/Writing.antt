-- What a buffer holds after a write.
-- Assumes nothing.
use Rattle.std.specs.Prelude.{List, [], ◌∷◌, ◌++◌, ℕ, ◌+◌, length, take, drop}
use Rattle.model.specs.Text.{Bytes, bytes, line_end}

-- bytes from a place on; those before and behind them stay
unfoldable pub write_at : ℕ → List ℕ → List ℕ → List ℕ
write_at at new old = take at old ++ (new ++ drop (at + length new) old)

-- the line of an operation, given by its bits as `0` and `1`
abbrev pub line_text : Bytes → Bytes
line_text bits = bytes "csu\t" ++ (bits ++ line_end ∷ [])
