-- What a write leaves, and the fields of a line before its end.
-- Assumes nothing.
use Rattle.std.specs.Prelude.{◌≡◌, List, [], ◌∷◌, ◌++◌, ℕ, ◌+◌, length}
use Rattle.model.specs.Text.{Bytes, tab}
use Rattle.model.specs.Printed.{number}
use Rattle.plan_text.specs.Writing.{write_at}

-- bytes were written from a place on: r is the place behind them, and the buffer is new where it was old
pub record Puts (at : ℕ) (bs old : List ℕ) (r : ℕ) (new : List ℕ) : Type 0 where
  pub behind : r ≡ at + length bs
  pub holds : new ≡ write_at at bs old

-- numbers, each behind a tab
unfoldable pub tabbed : List ℕ → Bytes
tabbed [] = []
tabbed (n ∷ ns) = tab ∷ (number n ++ tabbed ns)
