-- What a printing function returns and leaves.
-- Assumes nothing.
use Rattle.std.specs.Prelude.{◌≡◌, List, ℕ, length}
use Rattle.model.specs.Text.{Bytes}
use Rattle.plan_text.specs.Writing.{write_at}

-- r bytes stand at the front of a buffer, which is new where it was old: those that a program prints. Every byte behind them stays
pub record PrintedTo (shown : Bytes) (old : List ℕ) (r : ℕ) (new : List ℕ) : Type 0 where
  pub count : r ≡ length shown
  pub holds : new ≡ write_at 0 shown old
