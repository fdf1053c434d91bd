-- The clocks of a line, by their count.
-- Assumes nothing.
use Rattle.std.specs.Prelude.{◌≡◌, ℕ, ◌+◌, ◌-◌, ◌≤◌, ◌<◌, length, take, drop}
use Rattle.std.specs.Prelude.{Option, Some as some, option_map}
use Rattle.model.specs.Text.{Bytes, line_end}
use Rattle.recover_model.specs.ClockText.{clk_line, max_line_bytes}
use Rattle.text.specs.Places.{IsEnd}

-- n is the one count of clocks that a line of this length can have, or none where it can have none
pub record FitsClocks (len : ℕ) (n : Option ℕ) : Type 0 where
  pub only : (m : ℕ) → 1 ≤ m → len ≡ 5 + (m + m) → len < max_line_bytes → n ≡ some m
  pub fits : (m : ℕ) → n ≡ some m → (1 ≤ m) × (len ≡ 5 + (m + m)) × (len < max_line_bytes)

-- the line from a place of a text on, by its end and the count of its clocks
pub record IsFound (text : Bytes) (at end : ℕ) (clocks : Option ℕ) : Type 0 where
  pub ends : IsEnd line_end text at end
  pub counts : clocks ≡ option_map length (clk_line (take (end - at) (drop at text)))
