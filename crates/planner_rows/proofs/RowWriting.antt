-- The loop that writes the order of a row: the numbers written, and those that are as they were.
-- Assumes nothing.
use mathlib.Core.Path.{◌≡◌}
use mathlib.Core.List.{List}
use Prim.Native.Nat.{ℕ, suc, ◌+◌, ◌-◌, ◌<◌}
use lib.ListN.{length, get_or}
use Rattle.planner_rows.specs.Rows.{row_number, Outside}

-- the first i numbers of the order stand in row x, the last of m first
pub record OrderTo (old : List ℕ) (x : ℕ) (order : List ℕ) (m i : ℕ) (new : List ℕ) : Type 0 where
  pub order_is : (j : ℕ) → j < i → row_number new x (5 + j) ≡ get_or order (m - suc j) 0
  pub first_kept : (j : ℕ) → j < 5 → row_number new x j ≡ row_number old x j
  pub outside : Outside old x new
  pub size : length new ≡ 8019
