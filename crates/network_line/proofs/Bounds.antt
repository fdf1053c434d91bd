-- Laws of the bounds of a node's numbers.
-- Assumes nothing.
use mathlib.Core.Path.{◌≡◌, refl}
use mathlib.Core.List.{List, [], ◌∷◌}
use Prim.Native.Nat.{ℕ}
use lib.Dec.{leb}
use Rattle.std.specs.List.{list_any}
use Rattle.model.specs.NetworkText.{any_from}

pub any_listed : (n : ℕ) (l : List ℕ) → any_from n l ≡ list_any (leb n) l
any_listed n [] = refl
any_listed n (i ∷ l) = rw (any_listed n l)
