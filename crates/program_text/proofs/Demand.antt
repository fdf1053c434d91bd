-- The demands of the printing functions, from the model's theorems.
-- Assumes nothing.
use mathlib.Core.Path.{◌≡◌, refl, ap, ◌∙◌}
use mathlib.Core.List.{List, [], ◌∷◌, ◌++◌, map, Memᴰ}
use Prim.Native.Nat.{ℕ, ◌+◌}
use lib.ListN.{length, take, drop, get_or}
use Rattle.model.specs.Text.{Bytes, bytes}
use Rattle.model.specs.Drawn.{ProgramRow, prints, starred}
use Rattle.model.proofs.Demands.{drawn}
use Rattle.plan_text.specs.Writing.{write_at}
use Rattle.program_text.specs.Demand.{WritesShown, StarredWritten}

front : (xs ys : List ℕ) → take (length xs) (xs ++ ys) ≡ xs
front [] ys = refl
front (x ∷ xs) ys = ap (λ (l : List ℕ). x ∷ l) (front xs ys)

front_written : (shown old : List ℕ) → take (length shown) (write_at 0 shown old) ≡ shown
unfolding write_at
front_written shown old = front shown (drop (0 + length shown) old)

pub writes_shown : WritesShown
writes_shown shown old r new p = rw (p.count, p.holds) (front_written shown old)

-- two functions that agree on a list agree on each of its elements
on_each : (f g : ProgramRow → Bytes) (ks : List ProgramRow) → map f ks ≡ map g ks → (k : ProgramRow) → Memᴰ k ks → f k ≡ g k
on_each f g [] e k m = elim m [ ]
on_each f g (x ∷ ks) e k (Memᴰ.head y) = rw y (ap (λ (l : List Bytes). get_or l 0 []) e)
on_each f g (x ∷ ks) e k (Memᴰ.tail m) = on_each f g ks (ap (drop 1) e) k m

pub starred_written : StarredWritten
starred_written k m old r new p =
    writes_shown _ old r new p
    ∙ on_each (λ (s : ProgramRow). prints s.program (bytes s.network) (bytes s.plan)) (λ (s : ProgramRow). bytes s.output) starred drawn k m
