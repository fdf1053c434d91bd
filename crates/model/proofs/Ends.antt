-- A result has what is said of it, or its refusal is in the table: how this goes through the steps of a call, and down the lines of a text.
-- Assumes nothing.
use mathlib.Core.Path.{◌≡◌, refl, sym, ap, ◌∙◌}
use mathlib.Core.Bool.{Bool, true, false}
use mathlib.Core.List.{List, [], ◌∷◌}
use Prim.Native.Nat.{ℕ, suc, ◌+◌, ◌-◌}
use native.Mathlib.Omega.{arith}
use lib.ListN.{length, drop, length-drop}
use lib.Seq.{drop-cons}
use Rattle.model.specs.Calls.{count_of}
use Rattle.model.specs.Network.{at}
use Rattle.model.specs.Places.{behind_lines, IsLine, RefusalRows, Listed}
use Rattle.model.specs.Result.{Result, ok, refused, refuse_if, and_then}
use Rattle.model.specs.Text.{Bytes, line_end, parts}
use Rattle.model.proofs.Lists.{refuse_case}

-- the result ends with a value that has P, or with one of the rows
pub data Ends {A : Type 0} (rows : RefusalRows) (P : A → Type 0) : Result A → Type 0 where
  gives : {a : A} → P a → Ends rows P (ok a)
  refuses : {number place : ℕ} → rows number place → Ends rows P (refused number place)

pub listed : {A : Type 0} {rows : RefusalRows} {P : A → Type 0} {r : Result A} → Ends rows P r → Listed rows r
listed (gives p) = tt
listed (refuses row) = row

pub ends_if : {A : Type 0} {rows : RefusalRows} {P : A → Type 0} (t : Bool) (number place : ℕ) (r : Result A)
    → (t ≡ true → rows number place) → (t ≡ false → Ends rows P r) → Ends rows P (refuse_if t number place r)
ends_if t number place r f g = refuse_case (Ends _ _) t number place r (λ e. refuses (f e)) g

pub ends_then : {A B : Type 0} {rows : RefusalRows} {P : A → Type 0} {Q : B → Type 0} {r : Result A} (f : A → Result B)
    → Ends rows P r → ((a : A) → r ≡ ok a → P a → Ends rows Q (f a)) → Ends rows Q (and_then r f)
ends_then f (gives p) g = g _ refl p
ends_then f (refuses row) g = refuses row

-- one of more rows
pub ends_more : {A : Type 0} {rows more : RefusalRows} {P : A → Type 0} {r : Result A} → ((number place : ℕ) → rows number place → more number place)
    → Ends rows P r → Ends more P r
ends_more f (gives p) = gives p
ends_more f (refuses row) = refuses (f _ _ row)

-- the count of what a call gives
pub count_ends : {rows : RefusalRows} {P : List ℕ → Type 0} {r : Result (List ℕ)} → Ends rows P r → Ends rows (λ (n : ℕ). Unit {0}) (count_of r)
count_ends (gives p) = gives tt
count_ends (refuses row) = refuses row

-- ---- the lines of a text in turn

-- line m + 1, with these lines behind it
pub record LineAt (t : Bytes) (m : ℕ) (l : Bytes) (ls : List Bytes) : Type 0 where
  pub here : at (parts line_end t) (suc m) [] ≡ l
  pub rest : drop (suc m) (parts line_end t) ≡ ls
  pub count : behind_lines t ≡ suc m + length ls

pub line_at : (t : Bytes) (m : ℕ) (l : Bytes) (ls : List Bytes) → drop m (parts line_end t) ≡ l ∷ ls → LineAt t m l ls
line_at t m l ls e =
    let c : length (parts line_end t) - m ≡ suc (length ls) = sym (length-drop m (parts line_end t)) ∙ ap length e in
    let d = drop-cons (parts line_end t) m [] (omega arith) in
    record { here = cc; rest = cc; count = omega arith }

-- a line with another behind it
pub is_line : (t : Bytes) (m : ℕ) (l k : Bytes) (ls : List Bytes) → LineAt t m l (k ∷ ls) → IsLine t (suc m)
is_line t m l k ls a = (omega arith, let c : behind_lines t ≡ suc m + suc (length ls) = a.count in omega arith)
