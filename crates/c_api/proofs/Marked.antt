-- What a pass's numbers are: the rows, of which those behind the count are zeros.
-- Assumes nothing.
use mathlib.Core.Path.{◌≡◌, refl, sym, ap, ◌∙◌}
use mathlib.Core.List.{List, [], ◌∷◌, ◌++◌, map}
use Prim.Native.Nat.{ℕ, zero, suc, ◌*◌, ◌-◌, ◌≤◌}
use native.Mathlib.Omega.{arith}
use lib.ListN.{length, get_or, replicate, take, length-map}
use lib.Seq.{length-take-le}
use Rattle.std.specs.Prelude.{Ok}
use Rattle.model.specs.Text.{Bytes}
use Rattle.model.specs.Mark.{mark}
use Rattle.marker_targets.specs.declared.Got.{Got}
use Rattle.marker_targets.specs.declared.Pass.{Pass}
use Rattle.marker_targets.specs.Answers.{got_of, gots_of, no_got, ZerosBehind}
use Rattle.marker.specs.Marks.{MarkReturned}
use Rattle.c_api.specs.Numbers.{got_numbers, padded, mark_numbers}

zero_rows : (xs : List Got) → ((i : ℕ) → get_or xs i no_got ≡ no_got) → replicate (3 * length xs) 0 ≡ got_numbers (map got_of xs)
zero_rows [] e = refl
zero_rows (x ∷ xs) e =
    let n : 3 * suc (length xs) ≡ suc (suc (suc (3 * length xs))) = omega arith in
    let here : x ≡ no_got = e 0 in
    rw (n, here, zero_rows xs (λ i. e (suc i)))

rows_and_zeros : (count : ℕ) (xs : List Got) → count ≤ length xs → ((i : ℕ) → count ≤ i → get_or xs i no_got ≡ no_got)
    → got_numbers (map got_of (take count xs)) ++ replicate (3 * (length xs - count)) 0 ≡ got_numbers (map got_of xs)
rows_and_zeros zero xs h e =
    let n : length xs - 0 ≡ length xs = omega arith in
    rw n (zero_rows xs (λ i. e i (omega arith)))
rows_and_zeros (suc count) [] h e = absurd (omega arith)
rows_and_zeros (suc count) (x ∷ xs) h e =
    let n : suc (length xs) - suc count ≡ length xs - count = omega arith in
    rw (n, rows_and_zeros count xs (omega arith) (λ i l. e (suc i) (omega arith)))

numbers_long : (xs : List Got) → length (got_numbers (map got_of xs)) ≡ 3 * length xs
numbers_long [] = refl
numbers_long (x ∷ xs) = let n = numbers_long xs in omega (arith, n)

-- row i, before the numbers behind it
abbrev row : List Got → ℕ → List ℕ → List ℕ
row xs i behind = (get_or xs i no_got).target ∷ (get_or xs i no_got).operation ∷ (get_or xs i no_got).place ∷ behind

four_rows : (xs : List Got) → length xs ≡ 4 → row xs 0 (row xs 1 (row xs 2 (row xs 3 []))) ≡ got_numbers (map got_of xs)
four_rows [] e = absurd (omega arith)
four_rows (a ∷ []) e = absurd (omega arith)
four_rows (a ∷ b ∷ []) e = absurd (omega arith)
four_rows (a ∷ b ∷ c ∷ []) e = absurd (omega arith)
four_rows (a ∷ b ∷ c ∷ d ∷ []) e = refl
four_rows (a ∷ b ∷ c ∷ d ∷ x ∷ xs) e = absurd (omega arith)

module _ (n p : Bytes) (pass : Pass) (is : MarkReturned n p (Ok pass)) where
  abbrev rows : List Got
  rows = pass.gots.rows

  abbrev numbers : List ℕ
  numbers = got_numbers (gots_of pass.gots)

  behind : ZerosBehind pass.gots
  behind = is.rows

  as_many : length (gots_of pass.gots) ≡ pass.gots.count
  as_many = length-map (take pass.gots.count rows) got_of ∙ length-take-le pass.gots.count rows (omega (arith, behind.few, behind.size))

  all_rows : row rows 0 (row rows 1 (row rows 2 (row rows 3 []))) ≡ numbers ++ replicate (16 - suc (suc (suc (suc (length numbers))))) 0
  all_rows =
      let left : 16 - suc (suc (suc (suc (length numbers)))) ≡ 3 * (length rows - pass.gots.count) =
      omega (arith, numbers_long (take pass.gots.count rows), length-take-le pass.gots.count rows (omega (arith, behind.few, behind.size)), behind.few, behind.size) in
      rw left (four_rows rows behind.size ∙ sym (rows_and_zeros pass.gots.count rows (omega (arith, behind.few, behind.size)) behind.zeros))

  pub passed_mark : 0 ∷ pass.operations ∷ pass.clocks ∷ pass.gots.count ∷ row rows 0 (row rows 1 (row rows 2 (row rows 3 []))) ≡ mark_numbers (mark n p)
  passed_mark = rw (← is.result, as_many) (ap (λ (l : List ℕ). 0 ∷ pass.operations ∷ pass.clocks ∷ pass.gots.count ∷ l) all_rows)
