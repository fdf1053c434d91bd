-- `text::decimal_of` meets its contract.
-- Assumes nothing.
use native.Mathlib.Omega.{arith}
use Rattle.std.proofs.lemmas.Bool.Decides.{nat_tests}
use Rattle.text.proofs.Decimals.{decimal_is, is_decimal}
use Rattle.text.proofs.decimal_of.Goals as goal

pub returns-then-n-eq0 : goal.returns-then-n-eq0
returns-then-n-eq0 c = is_decimal _ _ (grind (arith, nat_tests, decimal_is))

pub returns-then-f-eq48 : goal.returns-then-f-eq48
returns-then-f-eq48 c = is_decimal _ _ (grind (arith, nat_tests, decimal_is))

pub returns : goal.returns
returns c = is_decimal _ _ (grind (arith, nat_tests, decimal_is))
