-- The classes of bytes, and what a decimal field's answer means.
-- Assumes nothing.
use Rattle.std.specs.Prelude.{◌≡◌, cond, ℕ, ◌≤◌, eqb}
use Rattle.std.specs.Prelude.{Option, None as none, Some as some}
use Rattle.model.specs.Text.{Bytes, tab, line_end, digit, decimal}
use Rattle.text.specs.declared.Class.{Class}
use Rattle.text.specs.declared.Class.TheVariants.{Digit, Tab, LineEnd, Other}

abbrev pub digit_or_other : Option ℕ → Class
digit_or_other none = Other
digit_or_other (some d) = Digit d

-- digit, tab, line end or any other byte
unfoldable pub class_of : ℕ → Class
class_of b = cond (eqb b tab) Tab (cond (eqb b line_end) LineEnd (digit_or_other (digit b)))

pub record IsDecimal (f : Bytes) (r : Option ℕ) : Type 0 where
  pub value : r ≡ decimal f
  pub small : (v : ℕ) → r ≡ some v → v ≤ 9999
