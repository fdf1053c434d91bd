-- What reading a part may answer.
-- Assumes nothing.
use Rattle.std.specs.Prelude.{List, ℕ, ◌≤◌, length, Option, IfSome, Result, IfOk}

-- at least one byte, and no more than the buffer has
abbrev pub PartOf : {E : Type 0} → Result (Option ℕ) E → List ℕ → Type 0
PartOf r buffer = IfOk r (λ part. IfSome part (λ n. (1 ≤ n) × (n ≤ length buffer)))
