-- The bytes at the front of a buffer: the contract of a printing function, and what lending `&out[..n]` asks.
-- Assumes nothing.
use mathlib.Core.Path.{◌≡◌, sym, ap, ◌∙◌}
use mathlib.Core.List.{List}
use Prim.Native.Nat.{ℕ, ◌+◌, ◌≤◌}
use native.Mathlib.Omega.{arith}
use native.Mathlib.Nat.{zero-add}
use lib.ListN.{length, drop, length-append}
use lib.Seq.{length-take-le}
use Rattle.io.specs.Counts.{IsPrefixLen}
use Rattle.model.specs.Text.{Bytes}
use Rattle.plan_text.specs.Writing.{write_at}
use Rattle.program_lines.specs.Puts.{Puts}
use Rattle.program_text.specs.Printing.{PrintedTo}

-- bytes at the front of a buffer are those of a program
pub at_front : {r : ℕ} {old new : List ℕ} (bs shown : Bytes) → shown ≡ bs → Puts 0 bs old r new → (r ≡ length shown) × (new ≡ write_at 0 shown old)
at_front bs shown e p = rw e (p.behind ∙ zero-add (length bs), p.holds)

pub printed_to : (shown old : List ℕ) {new : List ℕ} {n : ℕ} → (n ≡ length shown) × (new ≡ write_at 0 shown old) → PrintedTo shown old n new × IsPrefixLen n new
unfolding write_at
printed_to shown old {new = new} {n = n} (counts, holds) =
    let fits : n ≤ length new = omega (arith, counts, ap length holds, length-append shown (drop (0 + length shown) old)) in
    (record { count = counts; holds = holds }, (fits, sym (length-take-le n new fits)))
