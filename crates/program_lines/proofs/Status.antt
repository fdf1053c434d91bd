-- The exit status by the first four bytes of an answer.
-- Assumes nothing.
use mathlib.Core.Path.{◌≡◌, ap}
use mathlib.Core.Bool.{Bool, cond}
use Prim.Native.Nat.{ℕ}
use lib.Dec.{eqb}
use lib.ListN.{take}
use Rattle.std.specs.List.{starts_with}
use Rattle.model.specs.Text.{Bytes, bytes}
use Rattle.model.specs.Printed.{exit_status}
use Rattle.text.proofs.Words.{same_turned}

pub status_is : (answer : Bytes) → exit_status answer ≡ cond (starts_with eqb answer (bytes "fail")) 1 0
unfolding exit_status
status_is answer = ap (λ (y : Bool). cond {A = ℕ} y 1 0) (same_turned (take 4 answer) (bytes "fail"))
