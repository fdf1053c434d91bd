-- A progress whose state is none is refused at its count of lines, by each call; with a state it is the same.
-- Assumes nothing.
use mathlib.Core.Path.{◌≡◌, refl}
use mathlib.Core.Bool.{Bool, true, false, cond}
use Rattle.std.specs.Prelude.{None as none, Some as some}
use mathlib.Core.List.{List}
use Prim.Native.Nat.{ℕ}
use native.Mathlib.Omega.{arith}
use lib.Dec.{ltb}
use borrow.Author.Tests.{lt-ltb}
use Rattle.model.specs.Refusals as refusal
use Rattle.model.specs.Result.{refused}
use Rattle.model.specs.Text.{Bytes}
use Rattle.recover_model.specs.RecoverCalls.{Progress, can_go_on, step_line, recover_line, recover_end}
use Rattle.recover_model.proofs.GoesOn.{tested}
use Rattle.recover_line.specs.Progress.{if_state}

pub cannot : (p : Progress) → none ≡ if_state p → can_go_on p ≡ false
cannot p e = go (can_go_on p) refl
  where
    go : (t : Bool) → can_go_on p ≡ t → t ≡ false
    go true x =
        let below : ltb p.state 16 ≡ true = lt-ltb p.state 16 (omega (arith, (tested p x).high)) in
        let there : none ≡ some p = rw below at e in
        cc
    go false x = refl

pub line_cannot : (p : Progress) (l : Bytes) (plan : List ℕ) → none ≡ if_state p → recover_line p l plan ≡ record { result = refused refusal.clock_line p.lines; plan = plan }
unfolding recover_line step_line
line_cannot p l plan e = rw (cannot p e)

pub end_cannot : (p : Progress) (rest : Bytes) → none ≡ if_state p → refused refusal.clock_line p.lines ≡ recover_end p rest
unfolding recover_end
end_cannot p rest e = rw (cannot p e)

-- where there is one, the progress is the same
pub there : (p q : Progress) → some q ≡ if_state p → q ≡ p
there p q e = go (ltb p.state 16) e
  where
    go : (t : Bool) → some q ≡ cond t (some p) none → q ≡ p
    go true z = cc
    go false z = cc
