-- A progress with a state that there is not is refused as one with state 0 is.
-- Assumes nothing.
use mathlib.Core.Path.{◌≡◌, refl, sym, ap, ◌∙◌}
use mathlib.Core.Bool.{Bool, true, false, cond}
use mathlib.Core.List.{List}
use Prim.Native.Nat.{ℕ, ◌≤◌, ◌<◌}
use native.Mathlib.Omega.{arith}
use lib.Dec.{ltb}
use borrow.Author.Tests.{lt-ltb, le-ltb, ltb-true}
use Rattle.model.specs.Refusals as refusal
use Rattle.model.specs.Result.{Result, refused}
use Rattle.model.specs.Text.{Bytes}
use Rattle.recover_model.specs.RecoverCalls.{Progress, can_go_on, recover_line, recover_end, step_line}
use Rattle.recover_model.proofs.GoesOn.{Tested, tested}
use Rattle.c_api.specs.Progress.{state_in, Alike}

-- ---- what can't go on is refused at its count of lines

cannot : (p : Progress) → (Tested p → ⊥) → can_go_on p ≡ false
cannot p f = go (can_go_on p) refl
  where
    go : (t : Bool) → can_go_on p ≡ t → t ≡ false
    go true e = absurd (f (tested p e))
    go false e = refl

line_cannot : (p : Progress) (l : Bytes) (plan : List ℕ) → can_go_on p ≡ false → recover_line p l plan ≡ record { result = refused refusal.clock_line p.lines; plan = plan }
unfolding recover_line step_line
line_cannot p l plan e = rw e

end_cannot : (p : Progress) (rest : Bytes) → can_go_on p ≡ false → recover_end p rest ≡ refused refusal.clock_line p.lines
unfolding recover_end
end_cannot p rest e = rw e

pub state_alike : (lines state entries bytes s : ℕ) → s ≡ state_in state
    → Alike record { lines = lines; state = s; entries = entries; plan_bytes = bytes } record { lines = lines; state = state; entries = entries; plan_bytes = bytes }
state_alike lines state entries bytes s e = go (ltb 15 state) refl e
  where
    go : (t : Bool) → ltb 15 state ≡ t → s ≡ cond t 0 state
        → Alike record { lines = lines; state = s; entries = entries; plan_bytes = bytes } record { lines = lines; state = state; entries = entries; plan_bytes = bytes }
    go false q z = rw z record { line = λ l plan. refl; end = λ rest. refl }
    go true q z =
        let p : Progress = record { lines = lines; state = s; entries = entries; plan_bytes = bytes } in
        let r : Progress = record { lines = lines; state = state; entries = entries; plan_bytes = bytes } in
        let a = cannot p (λ t. omega (arith, t.low)) in
        let b = cannot r (λ t. omega (arith, t.high, ltb-true 15 state q)) in
        record { line = λ l plan. line_cannot p l plan a ∙ sym (line_cannot r l plan b); end = λ rest. end_cannot p rest a ∙ sym (end_cannot r rest b) }
