-- The exit status of the carry program tells refusals: only their line begins with `fail`.
-- Assumes nothing.
use mathlib.Core.Path.{◌≡◌, refl, sym, ap, ◌∙◌}
use mathlib.Core.Bool.{Bool, true, false, cond}
use mathlib.Core.List.{List, [], ◌∷◌, ◌++◌}
use Prim.Native.Nat.{ℕ, suc}
use Rattle.model.specs.Result.{ok}
use Rattle.model.specs.Text.{Bytes, same}
use Rattle.model.specs.Network.{Node, Config, at, is_segment}
use Rattle.model.specs.NetworkText.{read_network}
use Rattle.model.specs.PlanText.{read_plan}
use Rattle.model.specs.Mark.{mark_plan}
use Rattle.model.specs.Printed.{exit_status}
use Rattle.model.specs.Demands.{status_for}
use Rattle.model.proofs.ExitStatus.{status_by}
use Rattle.model.proofs.Lists.{ok_is, handed}
use Rattle.carry_model.specs.Carry.{hold_line, hold_lines, left_by, carry, carry_program}

hold_status : (c : Config) (i : ℕ) (ns : List Node) → exit_status (hold_lines c i ns) ≡ 0
unfolding exit_status same hold_lines
hold_status c i [] = refl
hold_status c i (n ∷ ns) = go (is_segment n) (hold_status c (suc i) ns)
  where
    go : (t : Bool) → exit_status (hold_lines c (suc i) ns) ≡ 0 → exit_status (cond t (hold_line i (at c i [])) [] ++ hold_lines c (suc i) ns) ≡ 0
    go true r = refl
    go false r = r

pub carry_status : (n p : Bytes) → exit_status (carry_program n p) ≡ status_for (carry n p)
unfolding carry_program carry
carry_status n p = status_by (λ text. text) (carry n p) shows
  where
    shows : (text : Bytes) → carry n p ≡ ok text → exit_status text ≡ 0
    shows text e =
        let a = handed (read_network n) _ text e in
        let b = handed (read_plan p) _ text a.then in
        let c = handed (mark_plan a.value b.value) _ text b.then in
        ap exit_status (sym (ok_is c.then)) ∙ hold_status (left_by a.value b.value) 1 a.value.nodes
