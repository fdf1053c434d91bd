-- Laws of the search's answer: the plan traced is the plan of the fewest operations.
-- Assumes nothing.
use mathlib.Core.Path.{◌≡◌, sym, ap, ◌∙◌}
use Rattle.std.specs.Prelude.{Option, None as none, Some as some}
use mathlib.Core.List.{List}
use Prim.Native.Nat.{ℕ, ◌*◌}
use Rattle.model.specs.Network.{Network}
use Rattle.planner_theory.specs.Search.{plan_up_to}
use Rattle.planner_theory.specs.Moves.{sys_of}
use Rattle.planner_theory.proofs.Least.{plan_length}
use Rattle.planner_theory.proofs.Forward.{least_is}
use Rattle.planner_table.specs.Table.{layers_of}
use Rattle.planner_forward.specs.Spreading.{MetAt}
use Rattle.planner_search.specs.Plans.{PlanTraced, PlanFound}

pub nothing_found : (net : Network) (start : ℕ) (old : List ℕ) (found : Option ℕ) (out : List ℕ) → found ≡ none → out ≡ old → plan_up_to (sys_of net) 16 (start * 16) ≡ none
    → PlanFound net start old found out
nothing_found net start old found out e f h = rw (e, f) record { answer = rw h; left = rw h }

pub plan_found : (net : Network) (start : ℕ) (old tab traced : List ℕ) (d : ℕ) (found : Option ℕ) (out : List ℕ) → found ≡ some d → out ≡ traced → MetAt net (start * 16) tab d
    → PlanTraced net (start * 16) d old traced → PlanFound net start old found out
plan_found net start old tab traced d found out e f met h =
    let g = met.goal in
    let p : plan_up_to (sys_of net) 16 (start * 16) ≡ some h.plan
    = least_is (sys_of net) (start * 16) (layers_of (start * 16) tab) d g.0 met.layers g.1 g.2 16 met.most ∙ h.is in
    rw (e, f) record { answer = rw p (ap some (sym (plan_length (sys_of net) d (start * 16) h.plan h.is))); left = rw p h.left }
