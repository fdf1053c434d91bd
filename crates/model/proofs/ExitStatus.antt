-- The exit status tells refusals: only their line begins with `fail`.
-- Assumes nothing.
use mathlib.Core.Path.{◌≡◌, refl, sym, ap, ◌∙◌}
use mathlib.Core.List.{[], ◌∷◌}
use Prim.Native.Nat.{ℕ}
use Rattle.model.specs.Limits.{max_plan_bytes}
use Rattle.model.specs.Result.{Result, ok, refused, and_then}
use Rattle.model.specs.Text.{Bytes, same}
use Rattle.model.specs.Network.{Network}
use Rattle.model.specs.Plan.{Plan}
use Rattle.model.specs.NetworkText.{read_network}
use Rattle.model.specs.PlanText.{read_plan, write_plan}
use Rattle.model.specs.Planner.{plan_for}
use Rattle.model.specs.Mark.{mark}
use Rattle.model.specs.Calls.{if_room, search_entries, searchable, found, text_of, planned}
use Rattle.model.specs.Printed.{printed, show_network, read_program, plan_program, show_pass, mark_program, clk_lines, clock_program, exit_status}
use Rattle.model.specs.Demands.{status_for, StatusTells}
use Rattle.model.proofs.Lists.{ok_is, handed}
use Rattle.model.proofs.CallCases.{room_is}

-- a result, and what shows one never begins with `fail`
pub status_by : {A : Type 0} (show : A → Bytes) (r : Result A) → ((a : A) → r ≡ ok a → exit_status (show a) ≡ 0) → exit_status (printed show r) ≡ status_for r
unfolding exit_status same
status_by show (ok a) h = h a refl
status_by show (refused number place) h = refl

clk_status : (plan : Plan) → exit_status (clk_lines plan) ≡ 0
unfolding exit_status same clk_lines
clk_status [] = refl
clk_status (bs ∷ plan) = refl

pub csu_status : (plan : Plan) → exit_status (write_plan plan) ≡ 0
unfolding exit_status same write_plan
csu_status [] = refl
csu_status (bs ∷ plan) = refl

-- the planner's text is that of a plan
plan_text : (net : Result Network) (room : ℕ) (text : Bytes) → planned net room ≡ ok text → (plan : Plan) × (text ≡ write_plan plan)
plan_text net room text e =
    let a = handed (and_then (and_then net (λ w. found (plan_for w))) text_of) (if_room room) text e in
    let b = handed (and_then net (λ w. found (plan_for w))) text_of a.value a.given in
    (b.value, sym (room_is room a.value text a.then) ∙ sym (ok_is b.then))

read_status : (n : Bytes) → exit_status (read_program n) ≡ status_for (read_network n)
unfolding exit_status same read_program
read_status n = status_by show_network (read_network n) (λ net e. refl)

plan_status : (n : Bytes) → exit_status (plan_program n) ≡ status_for (planned (searchable n search_entries) max_plan_bytes)
unfolding plan_program
plan_status n =
    let r = planned (searchable n search_entries) max_plan_bytes in
    status_by (λ text. text) r
    (λ text e. let p = plan_text (searchable n search_entries) max_plan_bytes text e in ap exit_status p.1 ∙ csu_status p.0)

mark_status : (n p : Bytes) → exit_status (mark_program n p) ≡ status_for (mark n p)
unfolding exit_status same mark_program
mark_status n p = status_by show_pass (mark n p) (λ pass e. refl)

clock_status : (p : Bytes) → exit_status (clock_program p) ≡ status_for (read_plan p)
unfolding clock_program
clock_status p = status_by clk_lines (read_plan p) (λ plan e. clk_status plan)

pub status_tells : StatusTells
status_tells = record { reader = read_status; planner = plan_status; marker = mark_status; clock_writer = clock_status }
