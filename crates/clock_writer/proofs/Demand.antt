-- The demands of the calls `write_clocks` and `run`, from the model's theorems.
-- Assumes nothing.
use mathlib.Core.Path.{◌≡◌, refl, sym, ap, ◌∙◌, subst}
use mathlib.Core.Logic.{◌⊎◌, inl, inr}
use mathlib.Core.List.{List, map}
use Prim.Native.Nat.{ℕ, ◌≤◌, ◌<◌}
use native.Mathlib.Omega.{arith}
use lib.ListN.{length, take}
use Rattle.std.specs.Prelude.{Result as Answer, Err}
use Rattle.model.specs.Limits.{max_plan_bytes}
use Rattle.model.specs.Text.{Bytes}
use Rattle.model.specs.Answers.{number_of, count_of}
use Rattle.model.specs.Result.{refused}
use Rattle.model.specs.declared.refusal.Refusal.{Refusal}
use Rattle.model.specs.Tap.{idle, state_number, state_after}
use Rattle.model.specs.Places.{◌or◌, Listed, ClockRefusal, short_row, PlanTextRefusal, plan_line, plan_unended, plan_too_long}
use Rattle.model.specs.Calls.{write_clocks}
use Rattle.model.specs.Demands.{OnlyFirst}
use Rattle.model.proofs.Demands.{clock_buffers, clock_buffers_after, refusals}
use Rattle.clock_writer.specs.Machine.{is_one}
use Rattle.clock_writer.specs.Clocks.{WroteClocks}
use Rattle.clock_writer.specs.Demand.{BuffersKept, BuffersWritten, EndsListed, RefusesOnlyShort, BackToIdle}
use Rattle.clock_writer.proofs.Idle.{idle_after}

-- the model's answer where the call refused
refuses : (p : Bytes) (tms tdi : List ℕ) (w : Answer ℕ Refusal) (tms' tdi' : List ℕ) → WroteClocks p tms tdi w tms' tdi'
    → (r : Refusal) → w ≡ Err r → (write_clocks p tms tdi).result ≡ refused (number_of r.kind) r.place
refuses p tms tdi w tms' tdi' wrote r e = sym wrote.result ∙ ap count_of e

pub buffers_kept : BuffersKept
buffers_kept p tms tdi w tms' tdi' wrote r e =
    let kept = clock_buffers p tms tdi _ _ (refuses p tms tdi w tms' tdi' wrote r e) in
    (wrote.tms_left ∙ kept.0, wrote.tdi_left ∙ kept.1)

pub buffers_written : BuffersWritten
buffers_written p tms tdi count tms' tdi' wrote =
    let after = clock_buffers_after p tms tdi count (sym wrote.result) in
    (subst (OnlyFirst count tms) (sym wrote.tms_left) after.0, subst (OnlyFirst count tdi) (sym wrote.tdi_left) after.1)

pub ends_listed : EndsListed
ends_listed p tms tdi w tms' tdi' wrote r e =
    subst (Listed (PlanTextRefusal p or ClockRefusal p tms tdi)) (refuses p tms tdi w tms' tdi' wrote r e) (refusals.clock_writer p tms tdi)

-- ---- 13

form_number : (p : Bytes) (number place : ℕ) → PlanTextRefusal p number place → number ≡ 14
form_number p number place (plan_line line few) = refl
form_number p number place (plan_unended few) = refl
form_number p number place (plan_too_long long) = refl

abbrev Short : List ℕ → List ℕ → ℕ → Type 0
Short tms tdi place = ((length tms < place) ⊎ (length tdi < place)) × (place ≤ max_plan_bytes)

row_short : (p : Bytes) (tms tdi : List ℕ) (number place : ℕ) → ClockRefusal p tms tdi number place → Short tms tdi place
row_short p tms tdi number place (short_row is less most) = (less, most)

pub refuses_only_short : RefusesOnlyShort
refuses_only_short p tms tdi w tms' tdi' wrote place e =
    go (subst (Listed (PlanTextRefusal p or ClockRefusal p tms tdi)) (sym wrote.result ∙ e) (refusals.clock_writer p tms tdi))
  where
    go : (PlanTextRefusal p or ClockRefusal p tms tdi) 13 place → Short tms tdi place
    go (inl row) = absurd (let z = form_number p 13 place row in omega arith)
    go (inr row) = row_short p tms tdi 13 place row

-- ---- the clock machine

pub back_to_idle : BackToIdle
back_to_idle p tms tdi count tms' tdi' wrote state ran =
    ran ∙ ap (λ (t : List ℕ). state_number (state_after idle (map is_one (take count t)))) wrote.tms_left
    ∙ ap state_number (idle_after p tms tdi count (sym wrote.result))
