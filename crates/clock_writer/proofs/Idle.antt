-- The clocks written bring the controller from Run-Test/Idle back to it.
-- Assumes nothing.
use mathlib.Core.Path.{◌≡◌, refl, sym, ap, ◌∙◌}
use mathlib.Core.Bool.{Bool, true, false}
use mathlib.Core.List.{List, [], ◌∷◌, ◌++◌, map}
use Prim.Native.Nat.{ℕ}
use lib.ListN.{take}
use Rattle.model.specs.Result.{ok}
use Rattle.model.specs.Text.{Bytes}
use Rattle.model.specs.Plan.{Plan}
use Rattle.model.specs.Tap.{Tap, idle, shiftDR, exit1DR, next, state_after, Clock, clk, shift_clocks, op_clocks, plan_clocks, bit_byte}
use Rattle.model.specs.PlanText.{read_plan}
use Rattle.model.specs.Calls.{clocks_of, ClocksAnswer, write_clocks}
use Rattle.model.proofs.Lists.{not_ok, ok_is, handed}
use Rattle.model.proofs.CallCases.{ClockCase, refuses, writes, clock_case, row_taken}
use Rattle.clock_writer.specs.Machine.{is_one}
use Rattle.clock_writer.proofs.Rows.{tms_row}

-- ---- in the model

abbrev pins : List Clock → List Bool
pins cs = map (λ c. c.tms) cs

after_append : (t : Tap) (cs ds : List Clock) → state_after t (pins (cs ++ ds)) ≡ state_after (state_after t (pins cs)) (pins ds)
unfolding state_after
after_append t [] ds = refl
after_append t (c ∷ cs) ds = after_append (next t c.tms) cs ds

shift_after : (b : Bool) (bs : List Bool) → state_after shiftDR (pins (shift_clocks (b ∷ bs))) ≡ exit1DR
unfolding state_after shift_clocks
shift_after b [] = refl
shift_after b (d ∷ bs) = shift_after d bs

op_after : (bs : List Bool) → state_after idle (pins (op_clocks bs)) ≡ idle
unfolding state_after op_clocks shift_clocks
op_after [] = refl
op_after (b ∷ bs) =
    let ending = clk true false ∷ clk false false ∷ [] in
    after_append shiftDR (shift_clocks (b ∷ bs)) ending ∙ ap (λ (t : Tap). state_after t (pins ending)) (shift_after b bs)

plan_after : (plan : Plan) → state_after idle (pins (plan_clocks plan)) ≡ idle
unfolding state_after plan_clocks
plan_after [] = refl
plan_after (bs ∷ plan) = after_append idle (op_clocks bs) (plan_clocks plan) ∙ ap (λ (t : Tap). state_after t (pins (plan_clocks plan))) (op_after bs) ∙ plan_after plan

-- ---- the bytes written

one_byte : (b : Bool) → is_one (bit_byte b) ≡ b
one_byte true = refl
one_byte false = refl

row_pins : (cs : List Clock) → map is_one (tms_row cs) ≡ pins cs
row_pins [] = refl
row_pins (c ∷ cs) = rw (one_byte c.tms, row_pins cs)

-- the TMS bytes of a call that answers a count
pub idle_after : (p : Bytes) (tms tdi : List ℕ) (count : ℕ) → (write_clocks p tms tdi).result ≡ ok count
    → state_after idle (map is_one (take count (write_clocks p tms tdi).tms)) ≡ idle
unfolding clocks_of
idle_after p tms tdi count e = go (clock_case p tms tdi)
  where
    go : ClockCase p tms tdi → state_after idle (map is_one (take count (write_clocks p tms tdi).tms)) ≡ idle
    go (refuses number place q) = absurd (not_ok (sym (ap (λ (a : ClocksAnswer). a.result) q) ∙ e))
    go (writes clocks f q) =
        let h = handed (read_plan p) (λ plan. ok (plan_clocks plan)) clocks f in
        let row = row_taken (tms_row clocks) tms count (ok_is (sym (ap (λ (a : ClocksAnswer). a.result) q) ∙ e)) in
        ap (λ (a : ClocksAnswer). state_after idle (map is_one (take count a.tms))) q
        ∙ ap (λ (l : Bytes). state_after idle (map is_one l)) row
        ∙ ap (state_after idle) (row_pins clocks)
        ∙ ap (λ (cs : List Clock). state_after idle (pins cs)) (sym (ok_is h.then))
        ∙ plan_after h.value
