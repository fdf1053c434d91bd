-- The demands of the calls `mark` and `write_clocks`, from the model's theorems.
-- Assumes nothing.
use mathlib.Core.Path.{◌≡◌, refl, sym, ap, ◌∙◌, subst}
use mathlib.Core.List.{List}
use Prim.Native.Nat.{ℕ, ◌≤◌}
use native.Mathlib.Omega.{arith}
use lib.ListN.{length, take, length-map}
use borrow.Author.Tests.{le-ltb}
use Rattle.std.specs.Prelude.{Result as Answer, Ok, Err}
use Rattle.model.specs.Answers.{count_of}
use Rattle.model.specs.declared.refusal.Refusal.{Refusal}
use Rattle.model.specs.Result.{ok}
use Rattle.model.specs.Text.{Bytes}
use Rattle.model.specs.Plan.{Plan}
use Rattle.model.specs.PlanText.{read_plan}
use Rattle.model.specs.Tap.{Clock, plan_clocks, bit_byte}
use Rattle.model.specs.Mark.{Pass as ModelPass, mark}
use Rattle.model.specs.Calls.{clocks_of, clocks_written, write_clocks}
use Rattle.model.specs.Demands.{AcceptedAndValid, AsWritten}
use Rattle.model.specs.Places.{◌or◌, Listed, NetworkRefusal, PlanTextRefusal, MarkerRefusal}
use Rattle.model.proofs.Lists.{not_ok, ok_is}
use Rattle.model.proofs.Marking.{passed_run}
use Rattle.model.proofs.MarkerDemand.{marked_texts}
use Rattle.model.proofs.Demands.{refusals, marker, clocks as written, played}
use Rattle.marker_targets.specs.declared.Pass.{Pass}
use Rattle.marker_targets.specs.Answers.{pass_of, mark_of}
use Rattle.marker.specs.Demand.{EndsListed, PassesExactly, PassBorneOut}

pub ends_listed : EndsListed
ends_listed n p m e r q = subst (Listed (NetworkRefusal n or PlanTextRefusal p or MarkerRefusal n p)) (sym e.result ∙ ap mark_of q) (refusals.marker n p)

-- a call's answer that is a pass in the model
pub mark_passes : (m : Answer Pass Refusal) (pass : ModelPass) → mark_of m ≡ ok pass → (q : Pass) × (m ≡ Ok q)
mark_passes (Ok q) pass e = (q, refl)
mark_passes (Err r) pass e = absurd (not_ok e)

pub passes_exactly : PassesExactly
passes_exactly n p m e = (there, back)
  where
    there : (pass : Pass) × (m ≡ Ok pass) → AcceptedAndValid n p
    there (pass, q) = (marker n p).0 (pass_of pass, sym e.result ∙ ap mark_of q)

    back : AcceptedAndValid n p → (pass : Pass) × (m ≡ Ok pass)
    back a = let b = (marker n p).1 a in mark_passes m b.0 (e.result ∙ b.1)

-- the answer of a call that writes
answer_clocks : (w : Answer ℕ Refusal) (count : ℕ) → count_of w ≡ ok count → w ≡ Ok count
answer_clocks (Ok k) count e = ap Ok (ok_is e)
answer_clocks (Err r) count e = absurd (not_ok e)

-- with room, all clocks are written
with_room : (p : Bytes) (cs : List Clock) (tms tdi : List ℕ) → clocks_of p ≡ ok cs → length cs ≤ length tms → length cs ≤ length tdi → (write_clocks p tms tdi).result ≡ ok (length cs)
unfolding write_clocks clocks_written
with_room p cs tms tdi e a b = rw (e, le-ltb (length tms) (length cs) a) (rw (le-ltb (length tdi) (length cs) b) (ap ok (length-map cs (λ c. bit_byte c.tms))))

clocks_of_law : (p : Bytes) (plan : Plan) → read_plan p ≡ ok plan → clocks_of p ≡ ok (plan_clocks plan)
unfolding clocks_of
clocks_of_law p plan e = rw e

pub pass_borne_out : PassBorneOut
pass_borne_out n p m pass e q tms tdi w tms' tdi' wrote a b = (
  answer_clocks w count (wrote.result ∙ result),
  record {
    net = v.net;
    plan = v.plan;
    list = plan_clocks v.plan;
    accepted = v.accepted;
    reads = v.reads;
    as_many = many;
    tms_row_law = ap (take count) wrote.tms_left ∙ ap (λ (k : ℕ). take k (write_clocks p tms tdi).tms) (sym many) ∙ row.tms_row_law;
    tdi_row_law = ap (take count) wrote.tdi_left ∙ ap (λ (k : ℕ). take k (write_clocks p tms tdi).tdi) (sym many) ∙ row.tdi_row_law;
    upheld = λ first holds fed. played n p v.net v.plan (plan_clocks v.plan) (pass_of pass) v.accepted v.reads list_is is first holds fed;
  },
)
  where
    count : ℕ
    count = pass.clocks

    is : mark n p ≡ ok (pass_of pass)
    is = sym e.result ∙ ap mark_of q

    v : AcceptedAndValid n p
    v = (marker n p).0 (pass_of pass, is)

    list_is : clocks_of p ≡ ok (plan_clocks v.plan)
    list_is = clocks_of_law p v.plan v.reads

    many : length (plan_clocks v.plan) ≡ count
    many = (passed_run v.net v.plan (pass_of pass) (marked_texts n p v.net v.plan (pass_of pass) v.accepted v.reads is)).as_many

    result : (write_clocks p tms tdi).result ≡ ok count
    result = with_room p (plan_clocks v.plan) tms tdi list_is (omega (arith, many)) (omega (arith, many)) ∙ ap ok many

    row : AsWritten p tms tdi (plan_clocks v.plan)
    row =
        let c = written p tms tdi count result in
        subst (AsWritten p tms tdi) (ok_is (sym c.2.of_plan ∙ list_is)) c.2
