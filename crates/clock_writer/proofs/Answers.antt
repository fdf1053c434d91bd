-- The clock writer's answer in each case: the text's refusal, then 13, then the clocks.
-- Assumes nothing.
use mathlib.Core.Path.{◌≡◌, refl, sym, ap, ◌∙◌}
use mathlib.Core.Logic.{◌⊎◌, inl, inr}
use mathlib.Core.List.{List}
use Rattle.std.specs.Prelude.{Result as Answer, Ok, Err}
use Prim.Native.Nat.{ℕ, ◌≤◌, ◌<◌}
use native.Mathlib.Omega.{arith}
use lib.ListN.{length, length-map}
use borrow.Author.Tests.{lt-ltb, le-ltb}
use Rattle.model.specs.Result.{Result, ok, refused, and_then}
use Rattle.model.specs.Refusals.{buffer}
use Rattle.model.specs.Answers.{number_of, count_of}
use Rattle.model.specs.declared.refusal.Kind.TheVariants.{Buffer}
use Rattle.model.specs.declared.refusal.Refusal.{Refusal}
use Rattle.model.specs.Text.{Bytes}
use Rattle.model.specs.Plan.{Plan}
use Rattle.model.specs.PlanText.{read_plan}
use Rattle.model.specs.Tap.{Clock, plan_clocks, bit_byte}
use Rattle.model.specs.Calls.{written, count_of as bytes_of, clocks_of, if_room, clocks_written, row_of, write_clocks}
use Rattle.model.proofs.Lists.{not_ok, ok_is, handed}
use Rattle.model.proofs.CallCases.{Room, short as short-room, enough_room, room_case}
use Rattle.model.proofs.PlanTexts.{text_of, clocks_bytes}
use Rattle.clock_writer.specs.Clocks.{WroteClocks}
use Rattle.clock_writer.proofs.Rows.{row_bytes, row_length}

module _ (p : Bytes) (tms tdi : List ℕ) where
  -- by the clocks written, for these lengths
  by_clocks : (cs : Result (List Clock)) → clocks_written p (length tms) (length tdi) ≡ cs → (w : Answer ℕ Refusal) → count_of w ≡ bytes_of (row_of (λ c. c.tms) cs)
      → WroteClocks p tms tdi w (written (row_of (λ c. c.tms) cs) tms) (written (row_of (λ c. c.tdi) cs) tdi)
  unfolding write_clocks
  by_clocks cs e w is = record {
    result = is ∙ ap (λ (x : Result (List Clock)). bytes_of (row_of (λ c. c.tms) x)) (sym e);
    tms_left = ap (λ (x : Result (List Clock)). written (row_of (λ c. c.tms) x) tms) (sym e);
    tdi_left = ap (λ (x : Result (List Clock)). written (row_of (λ c. c.tdi) x) tdi) (sym e);
  }

  pub bad_form : (r : Refusal) → read_plan p ≡ refused (number_of r.kind) r.place → WroteClocks p tms tdi (Err r) tms tdi
  unfolding clocks_written clocks_of
  bad_form r e = by_clocks (refused (number_of r.kind) r.place) (rw e) (Err r) refl

  module _ (plan : Plan) (reads : read_plan p ≡ ok plan) where
    as_long : length (plan_clocks plan) ≡ length p
    as_long = sym (clocks_bytes plan) ∙ ap length (sym (text_of p plan reads).text)

    its_clocks : clocks_of p ≡ ok (plan_clocks plan)
    unfolding clocks_of
    its_clocks = rw reads

    by_room : clocks_written p (length tms) (length tdi) ≡ and_then (if_room (length tms) (plan_clocks plan)) (if_room (length tdi))
    unfolding clocks_written clocks_of
    by_room = rw reads

    room : length p ≤ length tms → if_room (length tms) (plan_clocks plan) ≡ ok (plan_clocks plan)
    room h = rw (le-ltb (length tms) (length (plan_clocks plan)) (omega (arith, as_long)))

    -- one of the buffers too short
    pub short : (length tms < length p) ⊎ ((length p ≤ length tms) × (length tdi < length p)) → WroteClocks p tms tdi (Err record { kind = Buffer; place = length p }) tms tdi
    short less = by_clocks (refused buffer (length p)) (by_room ∙ which less ∙ ap (refused buffer) as_long) (Err record { kind = Buffer; place = length p }) refl
      where
        which : (length tms < length p) ⊎ ((length p ≤ length tms) × (length tdi < length p))
            → and_then (if_room (length tms) (plan_clocks plan)) (if_room (length tdi)) ≡ refused buffer (length (plan_clocks plan))
        which (inl h) = rw (lt-ltb (length tms) (length (plan_clocks plan)) (omega (arith, as_long)))
        which (inr h) = rw (room h.0) (rw (lt-ltb (length tdi) (length (plan_clocks plan)) (omega (arith, as_long))))

    pub all_written : length p ≤ length tms → length p ≤ length tdi → (tms' tdi' : List ℕ) → tms' ≡ written (row_of (λ c. c.tms) (clocks_of p)) tms
        → tdi' ≡ written (row_of (λ c. c.tdi) (clocks_of p)) tdi → WroteClocks p tms tdi (Ok (length p)) tms' tdi'
    all_written k h tms' tdi' e f =
        let cs = plan_clocks plan in
        let n : length (row_bytes (λ c. c.tms) cs) ≡ length p = row_length (λ c. c.tms) plan ∙ ap length (sym (text_of p plan reads).text) in
        let a = by_clocks (ok cs) (by_room ∙ rw (room k) (rw (le-ltb (length tdi) (length cs) (omega (arith, as_long))))) (Ok (length p)) (ap ok (sym n)) in
        record {
          result = a.result;
          tms_left = e ∙ ap (λ (x : Result (List Clock)). written (row_of (λ c. c.tms) x) tms) its_clocks ∙ a.tms_left;
          tdi_left = f ∙ ap (λ (x : Result (List Clock)). written (row_of (λ c. c.tdi) x) tdi) its_clocks ∙ a.tdi_left;
        }

-- ---- for callers: what a count says

pub record Wrote (p : Bytes) (tms tdi : List ℕ) (count : ℕ) : Type 0 where
  pub plan : Plan
  pub reads : read_plan p ≡ ok plan
  pub as_many : count ≡ length p
  pub tms_room : count ≤ length tms
  pub tdi_room : count ≤ length tdi

room_left : {A : Type 0} (room : ℕ) (new got : List A) → if_room room new ≡ ok got → (new ≡ got) × (length new ≤ room)
room_left {A} room new got e = go (if_room room new) (room_case room new) e
  where
    go : (r : Result (List A)) → Room room new r → r ≡ ok got → (new ≡ got) × (length new ≤ room)
    go r (short-room less) f = absurd (not_ok f)
    go r (enough_room fits) f = (ok_is f, fits)

pub count_says : (p : Bytes) (tms tdi : List ℕ) (count : ℕ) → (write_clocks p tms tdi).result ≡ ok count → Wrote p tms tdi count
unfolding write_clocks clocks_written clocks_of
count_says p tms tdi count e = go (clocks_written p (length tms) (length tdi)) refl e
  where
    go : (cs : Result (List Clock)) → clocks_written p (length tms) (length tdi) ≡ cs → bytes_of (row_of (λ c. c.tms) cs) ≡ ok count → Wrote p tms tdi count
    go (refused number place) f g = absurd (not_ok g)
    go (ok cs) f g =
        let a = handed (and_then (clocks_of p) (if_room (length tms))) (if_room (length tdi)) cs f in
        let b = handed (clocks_of p) (if_room (length tms)) a.value a.given in
        let h = handed (read_plan p) (λ plan. ok (plan_clocks plan)) b.value b.given in
        let tms_left = room_left (length tms) b.value a.value b.then in
        let tdi_left = room_left (length tdi) a.value cs a.then in
        let n : length cs ≡ length p = ap length (sym (ok_is h.then ∙ tms_left.0 ∙ tdi_left.0)) ∙ as_long p tms tdi h.value h.given in
        let m : count ≡ length cs = sym (ok_is g) ∙ length-map cs (λ c. bit_byte c.tms) in
        record {
          plan = h.value;
          reads = h.given;
          as_many = m ∙ n;
          tms_room = omega (arith, tms_left.1, ap length tms_left.0, ap length tdi_left.0);
          tdi_room = omega (arith, tdi_left.1, ap length tdi_left.0);
        }
