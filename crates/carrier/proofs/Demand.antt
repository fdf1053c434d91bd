-- The demands of the call `carry`, from the model's theorems.
-- Assumes nothing.
use mathlib.Core.Path.{◌≡◌, refl, sym, ap, ◌∙◌, subst}
use mathlib.Core.Bool.{false}
use mathlib.Core.List.{List}
use Prim.Native.Nat.{ℕ, ◌≤◌}
use native.Mathlib.Omega.{arith}
use lib.Dec.{ltb}
use lib.ListN.{length, take}
use borrow.Author.Tests.{le-ltb}
use Rattle.std.specs.Prelude.{Result as Answer, Ok, Err}
use Rattle.model.specs.Answers.{number_of, count_of as counted_of}
use Rattle.model.specs.Calls.{written, count_of, if_room}
use Rattle.model.specs.Mark.{Pass, mark}
use Rattle.model.specs.Places.{◌or◌, Listed, NetworkRefusal, PlanTextRefusal, MarkerRefusal}
use Rattle.model.specs.Result.{Result, ok, refused}
use Rattle.model.specs.Text.{Bytes}
use Rattle.model.specs.declared.refusal.Refusal.{Refusal}
use Rattle.model.proofs.CallCases.{room_is, row_taken}
use Rattle.model.proofs.Lists.{not_ok, ok_is, handed}
use Rattle.carry_model.specs.Carry.{carry, in_room, carry_text, max_hold_bytes}
use Rattle.carry_model.specs.CarryDemands.{ShortHolds}
use Rattle.carry_model.proofs.Carried.{carried_bytes}
use Rattle.carry_model.proofs.Requests.{carry_marks, used_as_start, start_accepted, carry_buffer, carry_buffer_after, carry_refusals}
use Rattle.carrier.specs.Call.{CarryReturned}
use Rattle.carrier.specs.Demand.{BufferKept, EndsListed, WrittenAfterPass, NextStart, WrittenIsStart}

-- ---- demand 1

pub buffer_kept : BufferKept
buffer_kept n p holds r holds' is = record {
  kept = λ x e. is.left ∙ carry_buffer n p holds (number_of x.kind) x.place (sym is.result ∙ ap counted_of e);
  written = λ count e. rw is.left (carry_buffer_after n p holds count (sym is.result ∙ ap counted_of e));
}

pub ends_listed : EndsListed
ends_listed n p holds r holds' is x e =
    subst (Listed (NetworkRefusal n or PlanTextRefusal p or MarkerRefusal n p or ShortHolds holds)) (sym is.result ∙ ap counted_of e) (carry_refusals n p holds)

-- ---- what is written

record Lines (n p : Bytes) (count : ℕ) (holds' : List ℕ) : Type 0 where
  held : Bytes
  carries : carry n p ≡ ok held
  are : take count holds' ≡ held

lines : (n p : Bytes) (holds : List ℕ) (r : Answer ℕ Refusal) (holds' : List ℕ) → CarryReturned n p holds r holds' → (count : ℕ) → r ≡ Ok count → Lines n p count holds'
unfolding carry_text
lines n p holds r holds' is count e = go (in_room (carry n p) (length holds)) refl (sym is.result ∙ ap counted_of e) is.left
  where
    go : (x : Result Bytes) → in_room (carry n p) (length holds) ≡ x → count_of x ≡ ok count → holds' ≡ written x holds → Lines n p count holds'
    go (refused number place) q c l = absurd (not_ok c)
    go (ok held) q c l =
        let h = handed (carry n p) (if_room (length holds)) held q in
        record { held = held; carries = h.given ∙ ap ok (room_is (length holds) h.value held h.then); are = ap (take count) l ∙ row_taken held holds count (ok_is c) }

told_written : (a : Answer ℕ Refusal) (m : ℕ) → counted_of a ≡ ok m → (count : ℕ) × (a ≡ Ok count)
told_written (Ok count) m e = (count, refl)
told_written (Err x) m e = absurd (not_ok e)

fits : (n p : Bytes) (holds : List ℕ) (held : Bytes) → max_hold_bytes ≤ length holds → carry n p ≡ ok held → (carry_text n p holds).result ≡ ok (length held)
unfolding carry_text
fits n p holds held room e =
    let b : ltb (length holds) (length held) ≡ false = le-ltb (length holds) (length held) (omega (arith, carried_bytes n p held e, room)) in
    rw (e, b)

pub written_after_pass : WrittenAfterPass
written_after_pass n p holds r holds' is room = (there, back)
  where
    there : (count : ℕ) × (r ≡ Ok count) → (pass : Pass) × (mark n p ≡ ok pass)
    there x = let l = lines n p holds r holds' is x.0 x.1 in (carry_marks n p).passes.1 (l.held, l.carries)

    back : (pass : Pass) × (mark n p ≡ ok pass) → (count : ℕ) × (r ≡ Ok count)
    back x = let c = (carry_marks n p).passes.0 x in told_written r _ (is.result ∙ fits n p holds c.0 room c.1)

pub written_is_start : WrittenIsStart
written_is_start n p holds r holds' is count e net plan reads also =
    let l = lines n p holds r holds' is count e in
    subst (NextStart n net plan) (sym l.are) (record {
      accepted = (start_accepted n p l.held net plan l.carries reads also).accepted;
      there = λ n' net' next q. used_as_start n p l.held n' net net' plan l.carries next reads also q;
    })
