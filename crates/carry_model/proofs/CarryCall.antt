-- Document 02, Change 3: what the call of `carry` leaves in the lent buffer, and that it refuses only with its rows. Change 4: that it
-- gives the same for a text accepted earlier.
-- Assumes nothing.
use mathlib.Core.Path.{◌≡◌, refl, ap, subst}
use mathlib.Core.Logic.{inl, inr}
use mathlib.Core.List.{List}
use Prim.Native.Nat.{ℕ, ◌≤◌}
use lib.ListN.{length}
use lib.Dec.{ltb}
use borrow.Author.Tests.{ltb-true}
use Rattle.model.specs.Calls.{if_room}
use Rattle.model.specs.Mark.{Pass}
use Rattle.model.specs.Network.{Network}
use Rattle.model.specs.Places.{RefusalRows, ◌or◌, Listed, NetworkRefusal, PlanTextRefusal, MarkerRefusal}
use Rattle.model.specs.Printed.{printed}
use Rattle.model.specs.Refusals as refusal
use Rattle.model.specs.Result.{Result, ok, refused}
use Rattle.model.specs.Text.{Bytes}
use Rattle.model.proofs.CallCases.{room_fits}
use Rattle.model.proofs.EarlierTexts.{same_network}
use Rattle.model.proofs.Ends.{Ends, gives, refuses, listed, ends_if, ends_then, ends_more, count_ends}
use Rattle.model.proofs.LentBuffers.{kept_if_refused, written_if_given}
use Rattle.model.proofs.Lists.{handed}
use Rattle.model.proofs.Refusals.{mark_ends}
use Rattle.carry_model.specs.Carry.{carry_read, carry, carry_program, in_room, carry_answer, carry_text, max_hold_bytes}
use Rattle.carry_model.specs.CarryDemands.{CarryBufferKept, CarryBufferWritten, CarryListed, ShortHolds, short_of, CarryEarlier}
use Rattle.carry_model.proofs.Carried.{carried_as_marked, carried_bytes}

-- ---- the buffer

pub carry_buffer_kept : CarryBufferKept
unfolding carry_text
carry_buffer_kept n p holds number place e = kept_if_refused (in_room (carry n p) (length holds)) holds number place e

pub carry_buffer_written : CarryBufferWritten
unfolding carry_text
carry_buffer_written n p holds count e = written_if_given (in_room (carry n p) (length holds)) holds count fits e
  where
    fits : (text : List ℕ) → in_room (carry n p) (length holds) ≡ ok text → length text ≤ length holds
    fits text f = let h = handed (carry n p) (if_room (length holds)) text f in room_fits (length holds) h.value text h.then

-- ---- the refusals

module _ (n p : Bytes) (holds : List ℕ) where
  abbrev Marked : RefusalRows
  Marked = NetworkRefusal n or PlanTextRefusal p or MarkerRefusal n p

  abbrev Rows : RefusalRows
  Rows = NetworkRefusal n or PlanTextRefusal p or MarkerRefusal n p or ShortHolds holds

  carry_ends : Ends Marked (λ (text : Bytes). length text ≤ max_hold_bytes) (carry n p)
  carry_ends = go (carry n p) refl
    where
      go : (r : Result Bytes) → carry n p ≡ r → Ends Marked (λ (text : Bytes). length text ≤ max_hold_bytes) r
      go (ok held) e = gives (carried_bytes n p held e)
      go (refused number place) e = refuses (subst (λ (r : Result Pass). Listed Marked r) (((carried_as_marked n p).refuses number place).1 e) (listed (mark_ends n p)))

  more : (number place : ℕ) → Marked number place → Rows number place
  more number place (inl row) = inl row
  more number place (inr (inl row)) = inr (inl row)
  more number place (inr (inr row)) = inr (inr (inl row))

  room_ends : (text : Bytes) → length text ≤ max_hold_bytes → Ends Rows (λ (t : Bytes). Unit {0}) (if_room (length holds) text)
  room_ends text l = ends_if (ltb (length holds) (length text)) refusal.buffer (length text) _ (λ h. inr (inr (inr (short_of (ltb-true _ _ h) l)))) (λ h. gives tt)

pub carry_listed : CarryListed
unfolding carry_text
carry_listed n p holds = listed (count_ends (ends_then (if_room (length holds)) (ends_more (more n p holds) (carry_ends n p holds)) (λ text e l. room_ends n p holds text l)))

-- ---- Change 4

pub carry_earlier : CarryEarlier
unfolding carry carry_text carry_program
carry_earlier n p net e =
    let same = same_network n net e in
    record {
      lines = ap (λ (r : Result Network). carry_read r p) same;
      buffers = λ holds. ap (λ (r : Result Network). carry_answer (carry_read r p) holds) same;
      prints = ap (λ (r : Result Network). printed (λ text. text) (carry_read r p)) same;
    }
