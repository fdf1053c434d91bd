-- Laws of the call by the mark: where it refuses, and the lines of what a pass left.
-- Assumes nothing.
use mathlib.Core.Path.{◌≡◌, sym, ap, ◌∙◌}
use mathlib.Core.List.{List}
use Prim.Native.Nat.{ℕ}
use lib.ListN.{length}
use Rattle.std.specs.Prelude.{Result as Answer, Ok, Err}
use Rattle.model.specs.Answers.{number_of}
use Rattle.model.specs.Calls.{written, count_of, if_room}
use Rattle.model.specs.Mark.{Pass, mark_plan, mark}
use Rattle.model.specs.Network.{Network, Config}
use Rattle.model.specs.NetworkText.{read_network}
use Rattle.model.specs.Plan.{Plan}
use Rattle.model.specs.PlanText.{read_plan}
use Rattle.model.specs.Result.{Result, ok, refused, and_then}
use Rattle.model.specs.Text.{Bytes}
use Rattle.model.specs.declared.refusal.Refusal.{Refusal}
use Rattle.model.proofs.Lists.{handed}
use Rattle.carry_model.specs.Carry.{hold_lines, config_text, left_by, carry, carry_text}
use Rattle.carry_model.proofs.Carried.{carried_as_marked}
use Rattle.network_path.specs.Layout.{nodes_of}
use Rattle.network_path.proofs.StoredLaws.{stored_short}
use Rattle.marker.specs.declared.Marked.{Marked}
use Rattle.marker.specs.Left.{Stands, LeftAfter}
use Rattle.marker.specs.Marks.{MarkReturned}
use Rattle.hold_lines.specs.Lines.{text_at, Configured, GivesText}
use Rattle.carrier.specs.Call.{CarryReturned}

-- the call's answer by what is carried
by_carry : (n p : Bytes) (holds : List ℕ) (r : Result Bytes) → carry n p ≡ r
    → ((carry_text n p holds).result ≡ count_of (and_then r (if_room (length holds)))) × ((carry_text n p holds).holds ≡ written (and_then r (if_room (length holds))) holds)
unfolding carry_text
by_carry n p holds r e = (rw e, rw e)

carries_left : (n p : Bytes) (net : Network) (plan : Plan) (pass : Pass) → read_network n ≡ ok net → read_plan p ≡ ok plan → mark_plan net plan ≡ ok pass
    → carry n p ≡ ok (config_text net (left_by net plan))
unfolding carry
carries_left n p net plan pass e f g = rw (e, f, g)

module _ (n p : Bytes) where
  pub not_carried : (holds : List ℕ) (r : Refusal) → MarkReturned n p (Err r) → CarryReturned n p holds (Err r) holds
  not_carried holds r is =
      let number = number_of r.kind in
      let a = by_carry n p holds (refused number r.place) (((carried_as_marked n p).refuses number r.place).0 (sym is.result)) in
      record { result = sym a.0; left = sym a.1 }

  module _ (m : Marked) (is : MarkReturned n p (Ok m.pass)) (leaves : LeftAfter n p m) where
    -- what a pass left
    record Left : Type 0 where
      net : Network
      plan : Plan
      carries : carry n p ≡ ok (config_text net (left_by net plan))
      stands : Stands net (left_by net plan) m

    left : Left
    unfolding mark
    left =
        let a = handed (read_network n) (λ net. and_then (read_plan p) (mark_plan net)) _ (sym is.result) in
        let b = handed (read_plan p) (mark_plan a.value) _ a.then in
        record {
          net = a.value;
          plan = b.value;
          carries = carries_left n p a.value b.value _ a.given b.given b.then;
          stands = leaves a.value b.value _ a.given b.given b.then;
        }

    -- what the writer asks
    pub configured : Configured m.nodes m.bits m.known m.count
    configured =
        let s = left.stands in
        record { in_words = record { most = s.stored.most; short = stored_short _ _ _ _ s.stored }; sized = s.sized }

    text_is : text_at m.nodes m.bits m.known m.count ≡ config_text left.net (left_by left.net left.plan)
    text_is =
        let s = left.stands in
        ap (λ (c : Config). hold_lines c 1 (nodes_of m.nodes m.count)) s.config ∙ ap (hold_lines (left_by left.net left.plan) 1) (sym s.stored.nodes)

    pub given : (holds : List ℕ) (r : Answer ℕ Refusal) (holds' : List ℕ) → GivesText (text_at m.nodes m.bits m.known m.count) holds r holds' → CarryReturned n p holds r holds'
    given holds r holds' g =
        let a = by_carry n p holds _ (left.carries ∙ ap ok (sym text_is)) in
        record { result = g.result ∙ sym a.0; left = g.left ∙ sym a.1 }
