-- The plan that is given back was really played: its own clocks do on the test frame what the clocks of the text did.
-- Assumes nothing.
use mathlib.Core.Path.{◌≡◌, refl, sym, ap, ◌∙◌, subst}
use mathlib.Core.Bool.{Bool, false, cond}
use Rattle.std.specs.Prelude.{Some as some}
use mathlib.Core.List.{List, [], ◌∷◌, map}
use Prim.Native.Nat.{ℕ, suc, ◌<◌}
use native.Mathlib.Omega.{arith}
use lib.ListN.{length, length-map}
use lib.Seq.{take-length}
use lib.Dec.{eqb}
use Rattle.model.specs.Calls.{clocks_of}
use Rattle.model.specs.Frame.{Registers, held_at, Captures}
use Rattle.model.specs.Mark.{mark}
use Rattle.model.specs.Plan.{Plan}
use Rattle.model.specs.PlanText.{write_plan}
use Rattle.model.specs.Printed.{printed}
use Rattle.model.specs.Result.{Result, ok, and_then}
use Rattle.model.specs.Tap.{Tap, idle, next, Action, capture, shift, update, keep, action, Clock, plan_clocks}
use Rattle.model.specs.Text.{Bytes}
use Rattle.model.proofs.Lists.{eqb_same, eqb_below, some_same}
use Rattle.model.proofs.MarkerDemand.{played_as_marked}
use Rattle.recover_model.specs.Recover.{Follower, at_start, follow_clocks, recover, recover_program}
use Rattle.recover_model.specs.Recovered.{rests_in, passages, add_capture, capture_clocks, from_idle, SameCaptures, PlayedAs, ReallyPlayed, MarkedAsPlayed}
use Rattle.recover_model.proofs.Deeds.{deeds, registers_after, shown_by, played_state, played_registers, played_shows}
use Rattle.recover_model.proofs.Following.{within_clocks, within_at_start, plan_few, plan_short}
use Rattle.recover_model.proofs.Passages.{plan_deeds, deeds_are, counts_are}
use Rattle.recover_model.proofs.PlanOr19.{reads_back}
use Rattle.recover_model.proofs.RoundTrip.{plan_followed}
use Rattle.recover_model.proofs.TakenBack.{reaches, text_followed}
use Rattle.recover_model.proofs.TapStates.{inside}

-- ---- captures for any list of them

-- another value at one clock
abbrev with_value : ℕ → (ℕ → Bool) → Captures → Captures
with_value j g own k = cond (eqb k j) g (own k)

same_on : (F G : Captures) (a : Action) (i : ℕ) (ks : List ℕ) → F i ≡ G i → map F ks ≡ map G ks → map F (add_capture a i ks) ≡ map G (add_capture a i ks)
same_on F G capture i ks p q = rw (p, q)
same_on F G shift i ks p q = q
same_on F G update i ks p q = q
same_on F G keep i ks p q = q

-- clocks from i on come behind clock j
untouched : (cs : List Clock) (t : Tap) (i j : ℕ) (g : ℕ → Bool) (own : Captures) → j < i
    → map (with_value j g own) (capture_clocks t i cs) ≡ map own (capture_clocks t i cs)
unfolding capture_clocks
untouched [] t i j g own l = refl
untouched (c ∷ cs) t i j g own l =
    same_on (with_value j g own) own (action t) i (capture_clocks (next t c.tms) (suc i) cs) (rw (eqb_below i j l)) (untouched cs (next t c.tms) (suc i) j g own (omega arith))

add_own : (a : Action) (i : ℕ) (t : Tap) (cs : List Clock)
    → ((gs : List (ℕ → Bool)) → length gs ≡ length (capture_clocks t (suc i) cs) → (own : Captures) × (gs ≡ map own (capture_clocks t (suc i) cs)))
    → (fs : List (ℕ → Bool)) → length fs ≡ length (add_capture a i (capture_clocks t (suc i) cs)) → (own : Captures) × (fs ≡ map own (add_capture a i (capture_clocks t (suc i) cs)))
add_own capture i t cs h [] e = let z : 0 ≡ suc (length (capture_clocks t (suc i) cs)) = e in absurd (omega arith)
add_own capture i t cs h (f ∷ fs) e =
    let r = h fs (let z : suc (length fs) ≡ suc (length (capture_clocks t (suc i) cs)) = e in omega arith) in
    (with_value i f r.0, rw (eqb_same i, untouched cs t (suc i) i f r.0 (omega arith)) (ap (λ (l : List (ℕ → Bool)). f ∷ l) r.1))
add_own shift i t cs h fs e = h fs e
add_own update i t cs h fs e = h fs e
add_own keep i t cs h fs e = h fs e

own_for : (cs : List Clock) (t : Tap) (i : ℕ) (fs : List (ℕ → Bool)) → length fs ≡ length (capture_clocks t i cs) → (own : Captures) × (fs ≡ map own (capture_clocks t i cs))
unfolding capture_clocks
own_for [] t i [] e = (λ k n. false, refl)
own_for [] t i (f ∷ fs) e = let z : suc (length fs) ≡ 0 = e in absurd (omega arith)
own_for (c ∷ cs) t i fs e = add_own (action t) i (next t c.tms) cs (own_for cs (next t c.tms) (suc i)) fs e

-- ---- two lists of clocks with the same passages

record EndsAs (cs : List Clock) (plan : Plan) : Type 0 where
  rests : rests_in cs ≡ idle
  its : passages idle [] cs ≡ plan

module _ (cs ds : List Clock) (plan : Plan) (p : EndsAs cs plan) (q : EndsAs ds plan) where
  as_many : length (capture_clocks idle 0 cs) ≡ length (capture_clocks idle 0 ds)
  as_many =
      counts_are cs idle 0 refl (ap inside p.rests) ∙ ap length (p.its ∙ sym q.its)
      ∙ sym (counts_are ds idle 0 refl (ap inside q.rests))

  own_captures : (fed : Captures) → (own : Captures) × SameCaptures fed cs own ds
  own_captures fed = own_for ds idle 0 (map fed (capture_clocks idle 0 cs)) (length-map (capture_clocks idle 0 cs) fed ∙ as_many)

  same_deeds : (fed own : Captures) → SameCaptures fed cs own ds → deeds fed idle 0 cs ≡ deeds own idle 0 ds
  same_deeds fed own s =
      deeds_are fed cs idle 0 refl (ap inside p.rests) ∙ ap (λ (l : List (ℕ → Bool)). plan_deeds l (passages idle [] cs)) s
      ∙ ap (plan_deeds (map own (capture_clocks idle 0 ds))) (p.its ∙ sym q.its) ∙ sym (deeds_are own ds idle 0 refl (ap inside q.rests))

ends_as : (cs : List Clock) (g : Follower) → follow_clocks at_start cs ≡ some g → g.state ≡ idle → EndsAs cs g.plan
ends_as cs g e s = let r = reaches cs at_start g e in record { rests = sym r.state ∙ s; its = sym r.plan }

played_as : (cs : List Clock) (g : Follower) → follow_clocks at_start cs ≡ some g → g.state ≡ idle → PlayedAs cs g.plan
played_as cs g e s =
    let k = within_clocks at_start cs g within_at_start e in
    let w = plan_followed g.plan [] 0 0 (omega (arith, plan_few g k)) (omega (arith, plan_short g k)) in
    let p = ends_as cs g e s in
    let q : EndsAs (plan_clocks g.plan) g.plan = subst (EndsAs (plan_clocks g.plan)) w.3 (ends_as (plan_clocks g.plan) w.0 w.1 w.2) in
    record {
      captures = own_captures cs (plan_clocks g.plan) g.plan p q;
      plays = λ net first fed own c.
          let same = same_deeds cs (plan_clocks g.plan) g.plan p q fed own c in
          record {
            at_rest = played_state net fed cs idle 0 first ∙ p.rests;
            plan_at_rest = played_state net own (plan_clocks g.plan) idle 0 first ∙ q.rests;
            registers = played_registers net fed cs idle 0 first ∙ ap (registers_after net first) same ∙ sym (played_registers net own (plan_clocks g.plan) idle 0 first);
            shows = played_shows net fed cs idle 0 first ∙ ap (shown_by net first) same ∙ sym (played_shows net own (plan_clocks g.plan) idle 0 first);
          };
    }

-- ---- the text

pub plays_the_same : ReallyPlayed
plays_the_same t plan e =
    let r = text_followed t plan e in
    (r.clocks, r.are, subst (PlayedAs r.clocks) r.given (played_as r.clocks r.last r.followed r.rests))

-- the plan that is printed
printed_plan : (t : Bytes) (plan : Plan) → recover t ≡ ok plan → recover_program t ≡ write_plan plan
unfolding recover_program
printed_plan t plan e = ap (printed write_plan) e

pub marked_holds : MarkedAsPlayed
unfolding clocks_of
marked_holds n t h fed =
    let net = h.net in
    let plan = h.plan in
    let p = plays_the_same t plan h.given_back in
    let same : p.0 ≡ h.clocks = some_same p.0 h.clocks (sym p.1 ∙ h.joined) in
    let own = p.2.captures fed in
    let reads = reads_back t plan h.given_back in
    let u = played_as_marked n (write_plan plan) net plan (plan_clocks plan) h.pass h.accepted reads
    (ap (λ (r : Result Plan). and_then r (λ q. ok (plan_clocks q))) reads) (ap (mark n) (sym (printed_plan t plan h.given_back)) ∙ h.passes) h.first h.holds own.0 in
    ap (λ (x : List Clock). held_at (from_idle net h.first fed x).registers h.segment_number) (sym same)
    ∙ ap (λ (rs : Registers). held_at rs h.segment_number) (p.2.plays net h.first fed own.0 own.1).registers
    ∙ ap (λ (x : List Clock). held_at (from_idle net h.first own.0 x).registers h.segment_number) (sym (take-length (plan_clocks plan)))
    ∙ u.written h.segment_number h.bits h.target
