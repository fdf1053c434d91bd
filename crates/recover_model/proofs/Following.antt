-- One clock followed: its state, bits, passages and counts. The counts are those of the plan that is kept, so every plan given back has good form.
-- Assumes nothing.
use mathlib.Core.Path.{◌≡◌, refl, sym, ap, ◌∙◌, subst}
use mathlib.Core.Bool.{Bool, true, false, cond, ◌||◌}
use Rattle.std.specs.Prelude.{None as none, Some as some}
use mathlib.Core.List.{List, [], ◌∷◌, ◌++◌}
use Prim.Native.Nat.{ℕ, ◌+◌, ◌*◌, ◌≤◌}
use native.Mathlib.Omega.{arith}
use lib.ListN.{length, length-append}
use lib.Dec.{ltb}
use borrow.Author.Tests.{ltb-false}
use Rattle.model.specs.Limits.{max_operations, max_plan_bytes}
use Rattle.model.specs.Plan.{Plan}
use Rattle.model.specs.PlanText.{write_plan}
use Rattle.model.specs.Tap.{Tap, selectIR, next, is_in, Action, capture, shift, update, keep, action, Clock}
use Rattle.model.proofs.LineForms.{bound}
use Rattle.model.proofs.Lists.{true_false, or_parts, none_some, some_same}
use Rattle.model.proofs.PlanTexts.{length_line, plan_behind}
use Rattle.recover_model.specs.Recover.{Follower, at_start, taken, reached, counted, moved, offends, follow_clock, follow_clocks}
use Rattle.recover_model.proofs.TapStates.{inside, inside_before, inside_after, inside_before_law, inside_next, counts_entry, counts_bit, unended_in}

-- ---- where a clock leads

record Arrives (t : Tap) (f g : Follower) : Type 0 where
  state : g.state ≡ t
  bits : g.bits ≡ f.bits
  plan : g.plan ≡ f.plan

arrives : (t : Tap) (a : Action) (f : Follower) → Arrives t f (counted a (reached t f))
arrives t capture f = record { state = refl; bits = refl; plan = refl }
arrives t shift f = record { state = refl; bits = refl; plan = refl }
arrives t update f = record { state = refl; bits = refl; plan = refl }
arrives t keep f = record { state = refl; bits = refl; plan = refl }

module _ (f : Follower) (c : Clock) where
  moved_arrives : Arrives (next f.state c.tms) (taken (action f.state) c.tdi f) (moved f c)
  moved_arrives = arrives (next f.state c.tms) (action (next f.state c.tms)) (taken (action f.state) c.tdi f)

  pub moved_state : (moved f c).state ≡ next f.state c.tms
  moved_state = moved_arrives.state

  pub moved_bits : (moved f c).bits ≡ (taken (action f.state) c.tdi f).bits
  moved_bits = moved_arrives.bits

  pub moved_plan : (moved f c).plan ≡ (taken (action f.state) c.tdi f).plan
  moved_plan = moved_arrives.plan

-- ---- what it counts: entries, and bits besides

pub record CountsMore (f g : Follower) (e b : ℕ) : Type 0 where
  pub entries : g.entries ≡ f.entries + e
  pub plan_bytes_law : g.plan_bytes ≡ f.plan_bytes + (5 * e + b)

taken_more : (a : Action) (d : Bool) (f : Follower) → CountsMore f (taken a d f) 0 (counts_bit a)
taken_more capture d f = record { entries = omega arith; plan_bytes_law = omega arith }
taken_more shift d f = record { entries = omega arith; plan_bytes_law = omega arith }
taken_more update d f = record { entries = omega arith; plan_bytes_law = omega arith }
taken_more keep d f = record { entries = omega arith; plan_bytes_law = omega arith }

counted_more : (a : Action) (t : Tap) (f : Follower) → CountsMore f (counted a (reached t f)) (counts_entry a) 0
counted_more capture t f = record { entries = omega arith; plan_bytes_law = omega arith }
counted_more shift t f = record { entries = omega arith; plan_bytes_law = omega arith }
counted_more update t f = record { entries = omega arith; plan_bytes_law = omega arith }
counted_more keep t f = record { entries = omega arith; plan_bytes_law = omega arith }

pub moved_more : (f : Follower) (c : Clock) → CountsMore f (moved f c) (counts_entry (action (next f.state c.tms))) (counts_bit (action f.state))
moved_more f c =
    let t = next f.state c.tms in
    let a = taken_more (action f.state) c.tdi f in
    let b = counted_more (action t) t (taken (action f.state) c.tdi f) in
    record { entries = omega (arith, a.entries, b.entries); plan_bytes_law = omega (arith, a.plan_bytes_law, b.plan_bytes_law) }

-- ---- a clock that does not offend

pub record Followed (f : Follower) (c : Clock) (g : Follower) : Type 0 where
  pub is : moved f c ≡ g
  pub no_ir : is_in selectIR g.state ≡ false
  pub few : g.entries ≤ max_operations
  pub short : g.plan_bytes ≤ max_plan_bytes

pub followed : (f : Follower) (c : Clock) (g : Follower) → follow_clock f c ≡ some g → Followed f c g
unfolding follow_clock
followed f c g e = go (offends (moved f c)) refl e
  where
    go : (t : Bool) → offends (moved f c) ≡ t → cond t none (some (moved f c)) ≡ some g → Followed f c g
    go true q x = absurd (none_some g x)
    go false q x =
        let z = some_same (moved f c) g x in
        let good : offends g ≡ false = ap offends (sym z) ∙ q in
        let p = or_parts (is_in selectIR g.state || ltb max_operations g.entries) (ltb max_plan_bytes g.plan_bytes) good in
        let r = or_parts (is_in selectIR g.state) (ltb max_operations g.entries) p.0 in
        record { is = z; no_ir = r.0; few = ltb-false max_operations g.entries r.1; short = ltb-false max_plan_bytes g.plan_bytes p.1 }

-- ---- the counts are those of the plan, and of o passages that are not in it yet

pub record PlanCounts (f : Follower) (o : ℕ) : Type 0 where
  pub entries_are : f.entries ≡ length f.plan + o
  pub bytes_are : f.plan_bytes ≡ length (write_plan f.plan) + (5 * o + length f.bits)

pub record WithinLimits (f : Follower) : Type 0 where
  pub counts : PlanCounts f (unended_in f.state)
  pub few : f.entries ≤ max_operations
  pub short : f.plan_bytes ≤ max_plan_bytes

one_more : (plan : Plan) (bs : List Bool) → length (write_plan (plan ++ bs ∷ [])) ≡ length (write_plan plan) + (5 + length bs)
unfolding write_plan
one_more plan bs =
    let e : length (write_plan []) ≡ 0 = refl in
    ap length (plan_behind plan (bs ∷ [])) ∙ omega (arith, length-append (write_plan plan) (write_plan (bs ∷ [])), length_line bs [])

taken_counts : (f : Follower) (a : Action) (i d : Bool) → i ≡ inside_before a i → PlanCounts f (cond i 1 0 + counts_entry a) → PlanCounts (taken a d f) (cond (inside_after a i) 1 0)
taken_counts f capture true d e c = absurd (true_false e)
taken_counts f capture false d e c = record { entries_are = omega (arith, c.entries_are); bytes_are = omega (arith, c.bytes_are) }
taken_counts f shift false d e c = absurd (true_false (sym e))
taken_counts f shift true d e c = record { entries_are = omega (arith, c.entries_are); bytes_are = omega (arith, c.bytes_are, length-append f.bits (d ∷ [])) }
taken_counts f update false d e c = absurd (true_false (sym e))
taken_counts f update true d e c = record {
  entries_are = omega (arith, c.entries_are, length-append f.plan (f.bits ∷ []));
  bytes_are = omega (arith, c.bytes_are, one_more f.plan f.bits);
}
taken_counts f keep i d e c = record { entries_are = omega (arith, c.entries_are); bytes_are = omega (arith, c.bytes_are) }

counted_counts : (f : Follower) (t : Tap) (a : Action) (o : ℕ) → PlanCounts f o → PlanCounts (counted a (reached t f)) (o + counts_entry a)
counted_counts f t capture o c = record { entries_are = omega (arith, c.entries_are); bytes_are = omega (arith, c.bytes_are) }
counted_counts f t shift o c = record { entries_are = omega (arith, c.entries_are); bytes_are = omega (arith, c.bytes_are) }
counted_counts f t update o c = record { entries_are = omega (arith, c.entries_are); bytes_are = omega (arith, c.bytes_are) }
counted_counts f t keep o c = record { entries_are = omega (arith, c.entries_are); bytes_are = omega (arith, c.bytes_are) }

moved_counts : (f : Follower) (c : Clock) → WithinLimits f → PlanCounts (moved f c) (unended_in (moved f c).state)
moved_counts f c k =
    let t = next f.state c.tms in
    let a = taken_counts f (action f.state) (inside f.state) c.tdi (inside_before_law f.state) k.counts in
    let b = counted_counts (taken (action f.state) c.tdi f) t (action t) _ a in
    rw (moved_state f c, inside_next f.state c.tms) b

within_clock : (f : Follower) (c : Clock) (g : Follower) → WithinLimits f → follow_clock f c ≡ some g → WithinLimits g
within_clock f c g k e =
    let y = followed f c g e in
    record { counts = subst (λ (x : Follower). PlanCounts x (unended_in x.state)) y.is (moved_counts f c k); few = y.few; short = y.short }

pub within_clocks : (f : Follower) (cs : List Clock) (g : Follower) → WithinLimits f → follow_clocks f cs ≡ some g → WithinLimits g
unfolding follow_clocks
within_clocks f [] g k e = subst WithinLimits (some_same f g e) k
within_clocks f (c ∷ cs) g k e = let b = bound (follow_clock f c) _ g e in within_clocks b.value cs g (within_clock f c b.value k b.given) b.then

pub within_at_start : WithinLimits at_start
unfolding write_plan
within_at_start = record { counts = record { entries_are = refl; bytes_are = refl }; few = omega arith; short = omega arith }

-- the plan has no more operations than entries, and its text no more bytes than were counted
pub plan_few : (f : Follower) → WithinLimits f → length f.plan ≤ max_operations
plan_few f k = omega (arith, k.counts.entries_are, k.few)

pub plan_short : (f : Follower) → WithinLimits f → length (write_plan f.plan) ≤ max_plan_bytes
plan_short f k = omega (arith, k.counts.bytes_are, k.short)
