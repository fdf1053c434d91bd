-- The plan's text as it grows with each clock, for a caller that keeps a buffer in place of the passages: what stands of it, and how many
-- of the bytes counted.
-- Assumes nothing.
use mathlib.Core.Path.{◌≡◌, refl, sym, ap, ◌∙◌, subst}
use mathlib.Core.Bool.{Bool, true, false, cond}
use Rattle.std.specs.Prelude.{Some as some}
use mathlib.Core.List.{List, [], ◌∷◌, ◌++◌, map-append, append_assoc, append-nil}
use Prim.Native.Nat.{ℕ, ◌+◌, ◌*◌}
use native.Mathlib.Omega.{arith}
use lib.ListN.{length, length-append, length-map}
use Rattle.model.specs.Plan.{Plan}
use Rattle.model.specs.PlanText.{write_plan}
use Rattle.model.specs.Tap.{Tap, idle, next, state_number, Action, capture, shift, update, keep, action, Clock, bit_byte}
use Rattle.model.specs.Text.{Bytes, bytes, line_end}
use Rattle.model.proofs.LineForms.{bound}
use Rattle.model.proofs.Lists.{true_false, some_same}
use Rattle.model.proofs.PlanTexts.{csu_bytes, plan_behind}
use Rattle.recover_model.specs.Recover.{Follower, at_start, taken, moved, follow_clock, follow_clocks}
use Rattle.recover_model.specs.RecoverCalls.{under_way, at_entry, at_clock, added_text}
use Rattle.recover_model.proofs.Following.{moved_state, moved_bits, moved_plan, moved_more, followed, WithinLimits}
use Rattle.recover_model.proofs.TapStates.{inside, inside_before, inside_after, inside_before_law, inside_next, counts_entry, counts_bit, unended_in, counts_of_state}

-- what stands of a passage that is not in the plan yet
abbrev pub of_passage : Bool → Action → List Bool → Bytes
of_passage true a bits = csu_bytes bits
of_passage false a bits = at_entry a

abbrev pub so_far : Follower → Bytes
so_far f = write_plan f.plan ++ of_passage (inside f.state) (action f.state) f.bits

-- ---- no bits outside a passage

abbrev pub Blank : Follower → Type 0
Blank f = inside f.state ≡ false → f.bits ≡ []

taken_blank : (a : Action) (d i : Bool) (f : Follower) → (i ≡ false → f.bits ≡ []) → inside_after a i ≡ false → (taken a d f).bits ≡ []
taken_blank capture d i f h e = absurd (true_false e)
taken_blank shift d i f h e = absurd (true_false e)
taken_blank update d i f h e = refl
taken_blank keep d i f h e = h e

moved_blank : (f : Follower) (c : Clock) → Blank f → Blank (moved f c)
moved_blank f c h e =
    moved_bits f c
    ∙ taken_blank (action f.state) c.tdi (inside f.state) f h (sym (inside_next f.state c.tms) ∙ ap inside (sym (moved_state f c)) ∙ e)

pub blank_clocks : (cs : List Clock) (f g : Follower) → Blank f → follow_clocks f cs ≡ some g → Blank g
unfolding follow_clocks
blank_clocks [] f g h e = subst Blank (some_same f g e) h
blank_clocks (c ∷ cs) f g h e =
    let b = bound (follow_clock f c) _ g e in
    blank_clocks cs b.value g (subst Blank (followed f c b.value b.given).is (moved_blank f c h)) b.then

pub blank_start : Blank at_start
blank_start e = refl

-- ---- one clock

written_more : (plan : Plan) (bs : List Bool) → write_plan (plan ++ bs ∷ []) ≡ write_plan plan ++ (csu_bytes bs ++ line_end ∷ [])
unfolding write_plan
written_more plan bs = plan_behind plan (bs ∷ [])

no_entry : (i : Bool) (b : Action) → i ≡ inside_before b i → i ≡ true → at_entry b ≡ []
no_entry i capture e q = absurd (true_false (sym q ∙ e))
no_entry i shift e q = refl
no_entry i update e q = refl
no_entry i keep e q = refl

bit_more : (bits : List Bool) (d : Bool) → csu_bytes (bits ++ d ∷ []) ≡ csu_bytes bits ++ bit_byte d ∷ []
bit_more bits d = ap (λ (x : Bytes). bytes "csu\t" ++ x) (map-append bit_byte bits (d ∷ []))

grows : (f : Follower) (a b : Action) (i d : Bool) → i ≡ inside_before a i → inside_after a i ≡ inside_before b (inside_after a i) → (i ≡ false → f.bits ≡ [])
    → write_plan (taken a d f).plan ++ of_passage (inside_after a i) b (taken a d f).bits ≡ ((write_plan f.plan ++ of_passage i a f.bits) ++ at_clock a d) ++ at_entry b
grows f capture b true d e g h = absurd (true_false e)
grows f capture b false d e g h = rw (no_entry true b g refl, h refl) (sym (append-nil _ ∙ append-nil _))
grows f shift b false d e g h = absurd (true_false (sym e))
grows f shift b true d e g h = rw (no_entry true b g refl, bit_more f.bits d) (sym (append-nil _ ∙ append_assoc (write_plan f.plan) (csu_bytes f.bits) (bit_byte d ∷ [])))
grows f update b false d e g h = absurd (true_false (sym e))
grows f update b true d e g h =
    ap (λ (x : Bytes). x ++ at_entry b) (written_more f.plan f.bits ∙ sym (append_assoc (write_plan f.plan) (csu_bytes f.bits) (line_end ∷ [])))
grows f keep b true d e g h = rw (no_entry true b g refl) (sym (append-nil _ ∙ append-nil _))
grows f keep b false d e g h = ap (λ (x : Bytes). x ++ at_entry b) (sym (append-nil (write_plan f.plan ++ []) ∙ append-nil (write_plan f.plan)))

pub so_far_moved : (f : Follower) (c : Clock) → Blank f
    → so_far (moved f c) ≡ (so_far f ++ at_clock (action f.state) c.tdi) ++ at_entry (action (next f.state c.tms))
so_far_moved f c h =
    let t = next f.state c.tms in
    let g = taken (action f.state) c.tdi f in
    let n = inside_next f.state c.tms in
    ap (λ (x : Tap). write_plan (moved f c).plan ++ of_passage (inside x) (action x) (moved f c).bits) (moved_state f c)
    ∙ ap (λ (x : Plan). write_plan x ++ of_passage (inside t) (action t) (moved f c).bits) (moved_plan f c)
    ∙ ap (λ (x : List Bool). write_plan g.plan ++ of_passage (inside t) (action t) x) (moved_bits f c)
    ∙ ap (λ (x : Bool). write_plan g.plan ++ of_passage x (action t) g.bits) n
    ∙ grows f (action f.state) (action t) (inside f.state) c.tdi (inside_before_law f.state)
    (sym n ∙ inside_before_law t ∙ ap (inside_before (action t)) n) h

-- ---- clocks in turn

pub so_far_clocks : (cs : List Clock) (f g : Follower) → Blank f → follow_clocks f cs ≡ some g → so_far g ≡ so_far f ++ added_text f.state cs
unfolding follow_clocks added_text
so_far_clocks [] f g h e = ap so_far (sym (some_same f g e)) ∙ sym (append-nil (so_far f))
so_far_clocks (c ∷ cs) f g h e =
    let b = bound (follow_clock f c) _ g e in
    let y = followed f c b.value b.given in
    let t = next f.state c.tms in
    let s : b.value.state ≡ t = ap (λ (x : Follower). x.state) (sym y.is) ∙ moved_state f c in
    let a = at_clock (action f.state) c.tdi in
    so_far_clocks cs b.value g (subst Blank y.is (moved_blank f c h)) b.then
    ∙ ap (λ (x : Tap). so_far b.value ++ added_text x cs) s
    ∙ ap (λ (x : Bytes). x ++ added_text t cs) (ap so_far (sym y.is) ∙ so_far_moved f c h)
    ∙ append_assoc (so_far f ++ a) (at_entry (action t)) (added_text t cs)
    ∙ append_assoc (so_far f) a (at_entry (action t) ++ added_text t cs)

-- ---- its end

pub so_far_end : (f : Follower) → f.state ≡ idle → so_far f ≡ write_plan f.plan
so_far_end f e = ap (λ (x : Tap). write_plan f.plan ++ of_passage (inside x) (action x) f.bits) e ∙ append-nil (write_plan f.plan)

-- ---- the bytes counted are those that stand, and one more for the byte 10 of a passage that has not ended

length_of_passage : (i : Bool) (a : Action) (bits : List Bool) → i ≡ inside_before a i → (i ≡ false → bits ≡ [])
    → length (of_passage i a bits) + (cond i 1 0 + counts_entry a) ≡ 5 * (cond i 1 0 + counts_entry a) + length bits
length_of_passage true capture bits e h = absurd (true_false e)
length_of_passage true shift bits e h = omega (arith, length-map bits bit_byte)
length_of_passage true update bits e h = omega (arith, length-map bits bit_byte)
length_of_passage true keep bits e h = omega (arith, length-map bits bit_byte)
length_of_passage false capture bits e h = rw (h refl)
length_of_passage false shift bits e h = rw (h refl)
length_of_passage false update bits e h = rw (h refl)
length_of_passage false keep bits e h = rw (h refl)

pub so_far_counted : (f : Follower) → WithinLimits f → Blank f → length (so_far f) + cond (under_way (state_number f.state)) 1 0 ≡ f.plan_bytes
so_far_counted f k h =
    omega (
      arith,
      k.counts.bytes_are,
      (counts_of_state f.state).under_way_law,
      length-append (write_plan f.plan) (of_passage (inside f.state) (action f.state) f.bits),
      length_of_passage (inside f.state) (action f.state) f.bits (inside_before_law f.state) h,
    )

-- of any follower: what its clocks add is what they count, but for the byte 10 of the passages under way before and after them
length_at_clock : (a : Action) (i d : Bool) → i ≡ inside_before a i → length (at_clock a d) + cond (inside_after a i) 1 0 ≡ counts_bit a + (cond i 1 0 + counts_entry a)
length_at_clock capture true d e = absurd (true_false e)
length_at_clock capture false d e = refl
length_at_clock shift false d e = absurd (true_false (sym e))
length_at_clock shift true d e = refl
length_at_clock update false d e = absurd (true_false (sym e))
length_at_clock update true d e = refl
length_at_clock keep i d e = omega arith

length_at_entry : (a : Action) → length (at_entry a) ≡ 4 * counts_entry a
length_at_entry capture = refl
length_at_entry shift = refl
length_at_entry update = refl
length_at_entry keep = refl

counted_from : (cs : List Clock) (f g : Follower) → follow_clocks f cs ≡ some g → f.plan_bytes + length (added_text f.state cs) + unended_in g.state ≡ g.plan_bytes + unended_in f.state
unfolding follow_clocks added_text
counted_from [] f g e = let z = some_same f g e in subst (λ (x : Follower). f.plan_bytes + 0 + unended_in x.state ≡ x.plan_bytes + unended_in f.state) z (omega arith)
counted_from (c ∷ cs) f g e =
    let b = bound (follow_clock f c) _ g e in
    let y = followed f c b.value b.given in
    let t = next f.state c.tms in
    let s : b.value.state ≡ t = ap (λ (x : Follower). x.state) (sym y.is) ∙ moved_state f c in
    let p : (moved f c).plan_bytes ≡ b.value.plan_bytes = ap (λ (x : Follower). x.plan_bytes) y.is in
    let r : b.value.plan_bytes + length (added_text t cs) + unended_in g.state ≡ g.plan_bytes + unended_in t =
    subst (λ (x : Tap). b.value.plan_bytes + length (added_text x cs) + unended_in g.state ≡ g.plan_bytes + unended_in x) s (counted_from cs b.value g b.then) in
    let i : ◌≡◌ {A = ℕ} (cond (inside t) 1 0) (cond (inside_after (action f.state) (inside f.state)) 1 0) = rw (inside_next f.state c.tms) in
    omega (
      arith,
      (moved_more f c).plan_bytes_law,
      length-append (at_clock (action f.state) c.tdi) (at_entry (action t) ++ added_text t cs),
      length-append (at_entry (action t)) (added_text t cs),
      length_at_entry (action t),
      length_at_clock (action f.state) (inside f.state) c.tdi (inside_before_law f.state),
    )

pub clocks_counted : (cs : List Clock) (f g : Follower) → follow_clocks f cs ≡ some g
    → f.plan_bytes + length (added_text f.state cs) + cond (under_way (state_number g.state)) 1 0 ≡ g.plan_bytes + cond (under_way (state_number f.state)) 1 0
clocks_counted cs f g e = omega (arith, counted_from cs f g e, (counts_of_state f.state).under_way_law, (counts_of_state g.state).under_way_law)
