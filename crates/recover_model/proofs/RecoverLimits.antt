-- The follower stops exactly where the clocks go over a limit.
-- Assumes nothing.
use mathlib.Core.Path.{◌≡◌, refl, sym, ap, ◌∙◌, subst}
use mathlib.Core.Bool.{Bool, true, false, cond}
use Rattle.std.specs.Prelude.{None as none, Some as some}
use mathlib.Core.List.{List, [], ◌∷◌}
use Prim.Native.Nat.{ℕ, ◌+◌, ◌*◌, ◌≤◌}
use native.Mathlib.Omega.{arith}
use borrow.Author.Tests.{le-ltb}
use Rattle.model.specs.Limits.{max_operations, max_plan_bytes}
use Rattle.model.specs.Tap.{captureDR, shiftDR, selectIR, next, is_in, Clock}
use Rattle.model.specs.Text.{bind}
use Rattle.model.proofs.LineForms.{bound}
use Rattle.recover_model.specs.Recover.{Follower, at_start, moved, offends, follow_clock, follow_clocks}
use Rattle.recover_model.specs.Recovered.{entries_to, clocks_in, Within}
use Rattle.recover_model.proofs.Following.{CountsMore, moved_state, moved_more, followed}
use Rattle.recover_model.proofs.TapStates.{counts_of_state}

-- ---- clocks from a follower on

record WithinFrom (f : Follower) (cs : List Clock) : Type 0 where
  no_ir : entries_to selectIR f.state cs ≡ 0
  few : f.entries + entries_to captureDR f.state cs ≤ max_operations
  short : f.plan_bytes + (5 * entries_to captureDR f.state cs + clocks_in shiftDR f.state cs) ≤ max_plan_bytes

-- what the first of them counts, by its states
first_counts : (f : Follower) (c : Clock) → CountsMore f (moved f c) (cond (is_in captureDR (next f.state c.tms)) 1 0) (cond (is_in shiftDR f.state) 1 0)
first_counts f c =
    let m = moved_more f c in
    let p = (counts_of_state (next f.state c.tms)).entry in
    let q = (counts_of_state f.state).bit in
    record { entries = omega (arith, m.entries); plan_bytes_law = omega (arith, m.plan_bytes_law) }

not_one : (b : Bool) → ◌≡◌ {A = ℕ} (cond b 1 0) 0 → b ≡ false
not_one false e = refl
not_one true e = absurd (omega arith)

within_cons : (f : Follower) (c : Clock) (cs : List Clock) → is_in selectIR (next f.state c.tms) ≡ false → WithinFrom (moved f c) cs → WithinFrom f (c ∷ cs)
unfolding entries_to clocks_in
within_cons f c cs s w =
    let m = first_counts f c in
    let t = next f.state c.tms in
    let a : entries_to selectIR t cs ≡ 0 = rw (moved_state f c) at w.no_ir in
    let b : (moved f c).entries + entries_to captureDR t cs ≤ max_operations = rw (moved_state f c) at w.few in
    let d : (moved f c).plan_bytes + (5 * entries_to captureDR t cs + clocks_in shiftDR t cs) ≤ max_plan_bytes = rw (moved_state f c) at w.short in
    let z : ◌≡◌ {A = ℕ} (cond (is_in selectIR t) 1 0) 0 = rw s in
    record { no_ir = omega arith; few = omega (arith, m.entries, b); short = omega (arith, m.plan_bytes_law, d) }

record FirstWithin (f : Follower) (c : Clock) (cs : List Clock) : Type 0 where
  good : offends (moved f c) ≡ false
  rest : WithinFrom (moved f c) cs

within_first : (f : Follower) (c : Clock) (cs : List Clock) → WithinFrom f (c ∷ cs) → FirstWithin f c cs
unfolding entries_to clocks_in
within_first f c cs w =
    let m = first_counts f c in
    let t = next f.state c.tms in
    let s : (moved f c).state ≡ t = moved_state f c in
    let a : cond (is_in selectIR t) 1 0 + entries_to selectIR t cs ≡ 0 = w.no_ir in
    let b : f.entries + (cond (is_in captureDR t) 1 0 + entries_to captureDR t cs) ≤ max_operations = w.few in
    let d : f.plan_bytes + (5 * (cond (is_in captureDR t) 1 0 + entries_to captureDR t cs) + (cond (is_in shiftDR f.state) 1 0 + clocks_in shiftDR t cs)) ≤ max_plan_bytes = w.short in
    let i : is_in selectIR (moved f c).state ≡ false = ap (is_in selectIR) s ∙ not_one (is_in selectIR t) (omega arith) in
    record {
      good = rw (i, le-ltb max_operations (moved f c).entries (omega (arith, m.entries)), le-ltb max_plan_bytes (moved f c).plan_bytes (omega (arith, m.plan_bytes_law)));
      rest = record { no_ir = rw s (omega arith); few = rw s (omega (arith, m.entries)); short = rw s (omega (arith, m.plan_bytes_law)) };
    }

followed_within : (cs : List Clock) (f g : Follower) → f.entries ≤ max_operations → f.plan_bytes ≤ max_plan_bytes → follow_clocks f cs ≡ some g → WithinFrom f cs
unfolding follow_clocks entries_to clocks_in
followed_within [] f g l m e = record { no_ir = refl; few = omega arith; short = omega arith }
followed_within (c ∷ cs) f g l m e =
    let b = bound (follow_clock f c) _ g e in
    let h = b.value in
    let y = followed f c h b.given in
    let r = followed_within cs h g y.few y.short b.then in
    within_cons f c cs (ap (is_in selectIR) (sym (moved_state f c) ∙ ap (λ (x : Follower). x.state) y.is) ∙ y.no_ir) (subst (λ (x : Follower). WithinFrom x cs) (sym y.is) r)

within_followed : (cs : List Clock) (f : Follower) → WithinFrom f cs → (g : Follower) × (follow_clocks f cs ≡ some g)
unfolding follow_clocks follow_clock
within_followed [] f w = (f, refl)
within_followed (c ∷ cs) f w =
    let x = within_first f c cs w in
    let r = within_followed cs (moved f c) x.rest in
    (r.0, ap (λ (t : Bool). bind (cond t none (some (moved f c))) (λ g. follow_clocks g cs)) x.good ∙ r.1)

-- ---- from the start

pub start_followed : (cs : List Clock) (g : Follower) → follow_clocks at_start cs ≡ some g → Within cs
start_followed cs g e =
    let w = followed_within cs at_start g (omega arith) (omega arith) e in
    record { no_select_ir = w.no_ir; entries = omega (arith, w.few); plan_bytes_law = omega (arith, w.short) }

pub start_within : (cs : List Clock) → Within cs → (g : Follower) × (follow_clocks at_start cs ≡ some g)
start_within cs w = within_followed cs at_start record { no_ir = w.no_select_ir; few = omega (arith, w.entries); short = omega (arith, w.plan_bytes_law) }
