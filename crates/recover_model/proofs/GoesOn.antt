-- What a line leaves can go on: its state is one of Run-Test/Idle to Update-DR, its counts are within the limits, a passage under way is counted.
-- Assumes nothing.
use mathlib.Core.Path.{◌≡◌, refl, sym, ap, ◌∙◌, subst}
use mathlib.Core.Bool.{Bool, true, false, cond, not, ◌&&◌}
use Rattle.std.specs.Prelude.{Some as some}
use mathlib.Core.List.{List, [], ◌∷◌}
use Prim.Native.Nat.{ℕ, zero, suc, ◌≤◌, ◌<◌}
use native.Mathlib.Omega.{arith}
use lib.ListN.{get_or-map}
use lib.Dec.{eqb, leb, ltb}
use borrow.Author.Tests.{ltb-true, leb-true, lt-ltb, le-leb, ne_eqb}
use Rattle.model.specs.Limits.{max_operations, max_plan_bytes}
use Rattle.model.specs.Tap.{Tap, states, reset, idle, selectDR, captureDR, shiftDR, exit1DR, pauseDR, exit2DR, updateDR, selectIR, captureIR, shiftIR, exit1IR, pauseIR, exit2IR, updateIR, by_tms, next, state_at, state_number, is_in, Clock}
use Rattle.model.proofs.LineForms.{bound}
use Rattle.model.proofs.Lists.{true_false, and_both, and_parts, some_same, get_d_tabulate}
use Rattle.recover_model.specs.Recover.{Follower, at_start, moved, follow_clock, follow_clocks}
use Rattle.recover_model.specs.RecoverCalls.{Progress, progress_of, max_count, under_way, can_go_on, resumed}
use Rattle.recover_model.proofs.Following.{moved_state, moved_more, followed}
use Rattle.recover_model.proofs.PlanSoFar.{clocks_counted}

-- ---- the states 1 to 8 lead on to themselves and to Select-IR

abbrev pub known : ℕ → Bool
known state = leb 1 state && leb state 8

either : (a b : Tap) → known (state_number a) ≡ true → known (state_number b) ≡ true → (m : Bool) → known (state_number (by_tms a b m)) ≡ true
either a b p q false = p
either a b p q true = q

next_known : (t : Tap) (m : Bool) → known (state_number t) ≡ true → is_in selectIR (next t m) ≡ false → known (state_number (next t m)) ≡ true
next_known idle m e q = either _ _ refl refl m
next_known selectDR false e q = refl
next_known selectDR true e q = absurd (true_false q)
next_known captureDR m e q = either _ _ refl refl m
next_known shiftDR m e q = either _ _ refl refl m
next_known exit1DR m e q = either _ _ refl refl m
next_known pauseDR m e q = either _ _ refl refl m
next_known exit2DR m e q = either _ _ refl refl m
next_known updateDR m e q = either _ _ refl refl m
next_known reset m e q = absurd (true_false (sym e))
next_known selectIR m e q = absurd (true_false (sym e))
next_known captureIR m e q = absurd (true_false (sym e))
next_known shiftIR m e q = absurd (true_false (sym e))
next_known exit1IR m e q = absurd (true_false (sym e))
next_known pauseIR m e q = absurd (true_false (sym e))
next_known exit2IR m e q = absurd (true_false (sym e))
next_known updateIR m e q = absurd (true_false (sym e))

-- the number of the state with this number
number_known : (k : ℕ) → known k ≡ true → state_number (state_at k) ≡ k
number_known k e =
    let h : k ≤ 8 = leb-true k 8 (and_parts (leb 1 k) (leb k 8) e).1 in
    sym (get_or-map state_number states k reset) ∙ get_d_tabulate (λ (i : ℕ). i) 0 16 k 0 (omega arith) ∙ omega arith

-- ---- a follower that can go on

pub record GoesOn (f : Follower) : Type 0 where
  pub is_known : known (state_number f.state) ≡ true
  pub few : f.entries ≤ max_operations
  pub short : f.plan_bytes ≤ max_plan_bytes
  pub counted : cond (under_way (state_number f.state)) 1 0 ≤ f.plan_bytes

pub start_goes_on : GoesOn at_start
start_goes_on = record { is_known = refl; few = omega arith; short = omega arith; counted = omega arith }

known_clocks : (cs : List Clock) (f g : Follower) → known (state_number f.state) ≡ true → follow_clocks f cs ≡ some g → known (state_number g.state) ≡ true
unfolding follow_clocks
known_clocks [] f g k e = subst (λ (x : Follower). known (state_number x.state) ≡ true) (some_same f g e) k
known_clocks (c ∷ cs) f g k e =
    let b = bound (follow_clock f c) _ g e in
    let y = followed f c b.value b.given in
    let s : b.value.state ≡ next f.state c.tms = ap (λ (x : Follower). x.state) (sym y.is) ∙ moved_state f c in
    known_clocks cs b.value g (rw s (next_known f.state c.tms k (ap (is_in selectIR) (sym s) ∙ y.no_ir))) b.then

few_clocks : (cs : List Clock) (f g : Follower) → f.entries ≤ max_operations → f.plan_bytes ≤ max_plan_bytes → follow_clocks f cs ≡ some g → (g.entries ≤ max_operations) × (g.plan_bytes ≤ max_plan_bytes)
unfolding follow_clocks
few_clocks [] f g n b e = subst (λ (x : Follower). (x.entries ≤ max_operations) × (x.plan_bytes ≤ max_plan_bytes)) (some_same f g e) (n, b)
few_clocks (c ∷ cs) f g n b e =
    let v = bound (follow_clock f c) _ g e in
    let y = followed f c v.value v.given in
    few_clocks cs v.value g y.few y.short v.then

at_most_1 : (t : Bool) → cond t 1 0 ≤ 1
at_most_1 true = omega arith
at_most_1 false = omega arith

pub goes_on_clocks : (cs : List Clock) (f g : Follower) → GoesOn f → follow_clocks f cs ≡ some g → GoesOn g
goes_on_clocks cs f g k e =
    let l = few_clocks cs f g k.few k.short e in
    record {
      is_known = known_clocks cs f g k.is_known e;
      few = l.0;
      short = l.1;
      counted = omega (arith, k.counted, clocks_counted cs f g e, at_most_1 (under_way (state_number f.state)), at_most_1 (under_way (state_number g.state)));
    }

-- the plan's bytes never become fewer
pub bytes_grow : (cs : List Clock) (f g : Follower) → follow_clocks f cs ≡ some g → f.plan_bytes ≤ g.plan_bytes
unfolding follow_clocks
bytes_grow [] f g e = let z : f.plan_bytes ≡ g.plan_bytes = ap (λ (x : Follower). x.plan_bytes) (some_same f g e) in omega arith
bytes_grow (c ∷ cs) f g e =
    let b = bound (follow_clock f c) _ g e in
    let z : (moved f c).plan_bytes ≡ b.value.plan_bytes = ap (λ (x : Follower). x.plan_bytes) (followed f c b.value b.given).is in
    omega (arith, (moved_more f c).plan_bytes_law, bytes_grow cs b.value g b.then)

-- ---- the test of a progress

counted_test : (u : Bool) (n : ℕ) → cond u 1 0 ≤ n → not (u && eqb n 0) ≡ true
counted_test false n h = refl
counted_test true n h = rw (ne_eqb n 0 (λ z. omega arith))

tested_count : (u : Bool) (n : ℕ) → not (u && eqb n 0) ≡ true → cond u 1 0 ≤ n
tested_count false n e = omega arith
tested_count true zero e = absurd (true_false (sym e))
tested_count true (suc n) e = omega arith

pub can_go_on_law : (n : ℕ) (f : Follower) → GoesOn f → n < max_count → can_go_on (progress_of n f) ≡ true
can_go_on_law n f k l =
    let s = state_number f.state in
    let e = and_parts (leb 1 s) (leb s 8) k.is_known in
    let b = and_both (ltb n max_count) (leb 1 s) (lt-ltb n max_count l) e.0 in
    let c = and_both _ (leb s 8) b e.1 in
    let d = and_both _ (leb f.entries max_operations) c (le-leb f.entries max_operations k.few) in
    let g = and_both _ (leb f.plan_bytes max_plan_bytes) d (le-leb f.plan_bytes max_plan_bytes k.short) in
    and_both _ _ g (counted_test (under_way s) f.plan_bytes k.counted)

-- what the test says, number by number
pub record Tested (p : Progress) : Type 0 where
  pub more_lines : p.lines < max_count
  pub low : 1 ≤ p.state
  pub high : p.state ≤ 8
  pub few : p.entries ≤ max_operations
  pub short : p.plan_bytes ≤ max_plan_bytes
  pub counted : cond (under_way p.state) 1 0 ≤ p.plan_bytes

pub tested : (p : Progress) → can_go_on p ≡ true → Tested p
tested p x =
    let s = p.state in
    let f = and_parts (ltb p.lines max_count && leb 1 s && leb s 8 && leb p.entries max_operations && leb p.plan_bytes max_plan_bytes) _ x in
    let e = and_parts (ltb p.lines max_count && leb 1 s && leb s 8 && leb p.entries max_operations) _ f.0 in
    let d = and_parts (ltb p.lines max_count && leb 1 s && leb s 8) _ e.0 in
    let c = and_parts (ltb p.lines max_count && leb 1 s) _ d.0 in
    let b = and_parts (ltb p.lines max_count) _ c.0 in
    record {
      more_lines = ltb-true p.lines max_count b.0;
      low = leb-true 1 s b.1;
      high = leb-true s 8 c.1;
      few = leb-true p.entries max_operations d.1;
      short = leb-true p.plan_bytes max_plan_bytes e.1;
      counted = tested_count (under_way s) p.plan_bytes f.1;
    }

pub record Resumes (p : Progress) : Type 0 where
  pub more_lines : p.lines < max_count
  pub same_state : state_number (state_at p.state) ≡ p.state
  pub goes_on : GoesOn (resumed p)

pub resumes : (p : Progress) → can_go_on p ≡ true → Resumes p
resumes p x =
    let t = tested p x in
    let k : known p.state ≡ true = and_both (leb 1 p.state) (leb p.state 8) (le-leb 1 p.state t.low) (le-leb p.state 8 t.high) in
    let same = number_known p.state k in
    record {
      more_lines = t.more_lines;
      same_state = same;
      goes_on = record { is_known = rw same k; few = t.few; short = t.short; counted = rw same t.counted };
    }
