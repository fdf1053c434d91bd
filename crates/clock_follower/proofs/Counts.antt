-- The counts by TMS are those of the follower, and those of a stretch come to the same as those of its clocks.
-- Assumes nothing.
use mathlib.Core.Path.{◌≡◌, refl, sym, ap, ◌∙◌, subst}
use mathlib.Core.Bool.{Bool, true, false, cond, ◌||◌}
use Rattle.std.specs.Prelude.{Option, None as none, Some as some}
use mathlib.Core.List.{List, [], ◌∷◌, map}
use Prim.Native.Nat.{ℕ, zero, suc, ◌+◌, ◌-◌, ◌*◌, ◌≤◌, ◌<◌}
use native.Mathlib.Omega.{arith}
use lib.ListN.{length, drop, get_or, drop_of_length-le}
use lib.Seq.{drop-drop}
use lib.Dec.{eqb, ltb}
use borrow.Author.Tests.{ltb-false, le-ltb, ne_eqb}
use Rattle.model.specs.Limits.{max_operations, max_plan_bytes}
use Rattle.model.specs.Text.{Bytes, bind}
use Rattle.model.specs.Tap.{Tap, captureDR, shiftDR, next, state_number, Clock}
use Rattle.model.proofs.Lists.{true_false, or_parts}
use Rattle.recover_model.specs.Recover.{Follower, moved, offends, follow_clock, follow_clocks}
use Rattle.recover_model.specs.RecoverCalls.{Progress, progress_of}
use Rattle.recover_model.proofs.ClockLines.{tms_of}
use Rattle.recover_model.proofs.Following.{moved_state, moved_more}
use Rattle.recover_model.proofs.TapStates.{counts_of_state}
use Rattle.clock_writer.specs.Machine.{is_one, next_number}
use Rattle.clock_writer.proofs.Table.{numbered}
use Rattle.clock_follower.specs.Counts.{moved_on, offending, unless_offending, counts_by}

-- ---- the follower's counts

moved_by : (n t : ℕ) (f g : Follower) → state_number g.state ≡ t → g.entries ≡ f.entries + cond (eqb t (state_number captureDR)) 1 0
    → g.plan_bytes ≡ f.plan_bytes + (5 * cond (eqb t (state_number captureDR)) 1 0 + cond (eqb (state_number f.state) (state_number shiftDR)) 1 0)
    → progress_of n g ≡ moved_on (progress_of n f) 1 t
moved_by n t f g a b c = rw (a, b, c)

moved_counts : (n : ℕ) (f : Follower) (c : Clock) → progress_of n (moved f c) ≡ moved_on (progress_of n f) 1 (next_number (state_number f.state) c.tms)
moved_counts n f c =
    let t = next f.state c.tms in
    let m = moved_more f c in
    let by = moved_by n (state_number t) f (moved f c) (ap state_number (moved_state f c)) (rw (← (counts_of_state t).entry) m.entries)
    (rw (← (counts_of_state t).entry, ← (counts_of_state f.state).bit) m.plan_bytes_law) in
    by ∙ ap (λ (x : Tap). moved_on (progress_of n f) 1 (state_number (next x c.tms))) (sym (numbered f.state).1)

pub counts_followed : (n : ℕ) (cs : List Clock) (f : Follower) → bind (follow_clocks f cs) (λ g. some (progress_of n g)) ≡ counts_by (progress_of n f) (map tms_of cs)
unfolding follow_clocks follow_clock counts_by
counts_followed n [] f = refl
counts_followed n (c ∷ cs) f = go (offends (moved f c)) (counts_followed n cs (moved f c)) ∙ ap (λ (q : Progress). cond (offending q) none (counts_by q (map tms_of cs))) (moved_counts n f c)
  where
    go : (t : Bool) → bind (follow_clocks (moved f c) cs) (λ g. some (progress_of n g)) ≡ counts_by (progress_of n (moved f c)) (map tms_of cs)
        → bind (bind (cond t none (some (moved f c))) (λ g. follow_clocks g cs)) (λ g. some (progress_of n g)) ≡ cond t none (counts_by (progress_of n (moved f c)) (map tms_of cs))
    go true e = refl
    go false e = e

-- ---- what stays in a state

-- TMS leads on from Capture-DR, Update-DR and Select-IR
pub record Staying (state : ℕ) : Type 0 where
  pub no_capture : eqb state 3 ≡ false
  pub no_update : eqb state 8 ≡ false
  pub no_ir : eqb state 9 ≡ false

leaves : (state other : ℕ) (m : Bool) → ((m : Bool) → next_number other m ≡ other → ⊥) → next_number state m ≡ state → eqb state other ≡ false
leaves state other m never stays = ne_eqb state other (λ e. never m (subst (λ (x : ℕ). next_number x m ≡ x) e stays))

pub staying : (state : ℕ) (m : Bool) → next_number state m ≡ state → Staying state
staying state m stays = record { no_capture = leaves state 3 m from_3 stays; no_update = leaves state 8 m from_8 stays; no_ir = leaves state 9 m from_9 stays }
  where
    from_3 : (m : Bool) → next_number 3 m ≡ 3 → ⊥
    from_3 true e = omega arith
    from_3 false e = omega arith

    from_8 : (m : Bool) → next_number 8 m ≡ 8 → ⊥
    from_8 true e = omega arith
    from_8 false e = omega arith

    from_9 : (m : Bool) → next_number 9 m ≡ 9 → ⊥
    from_9 true e = omega arith
    from_9 false e = omega arith

-- ---- what keeps within the limits

pub record KeepsLimits (p : Progress) : Type 0 where
  pub few : p.entries ≤ max_operations
  pub short : p.plan_bytes ≤ max_plan_bytes

pub within_limits : (p : Progress) → offending p ≡ false → KeepsLimits p
within_limits p o =
    let x = or_parts (eqb p.state 9 || ltb max_operations p.entries) (ltb max_plan_bytes p.plan_bytes) o in
    let y = or_parts (eqb p.state 9) (ltb max_operations p.entries) x.0 in
    record { few = ltb-false max_operations p.entries y.1; short = ltb-false max_plan_bytes p.plan_bytes x.1 }

-- ---- a stretch

-- of the first count of these TMS bytes all but the last leave the state, and the last leads to state t
pub record IsStretch (state : ℕ) (tms : Bytes) (count t : ℕ) : Type 0 where
  pub some_clock : 1 ≤ count
  pub within : count ≤ length tms
  pub stays : (k : ℕ) → suc k < count → next_number state (is_one (get_or tms k 0)) ≡ state
  pub leads : (k : ℕ) → suc k ≡ count → next_number state (is_one (get_or tms k 0)) ≡ t

-- the rest of a stretch whose first clock stays
pub stretch_rest : (state b count t : ℕ) (tms : Bytes) → IsStretch state (b ∷ tms) (suc (suc count)) t → IsStretch state tms (suc count) t
stretch_rest state b count t tms s = record {
  some_clock = omega arith;
  within = omega (arith, s.within);
  stays = λ k l. s.stays (suc k) (omega arith);
  leads = λ k e. s.leads (suc k) (ap suc e);
}

-- more clocks count no less
offends_later : (q r : Progress) → eqb q.state 9 ≡ false → q.entries ≤ r.entries → q.plan_bytes ≤ r.plan_bytes → offending q ≡ true → offending r ≡ true
offends_later q r s e b o = go (offending r) refl
  where
    go : (t : Bool) → offending r ≡ t → t ≡ true
    go true z = refl
    go false z =
        let x = or_parts (eqb r.state 9 || ltb max_operations r.entries) (ltb max_plan_bytes r.plan_bytes) z in
        let y = or_parts (eqb r.state 9) (ltb max_operations r.entries) x.0 in
        let few : ltb max_operations q.entries ≡ false = le-ltb max_operations q.entries (omega (arith, ltb-false max_operations r.entries y.1)) in
        let short : ltb max_plan_bytes q.plan_bytes ≡ false = le-ltb max_plan_bytes q.plan_bytes (omega (arith, ltb-false max_plan_bytes r.plan_bytes x.1)) in
        let none-offends : offending q ≡ false = rw (s, few, short) in
        absurd (true_false (sym o ∙ none-offends))

-- a clock that stays, and the rest of its stretch
abbrev counting : ℕ → ℕ → ℕ → ℕ → Progress
counting n t e b = record { lines = n; state = t; entries = e; plan_bytes = b }

same_counts : (n t : ℕ) {e e' b b' : ℕ} → e ≡ e' → b ≡ b' → counting n t e b ≡ counting n t e' b'
same_counts n t e b = rw (e, b)

no_entry : (t : Bool) → t ≡ false → cond {A = ℕ} t 1 0 ≡ 0
no_entry t e = rw e

bits_more : (shifts : Bool) (count : ℕ) → cond {A = ℕ} shifts 1 0 + cond shifts (suc count) 0 ≡ cond shifts (suc (suc count)) 0
bits_more true count = omega arith
bits_more false count = refl

stretch_more : (p : Progress) (count t : ℕ) → eqb p.state 3 ≡ false → moved_on (moved_on p 1 p.state) (suc count) t ≡ moved_on p (suc (suc count)) t
stretch_more p count t off =
    let z = no_entry (eqb p.state 3) off in
    same_counts p.lines t (omega (arith, z)) (omega (arith, z, bits_more (eqb p.state 4) count))

pub stretch_counts : (count : ℕ) (p : Progress) (tms : Bytes) (t : ℕ) → IsStretch p.state tms (suc count) t
    → counts_by p (map is_one tms) ≡ cond (offending (moved_on p (suc count) t)) none (counts_by (moved_on p (suc count) t) (map is_one (drop (suc count) tms)))
unfolding counts_by
stretch_counts count p [] t s = absurd (omega (arith, s.within))
stretch_counts zero p (b ∷ tms) t s = rw (s.leads 0 refl)
stretch_counts (suc count) p (b ∷ tms) t s =
    let stays : next_number p.state (is_one b) ≡ p.state = s.stays 0 (omega arith) in
    let in-state = staying p.state (is_one b) stays in
    let q = moved_on p 1 p.state in
    let r = moved_on p (suc (suc count)) t in
    let rest = stretch_counts count q tms t (stretch_rest p.state b count t tms s) in
    let z = no_entry (eqb p.state 3) in-state.no_capture in
    let later = offends_later q r in-state.no_ir (omega (arith, z)) (omega (arith, z, bits_more (eqb p.state 4) count)) in
    rw stays (ap (cond (offending q) none) (rest ∙ ap (λ (x : Progress). cond (offending x) none (counts_by x (map is_one (drop (suc count) tms)))) (stretch_more p count t in-state.no_capture)) ∙ by (offending q) (offending r) later _)
  where
    by : (x y : Bool) → (x ≡ true → y ≡ true) → (o : Option Progress) → cond x none (cond y none o) ≡ cond y none o
    by false y h o = refl
    by true y h o = rw (h refl)

stopped : (m : Progress) → none ≡ unless_offending m → offending m ≡ true
stopped m e = go (offending m) e
  where
    go : (x : Bool) → none ≡ cond x none (some m) → x ≡ true
    go true e = refl
    go false e = cc

pub went_on : (r m : Progress) → some r ≡ unless_offending m → (r ≡ m) × (offending r ≡ false)
went_on r m e = let x = go (offending m) e in (x.0, ap offending x.0 ∙ x.1)
  where
    go : (x : Bool) → some r ≡ cond x none (some m) → (r ≡ m) × (x ≡ false)
    go true e = (cc, cc)
    go false e = (cc, refl)

-- what has passed i clocks, to state t: the counts from there on come to those of all clocks
pub record GoesOn (p : Progress) (tms : Bytes) (i t : ℕ) (r : Progress) : Type 0 where
  pub state : r.state ≡ t
  pub limits : KeepsLimits r
  pub whole : counts_by r (map is_one (drop i tms)) ≡ counts_by p (map is_one tms)

module _ (p q : Progress) (tms : Bytes) (i end t : ℕ) (whole : counts_by q (map is_one (drop i tms)) ≡ counts_by p (map is_one tms)) (x : IsStretch q.state (drop i tms) (end - i) t) where
  over : counts_by p (map is_one tms) ≡ cond (offending (moved_on q (end - i) t)) none (counts_by (moved_on q (end - i) t) (map is_one (drop end tms)))
  over =
      let behind : i + (end - i) ≡ end = omega (arith, x.some_clock) in
      go (end - i) x ∙ ap (λ (n : ℕ). cond (offending (moved_on q (end - i) t)) none (counts_by (moved_on q (end - i) t) (map is_one (drop n tms)))) behind
    where
      go : (n : ℕ) → IsStretch q.state (drop i tms) n t
          → counts_by p (map is_one tms) ≡ cond (offending (moved_on q n t)) none (counts_by (moved_on q n t) (map is_one (drop (i + n) tms)))
      go zero y = absurd (omega (arith, y.some_clock))
      go (suc n) y = sym whole ∙ rw (← drop-drop (suc n) i tms) (stretch_counts n q (drop i tms) t y)

  pub counts_stop : none ≡ unless_offending (moved_on q (end - i) t) → none ≡ counts_by p (map is_one tms)
  counts_stop e = sym (over ∙ rw (stopped (moved_on q (end - i) t) e))

  pub counts_on : (r : Progress) → some r ≡ unless_offending (moved_on q (end - i) t) → GoesOn p tms end t r
  counts_on r e =
      let w = went_on r (moved_on q (end - i) t) e in
      let from : counts_by p (map is_one tms) ≡ cond (offending r) none (counts_by r (map is_one (drop end tms))) =
      over ∙ ap (λ (x : Progress). cond (offending x) none (counts_by x (map is_one (drop end tms)))) (sym w.0) in
      record { state = ap (λ (x : Progress). x.state) w.0; limits = within_limits r w.1; whole = sym (from ∙ rw w.1) }

pub counts_end : (p q : Progress) (tms : Bytes) (i : ℕ) → counts_by q (map is_one (drop i tms)) ≡ counts_by p (map is_one tms) → length tms ≤ i → some q ≡ counts_by p (map is_one tms)
unfolding counts_by
counts_end p q tms i whole l = rw (drop_of_length-le tms l) at whole
