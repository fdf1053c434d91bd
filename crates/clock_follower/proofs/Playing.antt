-- Clocks counted and written at once. What is counted of a stretch and what it adds to the plan's text go together, so that there is room
-- for what is not refused.
-- Assumes nothing.
use mathlib.Core.Path.{◌≡◌, refl, sym, ap, subst}
use mathlib.Core.Bool.{Bool, true, false, cond}
use Rattle.std.specs.Prelude.{None as none, Some as some}
use mathlib.Core.List.{[], map}
use Prim.Native.Nat.{ℕ, ◌+◌, ◌-◌, ◌*◌, ◌≤◌}
use native.Mathlib.Omega.{arith}
use lib.ListN.{length, drop, get_or, length-append, length-drop}
use lib.Seq.{length-take-le}
use lib.Dec.{eqb}
use Rattle.model.specs.Limits.{max_plan_bytes}
use Rattle.model.specs.Tap.{Tap, reset, idle, selectDR, captureDR, shiftDR, exit1DR, pauseDR, exit2DR, updateDR, selectIR, captureIR, shiftIR, exit1IR, pauseIR, exit2IR, updateIR, by_tms, next, state_at, state_number}
use Rattle.model.specs.Text.{Bytes}
use Rattle.model.proofs.Lists.{none_some}
use Rattle.recover_model.specs.RecoverCalls.{Progress, under_way}
use Rattle.plan_text.specs.Writing.{write_at}
use Rattle.clock_writer.specs.Machine.{is_one, next_number}
use Rattle.clock_writer.proofs.Table.{number_at}
use Rattle.clock_follower.specs.Counts.{moved_on, unless_offending, counts_by}
use Rattle.clock_follower.specs.Stretches.{EndsStretch, stretch_text, AreBits, StandsBefore, Played}
use Rattle.clock_follower.proofs.Counts.{IsStretch, KeepsLimits, went_on, counts_stop, counts_on, counts_end}
use Rattle.clock_follower.proofs.Stretches.{stretch_of, bits_from, WrittenTo, written_end, written_on}

-- from state s to state t, both by number
abbrev Keeps : Bytes → ℕ → ℕ → Type 0
Keeps bits s t = length (stretch_text s bits t) + cond (under_way t) 1 0 ≡ cond (under_way s) 1 0 + (5 * cond (eqb t 3) 1 0 + cond (eqb s 4) (length bits) 0)

either : (bits : Bytes) (s a b : Tap) → Keeps bits (state_number s) (state_number a) → Keeps bits (state_number s) (state_number b) → (m : Bool) → Keeps bits (state_number s) (state_number (by_tms a b m))
either bits s a b p q false = p
either bits s a b p q true = q

keeps : (bits : Bytes) (s : Tap) (m : Bool) → Keeps bits (state_number s) (state_number (next s m))
keeps bits reset = either bits reset _ _ refl refl
keeps bits idle = either bits idle _ _ refl refl
keeps bits selectDR = either bits selectDR _ _ refl refl
keeps bits captureDR = either bits captureDR _ _ refl refl
keeps bits shiftDR = let l = length-append bits [] in either bits shiftDR _ _ (omega (arith, l)) (omega (arith, l))
keeps bits exit1DR = either bits exit1DR _ _ refl refl
keeps bits pauseDR = either bits pauseDR _ _ refl refl
keeps bits exit2DR = either bits exit2DR _ _ refl refl
keeps bits updateDR = either bits updateDR _ _ refl refl
keeps bits selectIR = either bits selectIR _ _ refl refl
keeps bits captureIR = either bits captureIR _ _ refl refl
keeps bits shiftIR = either bits shiftIR _ _ refl refl
keeps bits exit1IR = either bits exit1IR _ _ refl refl
keeps bits pauseIR = either bits pauseIR _ _ refl refl
keeps bits exit2IR = either bits exit2IR _ _ refl refl
keeps bits updateIR = either bits updateIR _ _ refl refl

-- ---- the loop of `play`

-- up to clock i, with a progress and a place
pub record PlayedTo (p₀ : Progress) (at₀ : ℕ) (tms tdi plan₀ plan : Bytes) (p : Progress) (at i : ℕ) : Type 0 where
  pub limits : KeepsLimits p
  pub counted : counts_by p (map is_one (drop i tms)) ≡ counts_by p₀ (map is_one tms)
  pub written : WrittenTo p₀.state at₀ tms tdi plan₀ plan p.state at i
  pub stands : StandsBefore at p.state p.plan_bytes

module _ (p₀ : Progress) (at₀ : ℕ) (tms tdi plan₀ plan : Bytes) (p : Progress) (at i : ℕ) (so : PlayedTo p₀ at₀ tms tdi plan₀ plan p at i) where
  pub played_end : length tms ≤ i → Played p₀ at₀ tms tdi plan₀ (some p) plan
  played_end h = record { answers = counts_end p₀ p tms i so.counted h; left = λ q e. (written_end _ _ _ _ _ _ _ _ _ so.written h).left }

  module _ (same : length tdi ≡ length tms) (bits : AreBits tdi) (end t : ℕ) (e : EndsStretch p.state tms i end) (leads : t ≡ next_number p.state (is_one (get_or tms (end - 1) 0))) where
    stretch : IsStretch p.state (drop i tms) (end - i) t
    stretch = stretch_of p.state i end t tms e leads

    pub played_stop : none ≡ unless_offending (moved_on p (end - i) t) → Played p₀ at₀ tms tdi plan₀ none plan
    played_stop f = record { answers = counts_stop p₀ p tms i end t so.counted stretch f; left = λ q n. absurd (none_some q n) }

    module _ (q : Progress) (f : some q ≡ unless_offending (moved_on p (end - i) t)) where
      abbrev new : Bytes
      new = stretch_text p.state (bits_from i end tdi) t

      stands_on : StandsBefore (at + length new) q.state q.plan_bytes
      stands_on =
          let k : Keeps (bits_from i end tdi) p.state t =
          subst (λ (s : ℕ). Keeps (bits_from i end tdi) s t) (number_at p.state so.written.small) (subst (Keeps (bits_from i end tdi) (state_number (state_at p.state))) (sym leads) (keeps (bits_from i end tdi) (state_at p.state) _)) in
          let n : length (bits_from i end tdi) ≡ end - i = length-take-le (end - i) (drop i tdi) (omega (arith, length-drop i tdi, e.within)) in
          let moves = (went_on q (moved_on p (end - i) t) f).0 in
          omega (arith, k, so.stands, ap (λ (x : Progress). x.plan_bytes) moves, ap (λ (x : Progress). cond {A = ℕ} (under_way x.state) 1 0) moves, ap (λ (x : ℕ). cond (eqb p.state 4) x 0) n)

      -- there is room for it in a buffer that has room for every plan
      pub played_fits : max_plan_bytes ≤ length plan₀ → at + length new ≤ length plan
      played_fits room = omega (arith, stands_on, (counts_on p₀ p tms i end t so.counted stretch q f).limits.short, so.written.size)

      pub played_on : max_plan_bytes ≤ length plan₀ → (at' : ℕ) (plan' : Bytes) → (at' ≡ at + length new) × (plan' ≡ write_at at new plan) → PlayedTo p₀ at₀ tms tdi plan₀ plan' q at' end
      played_on room at' plan' w =
          let on = counts_on p₀ p tms i end t so.counted stretch q f in
          record {
            limits = on.limits;
            counted = on.whole;
            written = rw on.state (written_on _ _ _ _ _ _ _ _ _ so.written same bits end t e leads (played_fits room) at' plan' w);
            stands = rw w.0 stands_on;
          }
