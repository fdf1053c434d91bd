-- One part of a text: its lines and the rest that is held lead, with what is still to come, to the answer that the text leads to.
-- Assumes nothing.
use mathlib.Core.Path.{◌≡◌, refl, sym, ap, ◌∙◌}
use mathlib.Core.Bool.{Bool, true, false, cond}
use mathlib.Core.List.{List, [], ◌∷◌, ◌++◌}
use Prim.Native.Nat.{ℕ, suc, ◌+◌, ◌≤◌, ◌<◌}
use native.Mathlib.Omega.{arith}
use lib.ListN.{length, length-append}
use lib.Dec.{leb}
use borrow.Author.Tests.{leb-true, leb-false}
use Rattle.model.specs.Refusals as refusal
use Rattle.model.specs.Result.{Result, ok, refused, and_then}
use Rattle.model.specs.Text.{Bytes, parts, ended, line_end}
use Rattle.model.proofs.Lists.{true_false, not_ok, ok_is}
use Rattle.model.proofs.PlanTexts.{parts_more, Free}
use Rattle.model.proofs.AddedLines.{ended_append}
use Rattle.recover_model.specs.RecoverCalls.{Progress, max_count, can_go_on, step_line, LineAnswer, recover_line, recover_end, go_on, recover_lines, behind, Recovery, unless_long, held_after, recover_part, recovery_end}
use Rattle.recover_model.specs.ClockText.{max_line_bytes}
use Rattle.recover_model.proofs.ClockLines.{too_long}
use Rattle.recover_model.proofs.StepDone.{step_done, LineCase, refuses, steps, line_case, line_refused}
use Rattle.recover_model.proofs.TextParts.{behind_free, behind_short, parts_append, parts_begun, behind_append}

-- ---- lines in turn

pub lines_append : (ls more : List Bytes) (p : Progress) (plan : List ℕ)
    → recover_lines p plan (ls ++ more) ≡ go_on (recover_lines p plan ls) (λ q new. recover_lines q new more)
unfolding recover_lines
lines_append [] more p plan = refl
lines_append (l ∷ ls) more p plan = go (recover_line p l plan).result refl (λ q new. lines_append ls more q new)
  where
    go : (r : Result Progress) → (recover_line p l plan).result ≡ r → ((q : Progress) (new : List ℕ) → recover_lines q new (ls ++ more) ≡ go_on (recover_lines q new ls) (λ q new. recover_lines q new more))
        → go_on (recover_line p l plan) (λ q new. recover_lines q new (ls ++ more)) ≡ go_on (go_on (recover_line p l plan) (λ q new. recover_lines q new ls)) (λ q new. recover_lines q new more)
    go (ok q) e later = rw e (later q (recover_line p l plan).plan)
    go (refused a b) e later = rw e

-- what can go on, with this many lines at most still to come
pub record Ready (p : Progress) (more : ℕ) : Type 0 where
  pub goes_on : can_go_on p ≡ true
  pub few : p.lines + more < max_count

pub lines_ready : (ls : List Bytes) (more : ℕ) (p q : Progress) (plan : List ℕ) → Ready p (length ls + more) → (recover_lines p plan ls).result ≡ ok q → Ready q more
unfolding recover_lines
lines_ready [] more p q plan h e = let z : p ≡ q = ok_is e in let n : 0 + more ≡ more = omega arith in rw (← z) (record { goes_on = h.goes_on; few = omega (arith, h.few) })
lines_ready (l ∷ ls) more p q plan h e = go (line_case p l plan) e (λ r new x y. lines_ready ls more r q new x y)
  where
    go : LineCase p l plan → (go_on (recover_line p l plan) (λ r new. recover_lines r new ls)).result ≡ ok q
        → ((r : Progress) (new : List ℕ) → Ready r (length ls + more) → (recover_lines r new ls).result ≡ ok q → Ready q more) → Ready q more
    go (refuses a b f) x later = absurd (not_ok (rw f at x))
    go (steps s is fits f) x later =
        let d = step_done p l s is in
        let n : s.after.lines + (length ls + more) < max_count = omega (arith, d.one_line, h.few) in
        later s.after _ record { goes_on = d.goes_on (omega arith); few = n } (rw f at x)

-- ---- the answer to a text that goes on from here: its lines, then its end

abbrev pub end_of : LineAnswer → List Bytes → Result Bytes
end_of a ls = recovery_end record { answer = go_on a (λ p plan. recover_lines p plan (ended ls)); rest = behind ls }

-- what is too long is refused at its line, whether its end comes or not
pub long_line : (p : Progress) (l : Bytes) → can_go_on p ≡ true → max_line_bytes ≤ length l → step_line p l ≡ refused refusal.clock_line (suc p.lines)
unfolding step_line
long_line p l goes long = rw (goes, too_long l long)

pub long_rest : (p : Progress) (l : Bytes) → can_go_on p ≡ true → max_line_bytes ≤ length l → recover_end p l ≡ refused refusal.clock_line (suc p.lines)
unfolding recover_end
long_rest p [] goes long = absurd (omega arith)
long_rest p (b ∷ l) goes long = rw goes

module _ (a : LineAnswer) where
  end_refused : (number place : ℕ) (ls : List Bytes) → a.result ≡ refused number place → end_of a ls ≡ refused number place
  unfolding recovery_end
  end_refused number place ls e = rw e

  end_long : (p : Progress) (ps : List Bytes) (l : Bytes) → a.result ≡ ok p → can_go_on p ≡ true → max_line_bytes ≤ length l → end_of a (l ∷ ps) ≡ refused refusal.clock_line (suc p.lines)
  unfolding recovery_end recover_lines
  end_long p [] l e goes long = rw (e, long_rest p l goes long)
  end_long p (m ∷ ps) l e goes long = rw (e, line_refused p l a.plan refusal.clock_line (suc p.lines) (long_line p l goes long))

  -- lines before others
  end_append : (ls : List Bytes) (m : Bytes) (more : List Bytes) → end_of a (ls ++ m ∷ more) ≡ end_of (go_on a (λ p plan. recover_lines p plan ls)) (m ∷ more)
  unfolding recovery_end
  end_append ls m more = rw (ended_append ls m more, behind_append ls m more) (go a.result refl)
    where
      lines : List Bytes → LineAnswer
      lines x = go_on a (λ p plan. recover_lines p plan x)

      go : (r : Result Progress) → a.result ≡ r
          → recovery_end record { answer = lines (ls ++ ended (m ∷ more)); rest = behind (m ∷ more) }
          ≡ recovery_end record { answer = go_on (lines ls) (λ p plan. recover_lines p plan (ended (m ∷ more))); rest = behind (m ∷ more) }
      go (ok p) e = rw (e, lines_append ls (ended (m ∷ more)) p a.plan)
      go (refused number place) e = rw e

-- ---- one part

-- what is held, with this much of the text still to come
pub record Holding (r : Recovery) (more : ℕ) : Type 0 where
  pub no_end : Free line_end r.rest
  pub ready : (p : Progress) → r.answer.result ≡ ok p → Ready p (length r.rest + more)

-- after part u, with v still to come
pub record PartDone (a : LineAnswer) (u v : Bytes) (r : Recovery) : Type 0 where
  pub holding : Holding r (length v)
  pub same_end : end_of r.answer (parts line_end (r.rest ++ v)) ≡ end_of a (parts line_end (u ++ v))

abbrev refused_with : ℕ → ℕ → List ℕ → Recovery
refused_with number place plan = record { answer = record { result = refused number place; plan = plan }; rest = [] }

done_refused : (a : LineAnswer) (u v : Bytes) (number place : ℕ) (plan : List ℕ) → end_of a (parts line_end (u ++ v)) ≡ refused number place → PartDone a u v (refused_with number place plan)
done_refused a u v number place plan e = record {
  holding = record { no_end = tt; ready = λ p x. absurd (not_ok x) };
  same_end = end_refused _ number place (parts line_end v) refl ∙ sym e;
}

-- a rest is held, or too long
data Rest (rest : Bytes) (q : Progress) : Result Progress → Type 0 where
  long : max_line_bytes ≤ length rest → {place : ℕ} → (can_go_on q ≡ true → place ≡ suc q.lines) → Rest rest q (refused refusal.clock_line place)
  short : length rest < max_line_bytes → Rest rest q (ok q)

rest_case : (rest : Bytes) (q : Progress) → Rest rest q (unless_long rest q)
unfolding step_line
rest_case rest q = by_length (leb max_line_bytes (length rest)) refl
  where
    by_progress : max_line_bytes ≤ length rest → (t : Bool) → can_go_on q ≡ t → Rest rest q (and_then (step_line q rest) (λ s. ok s.after))
    by_progress l true e = rw (long_line q rest e l) (long l (λ g. refl))
    by_progress l false e = rw e (long l (λ g. absurd (true_false (sym g ∙ e))))

    by_length : (t : Bool) → leb max_line_bytes (length rest) ≡ t → Rest rest q (cond t (and_then (step_line q rest) (λ s. ok s.after)) (ok q))
    by_length true e = let l = leb-true max_line_bytes (length rest) e in by_progress l (can_go_on q) refl
    by_length false e = short (leb-false max_line_bytes (length rest) e)

module _ (a : LineAnswer) (u : Bytes) where
  abbrev held : Bytes
  held = behind (parts line_end u)

  abbrev after : LineAnswer
  after = go_on a (λ p plan. recover_lines p plan (ended (parts line_end u)))

  abbrev leaving : Result Progress → Recovery
  leaving r = record { answer = record { result = r; plan = after.plan }; rest = held_after r held }

  leaves : (r : Result Progress) → after.result ≡ r → recover_part a u ≡ leaving (and_then r (unless_long held))
  unfolding recover_part
  leaves r e = rw e

  -- what it leaves is no longer than a line that can still be good
  pub part_short : length (recover_part a u).rest < max_line_bytes
  part_short = go after.result refl
    where
      by_rest : (q : Progress) (r : Result Progress) → Rest held q r → length (leaving r).rest < max_line_bytes
      by_rest q r (long h is) = omega arith
      by_rest q r (short h) = h

      go : (r : Result Progress) → after.result ≡ r → length (recover_part a u).rest < max_line_bytes
      go (refused number place) e = rw (leaves (refused number place) e) (omega arith)
      go (ok q) e = rw (leaves (ok q) e) (by_rest q (unless_long held q) (rest_case held q))

  end_same : (q : Progress) (ls : List Bytes) → after.result ≡ ok q → end_of (leaving (ok q)).answer ls ≡ end_of after ls
  end_same q ls e = rw e

  module _ (v : Bytes) where
    -- the text from here on, by the lines of its first part
    end_after : end_of a (parts line_end (u ++ v)) ≡ end_of after (parts line_end (held ++ v))
    end_after =
        let m = parts_more line_end (held ++ v) in
        ap (end_of a) (parts_append line_end u v ∙ ap (λ (x : List Bytes). ended (parts line_end u) ++ x) m.2) ∙ end_append a (ended (parts line_end u)) m.0 m.1 ∙ ap (end_of after) (sym m.2)

    module _ (h : (p : Progress) → a.result ≡ ok p → Ready p (length u + length v)) where
      ready_after : (q : Progress) → after.result ≡ ok q → Ready q (length held + length v)
      ready_after q e = go a.result refl e
        where
          go : (r : Result Progress) → a.result ≡ r → after.result ≡ ok q → Ready q (length held + length v)
          go (refused number place) f x = absurd (not_ok (rw f at x))
          go (ok p) f x =
              let k = h p f in
              lines_ready (ended (parts line_end u)) (length held + length v) p q a.plan record { goes_on = k.goes_on; few = omega (arith, k.few, behind_short line_end u) } (rw f at x)

      by_rest : (q : Progress) → after.result ≡ ok q → (r : Result Progress) → Rest held q r → PartDone a u v (leaving r)
      by_rest q e r (long l is) =
          let m = parts_more line_end v in
          let goes = (ready_after q e).goes_on in
          rw (is goes) (done_refused a u v refusal.clock_line (suc q.lines) after.plan
          (end_after ∙ ap (end_of after) (parts_begun line_end held v m.0 m.1 (behind_free line_end u) m.2)
          ∙ end_long after q m.1 (held ++ m.0) e goes (omega (arith, length-append held m.0))))
      by_rest q e r (short l) = record {
        holding = record { no_end = behind_free line_end u; ready = λ x y. rw (← (ok_is y)) (ready_after q e) };
        same_end = end_same q (parts line_end (held ++ v)) e ∙ sym end_after;
      }

      pub part_done : PartDone a u v (recover_part a u)
      part_done = go after.result refl
        where
          go : (r : Result Progress) → after.result ≡ r → PartDone a u v (recover_part a u)
          go (refused number place) e =
              rw (leaves (refused number place) e) (done_refused a u v number place after.plan (end_after ∙ end_refused after number place (parts line_end (held ++ v)) e))
          go (ok q) e = rw (leaves (ok q) e) (by_rest q e (unless_long held q) (rest_case held q))
