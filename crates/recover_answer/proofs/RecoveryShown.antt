-- What the recover program prints, by the answer of the call for the end; and parts in turn are those of the model.
-- Assumes nothing.
use mathlib.Core.Path.{◌≡◌, refl, sym, ap, ◌∙◌, subst}
use mathlib.Core.Bool.{not}
use mathlib.Core.List.{List, [], ◌∷◌, ◌++◌}
use Prim.Native.Nat.{ℕ, suc, ◌≤◌}
use native.Mathlib.Omega.{arith}
use native.Mathlib.Nat.{zero-add}
use lib.ListN.{length, take, take-append-drop}
use lib.Seq.{length-take-le}
use lib.Dec.{eqb}
use borrow.Author.Tests.{not-false}
use Rattle.model.specs.Limits.{max_plan_bytes}
use Rattle.model.specs.NetworkText.{at_end}
use Rattle.model.specs.Printed.{number, line}
use Rattle.model.specs.Refusals as refusal
use Rattle.model.specs.Result.{Result, ok, refused}
use Rattle.model.specs.Tap.{idle, state_number}
use Rattle.model.specs.Text.{Bytes}
use Rattle.model.proofs.Lists.{not_ok, ok_is, handed, passed_test}
use Rattle.recover_model.specs.RecoverCalls.{Progress, can_go_on, rest_answer, recover_end, Recovery, started, recover_part, recover_parts, recovery_end}
use Rattle.recover_model.proofs.GoesOn.{tested}
use Rattle.plan_text.specs.Writing.{write_at}
use Rattle.recoverer.specs.Parts.{answer_before}
use Rattle.recover_answer.specs.Recovery.{holding, recovery_shown, end_count, Took, none_yet, one_more}

-- ---- at the end

module _ (r : Result Progress) (rest plan : Bytes) where
  pub shown_refused : (k place : ℕ) → refused k place ≡ end_count r rest → recovery_shown r rest plan ≡ line "fail" (number k ∷ number place ∷ [])
  unfolding recovery_end
  shown_refused k place e = rw (← e)

  pub shown_plan : (count : ℕ) → ok count ≡ end_count r rest → recovery_shown r rest plan ≡ take count plan
  unfolding recovery_end
  shown_plan count e = rw (← e)

  -- no more than fit into the buffer
  pub plan_fits : (count : ℕ) → ok count ≡ end_count r rest → count ≤ max_plan_bytes
  unfolding recover_end
  plan_fits count e =
      let d = handed r (λ p. recover_end p rest) count (sym e) in
      let p = d.value in
      let a = passed_test (not (can_go_on p)) _ _ _ count d.then in
      let b = handed (at_end p refusal.clock_line rest (suc p.lines)) rest_answer count a.1 in
      let c = passed_test (not (eqb b.value.state (state_number idle))) _ _ _ count b.then in
      let same : p ≡ b.value = at_end_is p rest b.given in
      let n : b.value.plan_bytes ≡ count = ok_is c.1 in
      omega (arith, (tested p (not-false (can_go_on p) a.0)).short, ap (λ (x : Progress). x.plan_bytes) same)
    where
      at_end_is : (p : Progress) (l : Bytes) {q : Progress} → at_end p refusal.clock_line l (suc p.lines) ≡ ok q → p ≡ q
      at_end_is p [] e = ok_is e
      at_end_is p (b ∷ l) e = absurd (not_ok e)

-- what stands at the front is written there
pub stands : (count : ℕ) (shown plan : Bytes) → shown ≡ take count plan → count ≤ length plan → (count ≡ length shown) × (plan ≡ write_at 0 shown plan)
unfolding write_at
stands count shown plan e h =
    let n : length (take count plan) ≡ count = length-take-le count plan h in
    rw (e, n, zero-add) (refl, sym (take-append-drop count plan))

-- ---- parts in turn

parts_more : (r : Recovery) (cut : List Bytes) (part : Bytes) → recover_parts r (cut ++ part ∷ []) ≡ recover_part (recover_parts r cut).answer ((recover_parts r cut).rest ++ part)
unfolding recover_parts
parts_more r [] part = refl
parts_more r (first ∷ cut) part = parts_more (recover_part r.answer (r.rest ++ first)) cut part

-- the same but for the plan buffer after a refusal
pub record Alike (m n : Recovery) : Type 0 where
  pub result : m.answer.result ≡ n.answer.result
  pub rest : m.rest ≡ n.rest
  pub plan : (q : Progress) → m.answer.result ≡ ok q → m.answer.plan ≡ n.answer.plan

alike_then : (a b c : Recovery) → Alike a b → Alike b c → Alike a c
alike_then a b c x y = record { result = x.result ∙ y.result; rest = x.rest ∙ y.rest; plan = λ q e. x.plan q e ∙ y.plan q (sym x.result ∙ e) }

module _ (m n : Recovery) (a : Alike m n) where
  -- n with the answer and the rest of m
  abbrev given : Recovery
  given = holding m.answer.result m.rest n.answer.plan

  same_given : given ≡ n
  same_given = ap (λ (r : Result Progress). holding r m.rest n.answer.plan) a.result ∙ ap (λ (l : Bytes). holding n.answer.result l n.answer.plan) a.rest

  alike_on : (part : Bytes) → Alike (recover_part m.answer (m.rest ++ part)) (recover_part n.answer (n.rest ++ part))
  unfolding recover_part
  alike_on part =
      subst (λ (x : Recovery). Alike (recover_part m.answer (m.rest ++ part)) (recover_part x.answer (x.rest ++ part))) same_given (go m.answer.result a.plan (m.rest ++ part))
    where
      go : (r : Result Progress) → ((q : Progress) → r ≡ ok q → m.answer.plan ≡ n.answer.plan)
          → (text : Bytes) → Alike (recover_part (answer_before r m.answer.plan) text) (recover_part (answer_before r n.answer.plan) text)
      go (ok p) e text = rw (e p refl) (record { result = refl; rest = refl; plan = λ q f. refl })
      go (refused k place) e text = record { result = refl; rest = refl; plan = λ q f. absurd (not_ok f) }

  pub alike_end : recovery_end m ≡ recovery_end n
  unfolding recovery_end
  alike_end = go m.answer.result a.plan ∙ ap recovery_end same_given
    where
      go : (r : Result Progress) → ((q : Progress) → r ≡ ok q → m.answer.plan ≡ n.answer.plan)
          → recovery_end (holding r m.rest m.answer.plan) ≡ recovery_end (holding r m.rest n.answer.plan)
      go (ok p) e = rw (e p refl)
      go (refused k place) e = refl

pub took_parts : (orig : Bytes) (cut : List Bytes) (r : Result Progress) (rest plan : Bytes) → Took orig cut r rest plan → Alike (holding r rest plan) (recover_parts (started orig) cut)
unfolding recover_parts
took_parts orig cut r rest plan none_yet = record { result = refl; rest = refl; plan = λ q e. refl }
took_parts orig cut r rest plan (one_more {cut = before} {r = q} {rest = held} {plan = old} t part d) =
    let one : Alike (holding r rest plan) (recover_part (answer_before q old) (held ++ part)) = record { result = d.answers; rest = d.rest; plan = d.left } in
    let on = alike_on (holding q held old) (recover_parts (started orig) before) (took_parts orig before q held old t) part in
    subst (Alike (holding r rest plan)) (sym (parts_more (started orig) before part)) (alike_then _ _ _ one on)
