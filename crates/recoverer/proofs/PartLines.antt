-- The lines that end in a text, in turn: what is left to do from a place on comes to the same as the whole.
-- Assumes nothing.
use mathlib.Core.Path.{◌≡◌, refl, sym, ap, ◌∙◌, subst}
use mathlib.Core.List.{List, [], ◌∷◌}
use Prim.Native.Nat.{ℕ, ◌+◌, ◌-◌, ◌≤◌, ◌<◌}
use native.Mathlib.Omega.{arith}
use lib.ListN.{length, take, drop, drop_of_length-le}
use Rattle.std.specs.Prelude.{Result as Answer, Ok, Err, None as none}
use Rattle.model.specs.Answers.{number_of}
use Rattle.model.specs.Result.{Result, ok, refused}
use Rattle.model.specs.Text.{Bytes, parts, ended, line_end}
use Rattle.model.specs.declared.refusal.Kind.TheVariants.{ClockLine}
use Rattle.model.specs.declared.refusal.Refusal.{Refusal}
use Rattle.model.proofs.PlanTexts.{parts_more}
use Rattle.recover_model.specs.RecoverCalls.{Progress, LineAnswer, recover_line, go_on, recover_lines, behind}
use Rattle.recover_model.proofs.RecoverBuffers.{line_buffer_kept, line_buffer_written}
use Rattle.text.specs.Places.{IsEnd}
use Rattle.text.proofs.Parts.{rest_alone, rest_ended}
use Rattle.clock_follower.specs.declared.Progress.{Progress as Kept}
use Rattle.clock_follower.specs.Counts.{progress_for}
use Rattle.recover_line.specs.Progress.{progress_from, if_state}
use Rattle.recover_line.specs.declared.Progress.{Progress as Numbers}
use Rattle.recover_line.proofs.NoState.{line_cannot}
use Rattle.recoverer.specs.declared.lines.Lines.{Lines}
use Rattle.recoverer.specs.Parts.{PlayedLine, DidLines}

-- the line that ends at `end`
abbrev pub line_at : Bytes → ℕ → ℕ → Bytes
line_at t at end = take (end - at) (drop at t)

-- a call leaves a buffer of the same length
pub line_as_long : (p : Progress) (l : Bytes) (plan : List ℕ) → length (recover_line p l plan).plan ≡ length plan
line_as_long p l plan = go (recover_line p l plan).result refl
  where
    go : (r : Result Progress) → (recover_line p l plan).result ≡ r → length (recover_line p l plan).plan ≡ length plan
    go (ok q) e = (line_buffer_written p q l plan e).as_long
    go (refused number place) e = ap length (line_buffer_kept p l plan number place e)

stops : (a : LineAnswer) (go : Progress → List ℕ → LineAnswer) (number place : ℕ) → a.result ≡ refused number place → a ≡ go_on a go
stops a go number place e = rw e

pub record Doing (text : Bytes) (p₀ : Progress) (plan₀ : List ℕ) (p : Progress) (plan : List ℕ) (at : ℕ) : Type 0 where
  pub same : recover_lines p plan (ended (parts line_end (drop at text))) ≡ recover_lines p₀ plan₀ (ended (parts line_end text))
  pub rest : behind (parts line_end (drop at text)) ≡ behind (parts line_end text)
  pub within : at ≤ length text
  pub as_long : length plan ≡ length plan₀

pub doing_start : (text : Bytes) (p : Progress) (plan : List ℕ) → Doing text p plan p plan 0
doing_start text p plan = record { same = refl; rest = refl; within = omega arith; as_long = refl }

module _ (text : Bytes) (p₀ : Progress) (plan₀ : List ℕ) (p : Progress) (plan : List ℕ) (at : ℕ) (d : Doing text p₀ plan₀ p plan at) where
  module _ (now : Numbers) (is : progress_from now ≡ p) where
    -- no line is ended any more
    last : parts line_end (drop at text) ≡ drop at text ∷ [] → DidLines p₀ text plan₀ (Ok record { progress = now; at = at }) plan
    unfolding recover_lines
    last e =
        let s : recover_lines p plan [] ≡ recover_lines p₀ plan₀ (ended (parts line_end text)) = rw e at d.same in
        record { answers = ap ok is ∙ ap (λ (x : LineAnswer). x.result) s; left = ap (λ (x : LineAnswer). x.plan) s; rest = rw e at d.rest; within = d.within }

    pub done_at_end : length text ≤ at → DidLines p₀ text plan₀ (Ok record { progress = now; at = at }) plan
    unfolding parts
    done_at_end l = let z : drop at text ≡ [] = drop_of_length-le text l in last (rw z)

    pub done_unended : (end : ℕ) → IsEnd line_end text at end → end ≡ length text → DidLines p₀ text plan₀ (Ok record { progress = now; at = at }) plan
    done_unended end e l = last (rest_alone line_end text at end e l)

  module _ (end : ℕ) (e : IsEnd line_end text at end) (more : end < length text) where
    abbrev line : Bytes
    line = line_at text at end

    lines_are : (m : Bytes) × (ls : List Bytes) × (parts line_end (drop (end + 1) text) ≡ m ∷ ls) × (parts line_end (drop at text) ≡ line ∷ m ∷ ls)
    lines_are =
        let q = parts_more line_end (drop (end + 1) text) in
        (q.0, q.1, q.2, rest_ended line_end text at end e more ∙ ap (λ (x : List Bytes). line ∷ x) q.2)

    abbrev later : Progress → List ℕ → LineAnswer
    later q new = recover_lines q new (ended (parts line_end (drop (end + 1) text)))

    whole : go_on (recover_line p line plan) later ≡ recover_lines p₀ plan₀ (ended (parts line_end text))
    unfolding recover_lines
    whole =
        let w = lines_are in
        ap (λ (x : List Bytes). go_on (recover_line p line plan) (λ q new. recover_lines q new (ended x))) w.2 ∙ (rw w.3 at d.same)

    module _ (plan' : List ℕ) where
      pub done_refused : (r : Refusal) → PlayedLine p line plan (Err r) plan' → DidLines p₀ text plan₀ (Err r) plan'
      done_refused r did =
          let s = stops (recover_line p line plan) later (number_of r.kind) r.place (sym did.answers) ∙ whole in
          record { answers = did.answers ∙ ap (λ (x : LineAnswer). x.result) s; left = tt; rest = tt; within = tt }

      pub doing_next : (q : Kept) → PlayedLine p line plan (Ok q) plan' → Doing text p₀ plan₀ (progress_for q) plan' (end + 1)
      doing_next q did =
          let w = lines_are in
          record {
            same = rw did.left (rw (sym did.answers) at whole);
            rest = rw w.2 (rw w.3 at d.rest);
            within = omega arith;
            as_long = ap length did.left ∙ line_as_long p line plan ∙ d.as_long;
          }

pub did_from : (q p : Progress) → q ≡ p → (text plan : Bytes) (r : Answer Lines Refusal) (plan' : Bytes) → DidLines q text plan r plan' → DidLines p text plan r plan'
did_from q p e text plan r plan' d = subst (λ (x : Progress). DidLines x text plan r plan') e d

-- ---- where the state is none

pub none_ended : (text : Bytes) (p : Numbers) (plan : List ℕ) (end : ℕ) → IsEnd line_end text 0 end → end ≡ length text
    → DidLines (progress_from p) text plan (Ok record { progress = p; at = 0 }) plan
none_ended text p plan end e l = done_unended text (progress_from p) plan (progress_from p) plan 0 (doing_start text (progress_from p) plan) p refl end e l

pub first_refused : (text : Bytes) (p : Progress) (plan : List ℕ) → none ≡ if_state p → (end : ℕ) → IsEnd line_end text 0 end → end < length text
    → (r : Refusal) → r ≡ record { kind = ClockLine; place = p.lines } → DidLines p text plan (Err r) plan
first_refused text p plan n end e more r is =
    let left = line_cannot p (line_at text 0 end) plan n in
    rw is (done_refused text p plan p plan 0 (doing_start text p plan) end e more plan record { kind = ClockLine; place = p.lines }
    record { answers = ap (λ (a : LineAnswer). a.result) (sym left); left = tt })
