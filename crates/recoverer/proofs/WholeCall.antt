-- The call for a whole text, by what the calls in turn leave in a buffer with room for every plan.
-- Assumes nothing.
use mathlib.Core.Path.{◌≡◌, refl, sym, ap, ◌∙◌}
use mathlib.Core.List.{List}
use Prim.Native.Nat.{ℕ, ◌-◌, ◌≤◌, ◌<◌}
use native.Mathlib.Omega.{arith}
use lib.ListN.{length, take, drop, length-drop}
use lib.Seq.{length-take-le, take_all}
use borrow.Author.Tests.{le-ltb, lt-ltb}
use Rattle.std.specs.Prelude.{Result as Answer, Ok, Err, OnOk}
use Rattle.model.specs.Answers.{number_of}
use Rattle.model.specs.Calls.{written, count_of, if_room}
use Rattle.model.specs.Limits.{max_plan_bytes}
use Rattle.model.specs.Refusals as refusal
use Rattle.model.specs.Result.{Result, ok, refused, and_then}
use Rattle.model.specs.Text.{Bytes, parts, ended, line_end}
use Rattle.model.specs.declared.refusal.Refusal.{Refusal}
use Rattle.recover_model.specs.RecoverCalls.{Progress, at_first, max_count, recover_end, TextAnswer, recover_text, recover_lines, behind, recovery_end}
use Rattle.recover_model.proofs.InParts.{turns_end}
use Rattle.recover_model.proofs.LineByLine.{line_by_line}
use Rattle.recover_model.proofs.RecoverBuffers.{recover_buffer_written}
use Rattle.plan_text.specs.Writing.{write_at}
use Rattle.plan_text.proofs.Writing.{over_is}
use Rattle.recover_line.specs.Progress.{progress_from}
use Rattle.recoverer.specs.declared.lines.Lines.{Lines}
use Rattle.recoverer.specs.Parts.{led_to, DidLines}
use Rattle.recoverer.specs.Whole.{StandsIn}

-- ---- the calls in turn

-- buffers that are alike where nothing was refused
alike_taken : (r : Answer Lines Refusal) (f : Progress → Result ℕ) (own own' : Bytes) → OnOk r (own ≡ own')
    → and_then (and_then (led_to r) f) (λ count. ok (take count own)) ≡ and_then (and_then (led_to r) f) (λ count. ok (take count own'))
alike_taken (Ok l) f own own' e = rw e
alike_taken (Err x) f own own' e = refl

module _ (t own₀ : Bytes) (few : length t ≤ max_count) (room : max_plan_bytes ≤ length own₀) (first : Progress) (is : first ≡ at_first) (own : Bytes) (as_long : length own ≡ length own₀) where
  abbrev rest : Bytes
  rest = behind (parts line_end t)

  stands : (r : Answer Lines Refusal) → DidLines first t own₀ r own → StandsIn t (and_then (led_to r) (λ p. recover_end p rest)) own
  unfolding recovery_end
  stands r d = record {
    its_text = alike_taken r (λ p. recover_end p rest) own (recover_lines first own₀ (ended (parts line_end t))).plan d.left ∙ rw (d.answers, is) (turns_end t own₀ few room);
    within = λ count e.
        let q : and_then (recover_lines at_first own₀ (ended (parts line_end t))).result (λ p. recover_end p rest) ≡ ok count = rw (d.answers, is) at e in
        omega (arith, as_long, (recover_buffer_written t own₀ count (sym (line_by_line t own₀ few room).result ∙ q)).enough);
  }

  pub stands_refused : (r : Refusal) → DidLines first t own₀ (Err r) own → StandsIn t (refused (number_of r.kind) r.place) own
  stands_refused r d = stands (Err r) d

  pub stands_end : (l : Lines) → DidLines first t own₀ (Ok l) own → (a : Result ℕ) → a ≡ recover_end (progress_from l.progress) (take (length t - l.at) (drop l.at t)) → StandsIn t a own
  stands_end l d a q =
      let x : take (length t - l.at) (drop l.at t) ≡ rest = take_all (length t - l.at) (drop l.at t) (omega (arith, length-drop l.at t)) ∙ d.rest in
      rw (q, x) (stands (Ok l) d)

-- ---- the whole text

module _ (t orig own : Bytes) where
  abbrev answer_by : Result Bytes → TextAnswer
  answer_by x = record { result = count_of (and_then x (if_room (length orig))); plan = written (and_then x (if_room (length orig))) orig }

  -- what it answers and leaves
  abbrev Leaves : Result ℕ → List ℕ → Type 0
  Leaves a plan = (a ≡ (recover_text t orig).result) × (plan ≡ (recover_text t orig).plan)

  leaves : (r : Result ℕ) → StandsIn t r own → (a : Result ℕ) (plan : List ℕ) → answer_by (and_then r (λ count. ok (take count own))) ≡ record { result = a; plan = plan } → Leaves a plan
  unfolding recover_text
  leaves r s a plan e = let z = sym e ∙ ap answer_by s.its_text in (ap (λ (x : TextAnswer). x.result) z, ap (λ (x : TextAnswer). x.plan) z)

  pub whole_refused : (number place : ℕ) → StandsIn t (refused number place) own → Leaves (refused number place) orig
  whole_refused number place s = leaves _ s _ _ refl

  module _ (count : ℕ) (s : StandsIn t (ok count) own) where
    as_many : length (take count own) ≡ count
    as_many = length-take-le count own (s.within count refl)

    pub whole_short : length orig < count → Leaves (refused refusal.buffer count) orig
    whole_short h = leaves _ s _ _ (rw (as_many, lt-ltb (length orig) count h))

    pub whole_written : count ≤ length orig → (plan : List ℕ) → plan ≡ write_at 0 (take count own) orig → Leaves (ok count) plan
    whole_written h plan w = leaves _ s _ _ (rw (le-ltb (length orig) (length (take count own)) (omega (arith, as_many)), as_many, w, over_is (take count own) orig))
