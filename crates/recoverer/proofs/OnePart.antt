-- One part of a text: the lines that have ended, then the rest, which is kept at the front.
-- Assumes nothing.
use mathlib.Core.Path.{◌≡◌, refl, sym, ap, ◌∙◌}
use Prim.Native.Nat.{ℕ, ◌+◌, ◌-◌}
use native.Mathlib.Omega.{arith}
use native.Mathlib.Nat.{zero-add}
use lib.ListN.{length, take, drop, length-drop}
use lib.Seq.{length-take-le, take_all}
use Rattle.std.specs.List.{copy_within}
use Rattle.std.specs.Prelude.{Ok, Err}
use Rattle.std.proofs.lemmas.List.Edits.{length-paste, take-paste}
use Rattle.model.specs.Answers.{number_of}
use Rattle.model.specs.Result.{Result, ok, refused}
use Rattle.model.specs.Text.{Bytes, parts, line_end}
use Rattle.model.specs.declared.refusal.Refusal.{Refusal}
use Rattle.model.proofs.Lists.{not_ok}
use Rattle.recover_model.specs.RecoverCalls.{Progress, behind, unless_long, recover_part}
use Rattle.recover_model.proofs.OnePart.{part_short}
use Rattle.recover_line.specs.Progress.{progress_from}
use Rattle.recover_line.specs.declared.Progress.{Progress as Numbers}
use Rattle.recoverer.specs.declared.lines.Lines.{Lines}
use Rattle.recoverer.specs.declared.part.Refused.{Refused}
use Rattle.recoverer.specs.Parts.{DidLines, answer_before, FollowedPart, DidPart}

-- ---- followed

-- a refusal of the lines, by its number and place
abbrev pub by_number : Refusal → Refused
by_number r = record { number = number_of r.kind; place = r.place }

pub part_refused : (text plan : Bytes) (r : Refused) → FollowedPart (refused r.number r.place) text plan (Err r) plan
unfolding recover_part
part_refused text plan r = record { answers = refl; left = tt; rest = tt; within = tt }

module _ (p : Progress) (text plan plan' : Bytes) where
  pub part_stopped : (r : Refusal) → DidLines p text plan (Err r) plan' → FollowedPart (ok p) text plan (Err (by_number r)) plan'
  unfolding recover_part
  part_stopped r d = record { answers = rw (← d.answers); left = tt; rest = tt; within = tt }

  module _ (l : Lines) (d : DidLines p text plan (Ok l) plan') where
    rest_is : take (length text - l.at) (drop l.at text) ≡ behind (parts line_end text)
    rest_is = take_all (length text - l.at) (drop l.at text) (omega (arith, length-drop l.at text)) ∙ d.rest

    -- what is behind the lines decides
    decides : (x : Result Progress) → x ≡ unless_long (take (length text - l.at) (drop l.at text)) (progress_from l.progress)
        → x ≡ (recover_part (answer_before (ok p) plan) text).answer.result
    unfolding recover_part
    decides x e = rw (← d.answers) (e ∙ ap (λ (y : Bytes). unless_long y (progress_from l.progress)) rest_is)

    pub part_long : (r : Refusal) → refused (number_of r.kind) r.place ≡ unless_long (take (length text - l.at) (drop l.at text)) (progress_from l.progress)
        → FollowedPart (ok p) text plan (Err (by_number r)) plan'
    part_long r e = record { answers = decides _ e; left = tt; rest = tt; within = tt }

    pub part_followed : (q : Numbers) → ok (progress_from q) ≡ unless_long (take (length text - l.at) (drop l.at text)) (progress_from l.progress)
        → FollowedPart (ok p) text plan (Ok record { progress = q; at = l.at }) plan'
    unfolding recover_part
    part_followed q e = record { answers = decides _ e; left = d.left; rest = rw (← decides _ e) d.rest; within = d.within }

-- ---- kept

module _ (r₀ : Result Progress) (text plan plan' : Bytes) (long : length plan' ≡ length plan) where
  pub nothing_held : (r : Refused) → FollowedPart r₀ text plan (Err r) plan' → DidPart r₀ text plan (refused r.number r.place) 0 text plan'
  unfolding recover_part
  nothing_held r f = record {
    answers = f.answers;
    left = λ q e. absurd (not_ok e);
    rest = rw (← f.answers);
    fits = omega arith;
    short = omega arith;
    same_length = refl;
    as_long = long;
  }

  pub rest_held : (l : Lines) → FollowedPart r₀ text plan (Ok l) plan' → (text' : Bytes) → text' ≡ copy_within text l.at (length text) 0
      → DidPart r₀ text plan (ok (progress_from l.progress)) (length text' - l.at) text' plan'
  rest_held l f text' w =
      let n : ℕ = length text - l.at in
      let longer : length text' ≡ length text = ap length w ∙ length-paste text 0 (drop l.at text) n (omega arith) (omega (arith, length-drop l.at text)) in
      let held : length text' - l.at ≡ n = omega arith in
      let kept : take n text' ≡ drop l.at text =
      ap (λ (k : ℕ). take k text') (sym (zero-add n)) ∙ ap (take (0 + n)) w ∙ take-paste text 0 (drop l.at text) n (omega arith) (omega (arith, length-drop l.at text)) ∙ take_all n (drop l.at text) (omega (arith, length-drop l.at text)) in
      rw held record {
        answers = f.answers;
        left = λ q e. f.left;
        rest = kept ∙ f.rest;
        fits = omega arith;
        short = omega (arith, part_short (answer_before r₀ plan) text, ap length (kept ∙ f.rest), length-take-le n text' (omega arith));
        same_length = longer;
        as_long = long;
      }
