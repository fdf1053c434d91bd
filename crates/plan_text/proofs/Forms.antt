-- The form of a plan text, line by line.
-- Assumes nothing.
use mathlib.Core.Path.{◌≡◌, refl, sym, ap, ◌∙◌}
use mathlib.Core.Bool.{Bool}
use Rattle.std.specs.Prelude.{Option, None as none, Some as some}
use mathlib.Core.List.{List, [], ◌∷◌, ◌++◌}
use Prim.Native.Nat.{ℕ, suc, ◌+◌, ◌≤◌, ◌<◌}
use native.Mathlib.Omega.{arith}
use native.Mathlib.Numerals.{add-one}
use lib.ListN.{length, drop, drop_of_length-le, length-drop}
use lib.Seq.{drop-drop}
use borrow.Author.Tests.{lt-ltb, le-ltb}
use Rattle.std.specs.Prelude.{Result as Answer, Ok, Err}
use Rattle.model.specs.declared.refusal.Refusal.{Refusal}
use Rattle.model.specs.Answers.{number_of, count_of}
use Rattle.model.specs.Result.{Result, ok, refused, and_then}
use Rattle.model.specs.Text.{Bytes, bind, line_end, parts}
use Rattle.model.specs.Plan.{Plan}
use Rattle.model.specs.PlanText.{csu_line, if_form, before, plan_lines, read_plan, write_plan}
use Rattle.model.specs.NetworkText.{at_end}
use Rattle.model.proofs.Lists.{none_some, some_same, not_ok, ok_is, refusal_number, refusal_place, handed}
use Rattle.model.proofs.LineForms.{bound}
use Rattle.model.proofs.PlanTexts.{joined, parts_more, parts_joined, parts_line, csu_bytes, csu_free, csu_written, csu_bytes_law, text_of}
use Rattle.plan_text.specs.Lines.{first_line, next_from}
use Rattle.plan_text.specs.Form.{plan_form}
use Rattle.plan_text.proofs.Lines.{first_written, first_text, first_room}

-- ---- the lines from number n on

by_line : (n : ℕ) (bs : List Bool) (ls : List Bytes) (p : Bytes) (ps : List Bytes) → ls ≡ p ∷ ps → n ≤ 16
    → plan_lines n (csu_bytes bs ∷ ls) ≡ and_then (plan_lines (suc n) ls) (before bs)
unfolding plan_lines
by_line n bs ls p ps e h = rw e (rw (csu_written bs, le-ltb 16 n h))

lines_good : (n : ℕ) (t : Bytes) (bs : List Bool) → n ≤ 16 → first_line t ≡ some bs
    → plan_lines n (parts line_end t) ≡ and_then (plan_lines (suc n) (parts line_end (drop (5 + length bs) t))) (before bs)
lines_good n t bs h e =
    let u = drop (5 + length bs) t in
    let m = parts_more line_end u in
    ap (λ (x : Bytes). plan_lines n (parts line_end x)) (first_text t bs e) ∙ ap (plan_lines n) (parts_line line_end (csu_bytes bs) u (csu_free bs)) ∙ by_line n bs (parts line_end u) m.0 m.1 m.2 h

-- a text that is refused whatever its first line is, if that is ended
lines_refused : (n : ℕ) (t : Bytes) → 0 < length t → ((l u : Bytes) → t ≡ l ++ line_end ∷ u → (go : List Bool → Result Plan) → if_form n (csu_line l) go ≡ refused 14 n)
    → plan_lines n (parts line_end t) ≡ refused 14 n
unfolding plan_lines joined
lines_refused n t some_byte bad = go (parts line_end t) (parts_joined line_end t) (parts_more line_end t).2
  where
    last : (l : Bytes) → 0 < length l → at_end {A = Plan} [] 14 l n ≡ refused 14 n
    last [] h = absurd (omega arith)
    last (b ∷ l) h = refl

    go : (ls : List Bytes) → joined line_end ls ≡ t → ls ≡ (parts_more line_end t).0 ∷ (parts_more line_end t).1 → plan_lines n ls ≡ refused 14 n
    go [] e m = let z : ◌≡◌ {A = ℕ} 0 1 = cc in absurd (omega arith)
    go (l ∷ []) e m = last l (omega (arith, ap length e))
    go (l ∷ k ∷ ls) e m = bad l (joined line_end (k ∷ ls)) (sym e) _

lines_bad : (n : ℕ) (t : Bytes) → 0 < length t → first_line t ≡ none → plan_lines n (parts line_end t) ≡ refused 14 n
lines_bad n t h e = lines_refused n t h (λ l u q go. by l (csu_line l) refl u q go)
  where
    by : (l : Bytes) (o : Option (List Bool)) → csu_line l ≡ o → (u : Bytes) → t ≡ l ++ line_end ∷ u → (go : List Bool → Result Plan) → if_form n o go ≡ refused 14 n
    by l none p u q go = refl
    by l (some bs) p u q go =
        absurd (none_some bs (sym e ∙ ap first_line (q ∙ ap (λ (x : Bytes). x ++ line_end ∷ u) (sym (csu_bytes_law l bs p))) ∙ first_written bs u))

lines_late : (n : ℕ) (t : Bytes) → 0 < length t → 16 < n → plan_lines n (parts line_end t) ≡ refused 14 n
lines_late n t h k = lines_refused n t h (λ l u q go. by (csu_line l) go)
  where
    by : (o : Option (List Bool)) (go : List Bool → Result Plan) → if_form n o go ≡ refused 14 n
    by none go = refl
    by (some bs) go = rw (lt-ltb 16 n k)

-- ---- the whole text

pub form_long : (t : Bytes) → 64080 < length t → refused 14 0 ≡ plan_form t
unfolding read_plan
form_long t h = rw (lt-ltb 64080 (length t) h)

-- a count of lines behind n others
abbrev pub counted : ℕ → Result Plan → Result ℕ
counted n r = and_then r (λ plan. ok (n + length plan))

counted_before : (n : ℕ) (bs : List Bool) (r : Result Plan) → counted n (and_then r (before bs)) ≡ counted (suc n) r
counted_before n bs (ok plan) = ap ok (omega arith)
counted_before n bs (refused number place) = refl

counted_none : (r : Result Plan) → counted 0 r ≡ and_then r (λ plan. ok (length plan))
counted_none (ok plan) = ap ok (omega arith)
counted_none (refused number place) = refl

-- n lines have good form, and the rest of the text stands at `at`: its form decides
abbrev pub Decides : Bytes → ℕ → ℕ → Type 0
Decides t n at = counted n (plan_lines (suc n) (parts line_end (drop at t))) ≡ plan_form t

pub form_start : (t : Bytes) → length t ≤ 64080 → Decides t 0 0
unfolding read_plan
form_start t h = rw (le-ltb 64080 (length t) h) (counted_none (plan_lines 1 (parts line_end t)))

module _ (t : Bytes) (n at : ℕ) (whole : Decides t n at) where
  pub form_end : length t ≤ at → ok n ≡ plan_form t
  unfolding plan_lines parts
  form_end h =
      let e : counted n (plan_lines (suc n) (parts line_end (drop at t))) ≡ ok (n + 0) = rw (drop_of_length-le t h) in
      ap ok (omega arith) ∙ sym e ∙ whole

  refuses : plan_lines (suc n) (parts line_end (drop at t)) ≡ refused 14 (suc n) → refused 14 (n + 1) ≡ plan_form t
  refuses e = rw add-one (sym (ap (counted n) e) ∙ whole)

  pub form_late : at < length t → n ≡ 16 → refused 14 (n + 1) ≡ plan_form t
  form_late h e = refuses (lines_late (suc n) (drop at t) (omega (arith, length-drop at t)) (omega arith))

  pub form_bad : at < length t → none ≡ next_from t at → refused 14 (n + 1) ≡ plan_form t
  form_bad h e = refuses (lines_bad (suc n) (drop at t) (omega (arith, length-drop at t)) (no_line (first_line (drop at t)) e))
    where
      no_line : (o : Option (List Bool)) → none ≡ bind o (λ bs. some (at + (5 + length bs))) → o ≡ none
      no_line none q = refl
      no_line (some bs) q = absurd (none_some _ q)

  pub record Onward (next : ℕ) : Type 0 where
    pub within : next ≤ length t
    pub further : at < next
    pub decides : Decides t (n + 1) next

  pub form_next : (next : ℕ) → n < 16 → some next ≡ next_from t at → Onward next
  form_next next h e =
      let b = bound (first_line (drop at t)) _ next (sym e) in
      let bs = b.value in
      let is : at + (5 + length bs) ≡ next = some_same _ next b.then in
      let room = first_room (drop at t) bs b.given in
      let rest : drop (5 + length bs) (drop at t) ≡ drop next t = drop-drop (5 + length bs) at t ∙ ap (λ (k : ℕ). drop k t) is in
      record {
        within = omega (arith, length-drop at t);
        further = omega arith;
        decides =
            rw add-one (sym (counted_before n bs (plan_lines (suc (suc n)) (parts line_end (drop next t))))
            ∙ ap (λ (u : Bytes). counted n (and_then (plan_lines (suc (suc n)) (parts line_end u)) (before bs))) (sym rest)
            ∙ sym (ap (counted n) (lines_good (suc n) (drop at t) bs (omega arith) b.given)) ∙ whole);
      }

-- ---- for callers: what an answer says of the text

pub record GoodText (t : Bytes) (lines : ℕ) : Type 0 where
  pub plan : Plan
  pub reads : read_plan t ≡ ok plan
  pub text : t ≡ write_plan plan
  pub count : length plan ≡ lines
  pub few : lines ≤ 16

pub form_good : (t : Bytes) (r : Answer ℕ Refusal) (lines : ℕ) → count_of r ≡ plan_form t → r ≡ Ok lines → GoodText t lines
form_good t r lines e g =
    let h = handed (read_plan t) (λ plan. ok (length plan)) lines (sym e ∙ ap count_of g) in
    let w = text_of t h.value h.given in
    let n = ok_is h.then in
    record { plan = h.value; reads = h.given; text = w.text; count = n; few = omega (arith, w.few) }

pub form_refused : (t : Bytes) (r : Answer ℕ Refusal) (why : Refusal) → count_of r ≡ plan_form t → r ≡ Err why → read_plan t ≡ refused (number_of why.kind) why.place
form_refused t r why e g = go (read_plan t) (sym e ∙ ap count_of g)
  where
    go : (x : Result Plan) → and_then x (λ plan. ok (length plan)) ≡ refused (number_of why.kind) why.place → x ≡ refused (number_of why.kind) why.place
    go (ok plan) q = absurd (not_ok (sym q))
    go (refused number at) q = rw (refusal_number q, refusal_place q)
