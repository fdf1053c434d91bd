-- Laws of the lines in turn: what a parsed line adds, and where the loop over the lines stands.
-- Assumes nothing.
use mathlib.Core.Path.{◌≡◌, refl, sym, ap, ◌∙◌, subst}
use mathlib.Core.Bool.{Bool, true, false}
use mathlib.Core.List.{List, [], ◌∷◌}
use Rattle.std.specs.Prelude.{Some as some, Ok, Err}
use Prim.Native.Nat.{ℕ, suc, ◌+◌, ◌-◌, ◌≤◌, ◌<◌}
use native.Mathlib.Omega.{arith}
use native.Mathlib.Numerals.{add-one}
use lib.ListN.{length, take, drop, drop_of_length-le, length-drop}
use Rattle.model.specs.Limits.{max_len}
use Rattle.model.specs.Result.{Result, ok, refused, and_then}
use Rattle.model.specs.Answers.{number_of}
use Rattle.model.specs.Text.{Bytes, parts, line_end}
use Rattle.model.specs.NetworkText.{Draft, no_lines, line_of, add_line, at_end, read_lines, finish}
use Rattle.model.specs.declared.refusal.Refusal.{Refusal}
use Rattle.model.proofs.PlanTexts.{parts_more}
use Rattle.text.specs.Places.{IsEnd}
use Rattle.text.proofs.Parts.{rest_alone, rest_ended}
use Rattle.network_line.specs.declared.Entry.{Entry}
use Rattle.network_line.specs.declared.ParsedLine.{ParsedLine}
use Rattle.network_line.specs.Line.{entry_means, GoodEntry, IsParsedLine}
use Rattle.network_draft.specs.declared.store.Summary.{Summary}
use Rattle.network_draft.specs.Represents.{feeds_of, Arrays, Represents, Agrees}
use Rattle.network_reader.specs.Reads.{LineAdded, Lined, finish_of}

-- ---- a parsed line

module _ (l : Bytes) (p : ParsedLine) (is : IsParsedLine l (some p)) (e : Entry) (q : p.entry ≡ e) where
  pub line_is : line_of l ≡ some (entry_means p.bits.now e)
  line_is = sym is.means ∙ ap (λ (x : Entry). some (entry_means p.bits.now x)) q

  pub entry_good : GoodEntry p.bits.now e
  entry_good = subst (GoodEntry p.bits.now) q is.good

-- ---- what an answer says of the model's

module _ {A : Type 0} (P : A → Draft → Type 0) where
  pub was_refused : (m : Result Draft) (r : Refusal) → Agrees P m (Err r) → m ≡ refused (number_of r.kind) r.place
  was_refused (ok e) r f = absurd f
  was_refused (refused number place) r f = rw (f.0, f.1)

  pub record Went (m : Result Draft) (a : A) : Type 0 where
    pub draft : Draft
    pub is : m ≡ ok draft
    pub holds : P a draft

  pub went_on : (m : Result Draft) (a : A) → Agrees P m (Ok a) → Went m a
  went_on (ok e) a f = record { draft = e; is = refl; holds = f }
  went_on (refused number place) a f = absurd f

-- ---- the loop over the lines

module _ (t : Bytes) (d : Draft) (n at end : ℕ) (e : IsEnd line_end t at end) where
  abbrev Rest : Result (ℕ × Draft)
  Rest = read_lines max_len d n (parts line_end (drop at t))

  -- the last line is not ended
  pub unended : at < length t → end ≡ length t → Rest ≡ refused 1 n
  unfolding read_lines
  unended l q = ap (read_lines max_len d n) (rest_alone line_end t at end e q) ∙ go (drop at t) (omega (arith, length-drop at t))
    where
      go : (s : Bytes) → 0 < length s → at_end {A = ℕ × Draft} (n, d) 1 s n ≡ refused 1 n
      go [] h = absurd (omega arith)
      go (b ∷ bs) h = refl

  ended : end < length t → Rest ≡ and_then (add_line max_len d n (line_of (take (end - at) (drop at t)))) (λ x. read_lines max_len x (suc n) (parts line_end (drop (end + 1) t)))
  unfolding read_lines
  ended l =
      let m = parts_more line_end (drop (end + 1) t) in
      ap (read_lines max_len d n) (rest_ended line_end t at end e l ∙ ap (λ (x : List Bytes). take (end - at) (drop at t) ∷ x) m.2)
      ∙ ap (λ (x : List Bytes). and_then (add_line max_len d n (line_of (take (end - at) (drop at t)))) (λ y. read_lines max_len y (suc n) x)) (sym m.2)

  pub line_refused : end < length t → (number place : ℕ) → add_line max_len d n (line_of (take (end - at) (drop at t))) ≡ refused number place → Rest ≡ refused number place
  line_refused l number place q = ended l ∙ ap (λ (x : Result Draft). and_then x (λ y. read_lines max_len y (suc n) (parts line_end (drop (end + 1) t)))) q

  pub line_read : end < length t → (x : Draft) → add_line max_len d n (line_of (take (end - at) (drop at t))) ≡ ok x → Rest ≡ read_lines max_len x (n + 1) (parts line_end (drop (end + 1) t))
  line_read l x q =
      ended l ∙ ap (λ (y : Result Draft). and_then y (λ z. read_lines max_len z (suc n) (parts line_end (drop (end + 1) t)))) q
      ∙ ap (λ (k : ℕ). read_lines max_len x k (parts line_end (drop (end + 1) t))) (sym (add-one n))

-- no line is left
pub no_line_left : (t : Bytes) (d : Draft) (n at : ℕ) → length t ≤ at → read_lines max_len d n (parts line_end (drop at t)) ≡ ok (n, d)
unfolding read_lines parts
no_line_left t d n at l = ap (λ (x : Bytes). read_lines max_len d n (parts line_end x)) (drop_of_length-le t l)

-- ---- before line n, from byte `at` on

pub record Standing (t : Bytes) (a : Arrays) (y : Summary) (at n : ℕ) : Type 0 where
  pub draft : Draft
  pub represented : Represents a y draft n
  pub rest : read_lines max_len no_lines 1 (parts line_end t) ≡ read_lines max_len draft n (parts line_end (drop at t))

pub standing_start : (t : Bytes) {a : Arrays} {y : Summary} → Represents a y no_lines 1 → Standing t a y 0 1
standing_start t w = record { draft = no_lines; represented = w; rest = refl }

module _ {t : Bytes} {a : Arrays} {y : Summary} {at n : ℕ} (s : Standing t a y at n) where
  pub standing_unended : (end : ℕ) → IsEnd line_end t at end → at < length t → end ≡ length t → read_lines max_len no_lines 1 (parts line_end t) ≡ refused 1 n
  standing_unended end e l q = s.rest ∙ unended t s.draft n at end e l q

  module _ (l : length t ≤ at) where
    standing_end : read_lines max_len no_lines 1 (parts line_end t) ≡ ok (n, s.draft)
    standing_end = s.rest ∙ no_line_left t s.draft n at l

    -- without an `out` line
    pub no_out_line : y.has_out ≡ false → finish_of (read_lines max_len no_lines 1 (parts line_end t)) ≡ refused 4 n
    no_out_line e = ap finish_of standing_end ∙ ap (finish n s.draft) (sym s.represented.out_is ∙ ap (λ (b : Bool). feeds_of b y.out) e)

    pub out_line : y.has_out ≡ true → Lined t a y
    out_line e = record { draft = s.draft; next = n; lines = standing_end; represented = s.represented; fed = e }

  module _ (b : Arrays) (end : ℕ) (e : IsEnd line_end t at end) (l : end < length t) where
    pub standing_refused : (r : Refusal) → LineAdded a y (take (end - at) (drop at t)) n (Err r) b
        → read_lines max_len no_lines 1 (parts line_end t) ≡ refused (number_of r.kind) r.place
    standing_refused r f = s.rest ∙ line_refused t s.draft n at end e l _ _ (was_refused _ _ r (f s.draft s.represented))

    abbrev Next : Summary → Draft → Type 0
    Next y' d = Represents b y' d (suc n)

    pub standing_next : (y' : Summary) → LineAdded a y (take (end - at) (drop at t)) n (Ok y') b → Standing t b y' (end + 1) (n + 1)
    standing_next y' f = go (went_on Next _ y' (f s.draft s.represented))
      where
        go : Went Next (add_line max_len s.draft n (line_of (take (end - at) (drop at t)))) y' → Standing t b y' (end + 1) (n + 1)
        go w = record {
          draft = w.draft;
          represented = subst (λ (k : ℕ). Represents b y' w.draft k) (sym (add-one n)) w.holds;
          rest = s.rest ∙ line_read t s.draft n at end e l w.draft w.is;
        }
