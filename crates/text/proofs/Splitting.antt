-- A line's fields found one after the other: what holds where a field begins, and where its end is found.
-- Assumes nothing.
use mathlib.Core.Path.{◌≡◌, refl, sym, ap, ◌∙◌}
use mathlib.Core.List.{List, []}
use Prim.Native.Nat.{ℕ, ◌+◌, ◌-◌, ◌≤◌, ◌<◌}
use native.Mathlib.Omega.{arith}
use native.Mathlib.Nat.{add-zero}
use lib.ListN.{length, take, drop, get_or, set, length-drop, length-set}
use lib.Seq.{drop-drop, get_or-drop, get_or-set_same, get_or-set_other}
use borrow.Author.Count.{below_more}
use Rattle.model.specs.Text.{Bytes, tab, fields}
use Rattle.text.specs.Places.{IsEnd, FieldAt, IsSplit}
use Rattle.text.proofs.Parts.{rest_first, rest_alone, rest_ended}

-- n fields are placed; the next one begins at `at`
pub record Open (line : Bytes) (starts : List ℕ) (n at : ℕ) : Type 0 where
  pub few : n ≤ at
  pub within : at ≤ length line
  pub long : length starts ≡ 8
  pub rest : drop n (fields line) ≡ fields (drop at line)
  pub here : n < 8 → get_or starts n 0 ≡ at
  pub placed : (k : ℕ) → k < n → k < 7 → FieldAt line starts k

-- n fields are placed; the last one ends at `end`
pub record Closed (line : Bytes) (starts : List ℕ) (n end : ℕ) : Type 0 where
  pub long : length starts ≡ 8
  pub next : n < 8 → get_or starts n 0 ≡ end + 1
  pub placed : (k : ℕ) → k < n → k < 7 → FieldAt line starts k

pub open_first : (line : Bytes) (starts : List ℕ) → length starts ≡ 8 → get_or starts 0 0 ≡ 0 → Open line starts 0 0
open_first line starts h e =
    record { few = omega arith; within = omega arith; long = h; rest = refl; here = λ l. e; placed = λ k l m. absurd (omega arith) }

kept : (line : Bytes) (starts after : List ℕ) (k : ℕ) → get_or after k 0 ≡ get_or starts k 0 → get_or after (k + 1) 0 ≡ get_or starts (k + 1) 0
    → FieldAt line starts k → FieldAt line after k
kept line starts after k p q f =
    record { ordered = rw (p, q) f.ordered; within = rw q f.within; content = rw (p, q) f.content }

module _ (line : Bytes) (starts after : List ℕ) (n at end : ℕ) (o : Open line starts n at) (e : IsEnd tab line at end) where
  nth : get_or (fields line) n [] ≡ take (end - at) (drop at line)
  nth =
      ap (λ (m : ℕ). get_or (fields line) m []) (sym (add-zero n))
      ∙ sym (get_or-drop n (fields line) 0 [])
      ∙ ap (λ (fs : List Bytes). get_or fs 0 []) o.rest
      ∙ rest_first tab line at end e

  added : get_or after n 0 ≡ at → get_or after (n + 1) 0 ≡ end + 1 → FieldAt line after n
  added p q =
      let r : end + 1 - 1 ≡ end = omega arith in
      record {
        ordered = rw (p, q) (omega arith);
        within = rw q (omega arith);
        content = rw (p, q, r) (sym nth);
      }

  -- the starts up to n stay, and the next one is noted where there is room
  closed : length after ≡ 8 → ((k : ℕ) → k ≤ n → get_or after k 0 ≡ get_or starts k 0) → (n + 1 < 8 → get_or after (n + 1) 0 ≡ end + 1)
      → Closed line after (n + 1) end
  closed h same next = record {
    long = h;
    next = next;
    placed = below_more (λ k. k < 7 → FieldAt line after k) n
        (λ k l m. kept line starts after k (same k (omega arith)) (same (k + 1) (omega arith)) (o.placed k l m))
        (λ m. added (same n (omega arith) ∙ o.here (omega arith)) (next (omega arith)));
  }

  pub closed_noted : n + 1 < 8 → after ≡ set starts (n + 1) (end + 1) → Closed line after (n + 1) end
  closed_noted h q =
      closed (ap length q ∙ length-set starts (n + 1) (end + 1) ∙ o.long)
      (λ k l. ap (λ (s : List ℕ). get_or s k 0) q ∙ get_or-set_other starts (n + 1) k (end + 1) 0 (λ r. omega arith))
      (λ l. ap (λ (s : List ℕ). get_or s (n + 1) 0) q ∙ get_or-set_same starts (n + 1) (end + 1) 0 (omega (arith, o.long)))

  pub closed_past : 8 ≤ n + 1 → after ≡ starts → Closed line after (n + 1) end
  closed_past h q = closed (ap length q ∙ o.long) (λ k l. ap (λ (s : List ℕ). get_or s k 0) q) (λ l. absurd (omega arith))

  -- behind a tab the next field begins
  pub open_next : Closed line after (n + 1) end → end < length line → Open line after (n + 1) (end + 1)
  open_next c h = record {
    few = omega (arith, o.few);
    within = omega arith;
    long = c.long;
    rest = sym (drop-drop 1 n (fields line)) ∙ ap (drop 1) (o.rest ∙ rest_ended tab line at end e h);
    here = c.next;
    placed = c.placed;
  }

  -- at the line's end all fields are placed
  count_all : end ≡ length line → n + 1 ≡ length (fields line)
  count_all h =
      let z : length (fields line) - n ≡ 1 = sym (length-drop n (fields line)) ∙ ap length (o.rest ∙ rest_alone tab line at end e h) in
      omega arith

  pub split_done : Closed line after (n + 1) end → end ≡ length line → IsSplit line record { count = n + 1; starts = after }
  split_done c h = record { counted = count_all h; placed = λ k l m. c.placed k (omega (arith, count_all h)) l }
