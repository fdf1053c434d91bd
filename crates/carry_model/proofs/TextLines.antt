-- The text of some lines, and the lines of a text: taken apart, put together, and those that a test keeps.
-- Assumes nothing.
use mathlib.Core.Path.{◌≡◌, refl, sym, ap, ◌∙◌}
use mathlib.Core.Bool.{Bool, true, false, cond}
use mathlib.Core.List.{List, [], ◌∷◌, ◌++◌, append_assoc}
use Prim.Native.Nat.{ℕ}
use lib.Dec.{eqb}
use Rattle.model.specs.Text.{Bytes, line_end, in_first, parts, ended, lines_of}
use Rattle.model.proofs.Lists.{Every}
use Rattle.model.proofs.PlanTexts.{Free, parts_line}
use Rattle.model.proofs.AddedLines.{ended_all}
use Rattle.carry_model.specs.Continued.{lines_where, text_of_lines}

-- ---- lines and text

pub text_append : (ls ms : List Bytes) → text_of_lines (ls ++ ms) ≡ text_of_lines ls ++ text_of_lines ms
unfolding text_of_lines
text_append [] ms = refl
text_append (l ∷ ls) ms = ap (λ (t : Bytes). l ++ line_end ∷ t) (text_append ls ms) ∙ sym (append_assoc l (line_end ∷ text_of_lines ls) (text_of_lines ms))

pub text_parts : (ls : List Bytes) → Every (Free line_end) ls → parts line_end (text_of_lines ls) ≡ ls ++ [] ∷ []
unfolding text_of_lines parts
text_parts [] f = refl
text_parts (l ∷ ls) f = parts_line line_end l (text_of_lines ls) f.0 ∙ ap (λ (x : List Bytes). l ∷ x) (text_parts ls f.1)

pub text_lines : (ls : List Bytes) → Every (Free line_end) ls → lines_of (text_of_lines ls) ≡ ls
text_lines ls f = ap ended (text_parts ls f) ∙ ended_all ls

every_part : (sep : ℕ) (t : Bytes) → Every (Free sep) (parts sep t)
unfolding parts
every_part sep [] = (tt, tt)
every_part sep (b ∷ bs) = go (eqb b sep) refl (parts sep bs) (every_part sep bs)
  where
    go : (t : Bool) → eqb b sep ≡ t → (ps : List Bytes) → Every (Free sep) ps → Every (Free sep) (cond t ([] ∷ ps) (in_first b ps))
    go true q ps e = (tt, e)
    go false q [] e = ((q, tt), tt)
    go false q (p ∷ ps) e = ((q, e.0), e.1)

every_ended : (P : Bytes → Type 0) (ls : List Bytes) → Every P ls → Every P (ended ls)
every_ended P [] e = tt
every_ended P (l ∷ []) e = tt
every_ended P (l ∷ m ∷ ls) e = (e.0, every_ended P (m ∷ ls) e.1)

-- no line of a text has a line end
pub lines_free : (t : Bytes) → Every (Free line_end) (lines_of t)
lines_free t = every_ended (Free line_end) (parts line_end t) (every_part line_end t)

-- ---- the lines that a test keeps

pub where_append : (f : Bytes → Bool) (ls ms : List Bytes) → lines_where f (ls ++ ms) ≡ lines_where f ls ++ lines_where f ms
unfolding lines_where
where_append f [] ms = refl
where_append f (l ∷ ls) ms = go (f l) (where_append f ls ms)
  where
    go : (t : Bool) → lines_where f (ls ++ ms) ≡ lines_where f ls ++ lines_where f ms
        → cond t (l ∷ lines_where f (ls ++ ms)) (lines_where f (ls ++ ms)) ≡ cond t (l ∷ lines_where f ls) (lines_where f ls) ++ lines_where f ms
    go true e = ap (λ (x : List Bytes). l ∷ x) e
    go false e = e

pub every_where : (P : Bytes → Type 0) (f : Bytes → Bool) (ls : List Bytes) → Every P ls → Every P (lines_where f ls)
unfolding lines_where
every_where P f [] e = tt
every_where P f (l ∷ ls) e = go (f l) (every_where P f ls e.1)
  where
    go : (t : Bool) → Every P (lines_where f ls) → Every P (cond t (l ∷ lines_where f ls) (lines_where f ls))
    go true r = (e.0, r)
    go false r = r

pub where_pass : (f : Bytes → Bool) (ls : List Bytes) → Every (λ l. f l ≡ true) (lines_where f ls)
unfolding lines_where
where_pass f [] = tt
where_pass f (l ∷ ls) = go (f l) refl (where_pass f ls)
  where
    go : (t : Bool) → f l ≡ t → Every (λ l. f l ≡ true) (lines_where f ls) → Every (λ l. f l ≡ true) (cond t (l ∷ lines_where f ls) (lines_where f ls))
    go true q r = (q, r)
    go false q r = r

pub where_all : (f : Bytes → Bool) (ls : List Bytes) → Every (λ l. f l ≡ true) ls → lines_where f ls ≡ ls
unfolding lines_where
where_all f [] e = refl
where_all f (l ∷ ls) e = rw e.0 (ap (λ (x : List Bytes). l ∷ x) (where_all f ls e.1))

pub where_none : (f : Bytes → Bool) (ls : List Bytes) → Every (λ l. f l ≡ false) ls → lines_where f ls ≡ []
unfolding lines_where
where_none f [] e = refl
where_none f (l ∷ ls) e = rw e.0 (where_none f ls e.1)
