-- What the mark program prints, by the answer of the marker's call.
-- Assumes nothing.
use mathlib.Core.Path.{◌≡◌, sym, ap}
use mathlib.Core.List.{List, [], ◌∷◌, ◌++◌, map, append_assoc, append-nil, map-append}
use Prim.Native.Nat.{ℕ, ◌+◌, ◌<◌}
use native.Mathlib.Numerals.{add-one}
use lib.Seq.{take-suc}
use lib.ListN.{length, get_or, take}
use Rattle.std.specs.Prelude.{Ok, Err}
use Rattle.model.specs.Answers.{number_of}
use Rattle.model.specs.declared.refusal.Refusal.{Refusal}
use Rattle.model.specs.Text.{Bytes}
use Rattle.model.specs.Mark.{Got as ModelGot}
use Rattle.model.specs.Printed.{number, line, printed, got_lines, show_pass, mark_program}
use Rattle.marker_targets.specs.declared.Got.{Got}
use Rattle.marker_targets.specs.declared.Pass.{Pass}
use Rattle.marker_targets.specs.Answers.{got_of, gots_of, no_got}
use Rattle.marker.specs.Marks.{MarkReturned}

-- ---- the rows of a mark

abbrev pub got_line : Got → Bytes
got_line g = line "got" (number g.target ∷ number g.operation ∷ number g.place ∷ [])

lines_more : (gs : List ModelGot) (g : Got) → got_lines (gs ++ got_of g ∷ []) ≡ got_lines gs ++ got_line g
unfolding got_lines
lines_more [] g = append-nil (got_line g)
lines_more (k ∷ gs) g = let k' = line "got" (number k.target_number ∷ number k.operation ∷ number k.at_place ∷ []) in rw (lines_more gs g, append_assoc k' (got_lines gs) (got_line g))

-- one row more
pub rows_more : (rows : List Got) (i : ℕ) → i < length rows
    → got_lines (map got_of (take (i + 1) rows)) ≡ got_lines (map got_of (take i rows)) ++ got_line (get_or rows i no_got)
rows_more rows i lt =
    rw (add-one i, take-suc rows i no_got lt, map-append got_of (take i rows) (get_or rows i no_got ∷ [])) (lines_more (map got_of (take i rows)) (get_or rows i no_got))

-- ---- a mark

module _ (n p : Bytes) where
  pub mark_passed : (pass : Pass) → MarkReturned n p (Ok pass) → mark_program n p ≡ line "pass" (number pass.operations ∷ number pass.clocks ∷ []) ++ got_lines (gots_of pass.gots)
  unfolding mark_program
  mark_passed pass is = ap (printed show_pass) (sym is.result)

  pub mark_refused : (e : Refusal) → MarkReturned n p (Err e) → mark_program n p ≡ line "fail" (number (number_of e.kind) ∷ number e.place ∷ [])
  unfolding mark_program
  mark_refused e is = ap (printed show_pass) (sym is.result)
