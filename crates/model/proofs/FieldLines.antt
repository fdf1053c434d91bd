-- A line of a word and two fields, as the programs print it: its fields, its length, and that no line end stands in it.
-- Assumes nothing.
use mathlib.Core.Path.{◌≡◌, refl, sym, ap, ◌∙◌}
use mathlib.Core.List.{List, [], ◌∷◌, ◌++◌, append_assoc}
use Prim.Native.Nat.{ℕ, suc, ◌+◌}
use native.Mathlib.Omega.{arith}
use lib.ListN.{length, length-append}
use Rattle.model.specs.Printed.{fields_of}
use Rattle.model.specs.Text.{Bytes, tab, line_end, parts, fields}
use Rattle.model.proofs.PlanTexts.{Free, parts_line}

pub parts_free : (sep : ℕ) (l : Bytes) → Free sep l → parts sep l ≡ l ∷ []
unfolding parts
parts_free sep [] f = refl
parts_free sep (b ∷ l) f = rw (f.0, parts_free sep l f.1)

free_append : (sep : ℕ) (a b : Bytes) → Free sep a → Free sep b → Free sep (a ++ b)
free_append sep [] b f g = g
free_append sep (x ∷ a) b f g = (f.0, free_append sep a b f.1 g)

-- without its byte 10
abbrev pub two_fields : Bytes → Bytes → Bytes → Bytes
two_fields word a b = word ++ tab ∷ (a ++ tab ∷ b)

module _ (word a b : Bytes) where
  pub two_fields_law : Free tab word → Free tab a → Free tab b → fields (two_fields word a b) ≡ word ∷ a ∷ b ∷ []
  two_fields_law f g h =
      parts_line tab word (a ++ tab ∷ b) f ∙ ap (λ (x : List Bytes). word ∷ x) (parts_line tab a b g ∙ ap (λ (x : List Bytes). a ∷ x) (parts_free tab b h))

  pub two_free : Free line_end word → Free line_end a → Free line_end b → Free line_end (two_fields word a b)
  two_free f g h = free_append line_end word (tab ∷ (a ++ tab ∷ b)) f (refl, free_append line_end a (tab ∷ b) g (refl, h))

  pub two_length : length (two_fields word a b) ≡ length word + (suc (length a) + suc (length b))
  two_length =
      let c : length (a ++ tab ∷ b) ≡ length a + suc (length b) = length-append a (tab ∷ b) in
      length-append word (tab ∷ (a ++ tab ∷ b)) ∙ omega arith

  -- as it is printed, and what follows it
  pub two_printed : (rest : Bytes) → (word ++ fields_of (a ∷ b ∷ [])) ++ rest ≡ two_fields word a b ++ line_end ∷ rest
  unfolding fields_of
  two_printed rest =
      append_assoc word (tab ∷ (a ++ tab ∷ (b ++ line_end ∷ []))) rest
      ∙ ap (λ (x : Bytes). word ++ tab ∷ x)
      (append_assoc a (tab ∷ (b ++ line_end ∷ [])) rest ∙ ap (λ (x : Bytes). a ++ tab ∷ x) (append_assoc b (line_end ∷ []) rest) ∙ sym (append_assoc a (tab ∷ b) (line_end ∷ rest)))
      ∙ sym (append_assoc word (tab ∷ (a ++ tab ∷ b)) (line_end ∷ rest))
