-- Texts of clocks: one line, and the lines joined (document 02, Change 2).
-- Assumes nothing.
use Rattle.std.specs.Prelude.{Bool, cond, ◌&&◌, List, [], ◌∷◌, ◌++◌, ℕ, length, eqb, ltb}
use Rattle.std.specs.Prelude.{Option, None as none, Some as some}
use Rattle.model.specs.Text.{Bytes, bytes, bind, is_empty, fields, same}
use Rattle.model.specs.Tap.{Clock, clk}
use Rattle.model.specs.NetworkText.{field}
use Rattle.model.specs.PlanText.{scan_bits}

-- "a line over 32,768 bytes"
abbrev pub max_line_bytes : ℕ
max_line_bytes = 32768

-- ---- one line; none: "a wrong line form or an empty field, a line over 32,768 bytes, TMS and TDI of unequal length"

-- bits, each `0` or `1`, at least one
abbrev pub pin_bits : Bytes → Option (List Bool)
pin_bits f = cond (is_empty f) none (scan_bits f)

-- a clock for each pair of bits
unfoldable pub paired : List Bool → List Bool → Option (List Clock)
paired [] [] = some []
paired [] (d ∷ ds) = none
paired (m ∷ ms) [] = none
paired (m ∷ ms) (d ∷ ds) = bind (paired ms ds) (λ cs. some (clk m d ∷ cs))

-- `clk TMS TDI`: the word and two fields; with its byte 10 the line is not too long
abbrev pub clk_form : Bytes → Bool
clk_form l = ltb (length l) max_line_bytes && eqb (length (fields l)) 3 && same (field (fields l) 0) (bytes "clk")

-- the clocks of a line, which is given without its byte 10
unfoldable pub clk_line : Bytes → Option (List Clock)
clk_line l = cond (clk_form l) (bind (pin_bits (field (fields l) 1)) (λ ms. bind (pin_bits (field (fields l) 2)) (paired ms))) none

-- ---- "A program reads `clk` lines, joins them"

-- the clocks of the parts between the bytes 10; behind the last one nothing stands
unfoldable pub joined_clocks : List Bytes → Option (List Clock)
joined_clocks [] = some []
joined_clocks (l ∷ []) = cond (is_empty l) (some []) none
joined_clocks (l ∷ m ∷ ls) = bind (clk_line l) (λ cs. bind (joined_clocks (m ∷ ls)) (λ ds. some (cs ++ ds)))
