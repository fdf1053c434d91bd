-- Answers as numbers.
-- Assumes nothing.
use Rattle.std.specs.Prelude.{List, [], ◌∷◌, ◌++◌, ℕ, ◌-◌, length, replicate}
use Rattle.model.specs.Result.{Result, ok, refused}
use Rattle.model.specs.Network.{Network, total_bits, steering_bits}
use Rattle.model.specs.Path.{path_in, path_length}
use Rattle.model.specs.Mark.{Got, Pass}

-- 0 and the counts that the read program prints, or number and place of a refusal
abbrev pub read_numbers : Result Network → List ℕ
read_numbers (ok net) = 0 ∷ length net.nodes ∷ total_bits net.nodes ∷ length (steering_bits net.nodes) ∷ path_length (path_in net net.start) ∷ []
read_numbers (refused number place) = number ∷ place ∷ 0 ∷ 0 ∷ 0 ∷ []

-- the rows one behind the other, each as target, operation and place
abbrev pub got_numbers : List Got → List ℕ
got_numbers [] = []
got_numbers (g ∷ gs) = g.target_number ∷ g.operation ∷ g.at_place ∷ got_numbers gs

-- numbers with as many zeros behind them as make up n
abbrev pub padded : ℕ → List ℕ → List ℕ
padded n numbers = numbers ++ replicate (n - length numbers) 0

-- 0, the counts of operations, of clocks and of rows, and the rows, or number and place of a refusal; zeros behind
abbrev pub mark_numbers : Result Pass → List ℕ
mark_numbers (ok pass) = padded 16 (0 ∷ pass.operations ∷ pass.clocks ∷ length pass.gots ∷ got_numbers pass.gots)
mark_numbers (refused number place) = padded 16 (number ∷ place ∷ [])

-- 0 and the count of what was written, clocks or bytes, or number and place of a refusal
abbrev pub count_numbers : Result ℕ → List ℕ
count_numbers (ok count) = 0 ∷ count ∷ []
count_numbers (refused number place) = number ∷ place ∷ []
