-- The text of a configuration, and what is carried into the next exercise (document 02, Change 3).
-- Assumes nothing.
use Rattle.std.specs.Prelude.{cond, List, [], ◌∷◌, ◌++◌, map, reverse, ℕ, suc, length}
use Rattle.std.specs.Prelude.{None as none, Some as some}
use Rattle.model.specs.Result.{Result, ok, and_then}
use Rattle.model.specs.Text.{Bytes, Trit}
use Rattle.model.specs.Network.{Node, Config, Network, at, is_segment}
use Rattle.model.specs.Plan.{Plan, config_after}
use Rattle.model.specs.Tap.{bit_byte}
use Rattle.model.specs.NetworkText.{read_network}
use Rattle.model.specs.PlanText.{read_plan}
use Rattle.model.specs.Mark.{mark_plan}
use Rattle.model.specs.Calls.{written, count_of, if_room}
use Rattle.model.specs.Printed.{number, line, printed}

-- ---- "one `hold` line for each segment in number order"

-- "each `0`, `1` or `X` (unknown)"
abbrev pub trit_byte : Trit → ℕ
trit_byte none = 88
trit_byte (some b) = bit_byte b

-- `hold SEG BITS`; "BITS starts with the highest bit"
abbrev pub hold_line : ℕ → List Trit → Bytes
hold_line s ts = line "hold" (number s ∷ map trit_byte (reverse ts) ∷ [])

-- the lines of the nodes from number s on; a multiplexer has none
unfoldable pub hold_lines : Config → ℕ → List Node → Bytes
hold_lines c s [] = []
hold_lines c s (n ∷ ns) = cond (is_segment n) (hold_line s (at c s [])) [] ++ hold_lines c (suc s) ns

abbrev pub config_text : Network → Config → Bytes
config_text net c = hold_lines c 1 net.nodes

-- the bytes that are enough for every network, 5,280 = 128 × 10 + 4,000: of each line the word, two tabs, at most three digits and byte 10; and all bits
abbrev pub max_hold_bytes : ℕ
max_hold_bytes = 5280

-- ---- "After a pass, a program prints the last configuration"

-- "the configuration that was left"
abbrev pub left_by : Network → Plan → Config
left_by net plan = config_after net net.start plan

-- of a network text as it was read, and a plan text
abbrev pub carry_read : Result Network → Bytes → Result Bytes
carry_read r p = and_then r (λ net. and_then (read_plan p) (λ plan. and_then (mark_plan net plan) (λ pass. ok (config_text net (left_by net plan)))))

unfoldable pub carry : Bytes → Bytes → Result Bytes
carry n p = carry_read (read_network n) p

unfoldable pub carry_program : Bytes → Bytes → Bytes
carry_program n p = printed (λ text. text) (carry n p)

-- ---- the call: network text, plan text, buffer for the `hold` lines

-- the lines, for a buffer of this length
abbrev pub in_room : Result Bytes → ℕ → Result Bytes
in_room lines room = and_then lines (if_room room)

pub record CarryAnswer : Type 0 where
  -- bytes written
  pub result : Result ℕ
  pub holds : List ℕ

abbrev pub carry_answer : Result Bytes → List ℕ → CarryAnswer
carry_answer lines holds = record { result = count_of (in_room lines (length holds)); holds = written (in_room lines (length holds)) holds }

unfoldable pub carry_text : Bytes → Bytes → List ℕ → CarryAnswer
carry_text n p holds = carry_answer (carry n p) holds
