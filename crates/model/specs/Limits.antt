-- The limits of document 01 by name, with what document 02 changes of them, and the sizes that follow from them. Each name stands for its number, also in proofs.
-- Assumes nothing.
use Rattle.std.specs.Prelude.{ℕ}

-- "Limits: 128 nodes, 4,000 segment bits in all, 4 targets, 16,384 bytes of text."
abbrev pub max_nodes : ℕ
max_nodes = 128

abbrev pub max_bits : ℕ
max_bits = 4000

abbrev pub max_targets : ℕ
max_targets = 4

abbrev pub max_network_bytes : ℕ
max_network_bytes = 16384

-- document 02, Change 4: "LEN may be 64, and 65 is refused"
abbrev pub max_len : ℕ
max_len = 64

-- "Plans: 16 operations, 64,080 bytes."; 64,080 = 16 × 4,005, a line being `csu`, a tab, at most 4,000 bits and byte 10
abbrev pub max_operations : ℕ
max_operations = 16

abbrev pub max_plan_bytes : ℕ
max_plan_bytes = 64080

-- "Planner: 6 distinct steering bits."
abbrev pub max_steering_bits : ℕ
max_steering_bits = 6

-- settings of the steering bits, each 0, 1 or unknown: 729 = 3 ^ 6
abbrev pub max_settings : ℕ
max_settings = 729

-- "11,664 search entries": 11,664 = 16 × 729, one for each setting after each count of operations
abbrev pub search_size : ℕ
search_size = 11664
