-- What the record's arrays mean: eight numbers for each node, two words for each segment's bits, and the segments of a path.
-- Assumes nothing.
use Rattle.std.specs.Prelude.{cond, List, [], ◌∷◌, map, ℕ, ◌+◌, ◌*◌, ◌≤◌, ◌<◌, length, get_or, eqb, ltb}
use Rattle.model.specs.Text.{Trit}
use Rattle.model.specs.Network.{Node, segment, multiplexer, Config, len_of, address_bits, tabulate}
use Rattle.model.specs.Path.{PathSegment, ScanPath}
use Rattle.network_words.specs.Words.{word_width, trit_at, trits_of}

-- ---- nodes: node k has the numbers 8 k to 8 k + 7

-- the node numbers, 0 for scan-in among them: 129 = 128 + 1
abbrev pub node_numbers : ℕ
node_numbers = 129

-- eight numbers for each: 1,032 = 8 × 129
abbrev pub node_fields : ℕ
node_fields = 1032

-- number i of node k
abbrev pub field_at : List ℕ → ℕ → ℕ → ℕ
field_at ns k i = get_or ns (k * 8 + i) 0

-- the inputs of a multiplexer
abbrev pub inputs_at : List ℕ → ℕ → List ℕ
inputs_at ns k = tabulate (λ i. field_at ns k (4 + i)) 0 (field_at ns k 0)

-- number 0 is the kind: 0 a plain segment, 1 a segment with shadow, 2 to 4 a multiplexer with so many inputs;
-- number 1 is FROM or SEG, number 2 LEN or BIT; from number 4 on stand the inputs; number 3 is not read
unfoldable pub node_at : List ℕ → ℕ → Node
node_at ns k =
    cond (ltb (field_at ns k 0) 2)
    (segment (field_at ns k 1) (field_at ns k 2) (eqb (field_at ns k 0) 1))
    (multiplexer (field_at ns k 1) (field_at ns k 2) (inputs_at ns k))

-- the nodes of numbers 1 to count
abbrev pub nodes_of : List ℕ → ℕ → List Node
nodes_of ns count = tabulate (node_at ns) 1 count

-- ---- bits: two words for each segment, its bits and their known marks

-- the configuration of nodes 1 to count; bits beyond a segment's LEN are free
unfoldable pub config_of : List ℕ → List ℕ → List ℕ → ℕ → Config
config_of ns bits known count = tabulate (λ k. trits_of (len_of (node_at ns k)) (get_or bits k 0) (get_or known k 0)) 1 count

-- bit b of segment s, as the walk looks it up
abbrev pub look_in : List ℕ → List ℕ → ℕ → ℕ → Trit
look_in bits known s b = trit_at (get_or bits s 0) (get_or known s 0) b

-- ---- paths: the numbers of the segments met, from scan-out on

abbrev pub segment_at : List ℕ → ℕ → PathSegment
segment_at ns k = record { number = k; len = len_of (node_at ns k) }

abbrev pub scan_path : List ℕ → List ℕ → ScanPath
scan_path ns ks = map (segment_at ns) ks

-- falling numbers below m of segments with at least one bit, all within a word
abbrev pub Way : List ℕ → ℕ → List ℕ → Type 0
Way ns m [] = Unit {0}
Way ns m (k ∷ ks) = (1 ≤ k) × (k < m) × (1 ≤ len_of (node_at ns k)) × (len_of (node_at ns k) ≤ word_width) × Way ns k ks

-- ---- what the walk asks of the nodes that it may meet: smaller numbers, addresses within the words

abbrev pub SafeNode : ℕ → Node → Type 0
SafeNode k (segment from len shadow) = (from < k) × (1 ≤ len) × (len ≤ word_width)
SafeNode k (multiplexer s b ins) = ((i : ℕ) → i < length ins → get_or ins i 0 < k) × (s < node_numbers) × (b + address_bits ins ≤ word_width) × (2 ≤ length ins) × (length ins ≤ 4)

abbrev pub Safe : List ℕ → ℕ → Type 0
Safe ns n = (k : ℕ) → 1 ≤ k → k ≤ n → SafeNode k (node_at ns k)
