-- The numbers that stand for a node and for a target. Where there is no node or no target, all are 0.
-- Assumes nothing.
use Rattle.std.specs.Prelude.{◌≡◌, cond, List, [], ◌∷◌, ℕ, ◌<◌, length, get_or}
use Rattle.std.specs.Prelude.{Option, None as none, Some as some}
use Rattle.model.specs.Network.{Node, segment, multiplexer, Target, read, write, at, no_node}
use Rattle.model.specs.NetworkText.{target_segment}
use Rattle.network_words.specs.Words.{word_of_bits}
use Rattle.network_path.specs.Layout.{field_at}
use Rattle.network_draft.specs.declared.store.Target.{Target as StoredTarget}
use Rattle.network_draft.specs.declared.store.Summary.{Summary}

-- ---- nodes

-- the eight numbers of a node
abbrev pub numbers_for : Node → List ℕ
numbers_for (segment from len shadow) = cond shadow 1 0 ∷ from ∷ len ∷ 0 ∷ 0 ∷ 0 ∷ 0 ∷ 0 ∷ []
numbers_for (multiplexer s b ins) = length ins ∷ s ∷ b ∷ 0 ∷ get_or ins 0 0 ∷ get_or ins 1 0 ∷ get_or ins 2 0 ∷ get_or ins 3 0 ∷ []

-- the numbers of every node
abbrev pub NodesStored : List ℕ → List Node → Type 0
NodesStored ns nodes = (k i : ℕ) → i < 8 → field_at ns k i ≡ get_or (numbers_for (at nodes k no_node)) i 0

-- ---- targets

abbrev pub no_target : Target
no_target = read 0

-- the word of a `write`
abbrev pub target_word : Target → Option ℕ
target_word (read s) = none
target_word (write s bs) = some (word_of_bits bs)

abbrev pub stored_target : Target → StoredTarget
stored_target x = record { segment = target_segment x; write = target_word x }

-- how every target is stored
abbrev pub TargetsStored : Summary → List Target → Type 0
TargetsStored t ts = (i : ℕ) → get_or t.targets i (stored_target no_target) ≡ stored_target (get_or ts i no_target)
