-- The table of layers in the search space: 16 slots of 729 numbers, one for each setting, each a set of sets of targets. Slot i
-- has states that i + 1 operations lead to. A state is setting * 16 + targets reached.
-- Assumes nothing.
use Rattle.std.specs.Prelude.{◌≡◌, Bool, true, ◌&&◌, ◌⊎◌, List, ℕ, zero, suc, ◌+◌, ◌*◌, ◌/◌, ◌%◌, ◌^◌, ◌≤◌, ◌<◌, eqb, ltb, length, get_or}
use Rattle.model.specs.Limits.{max_settings, search_size}
use Rattle.model.specs.Network.{Network, steering_bits}
use Rattle.network_words.specs.Words.{word_bit}

-- state s is in slot i
abbrev pub in_slot : List ℕ → ℕ → ℕ → Bool
in_slot tab i s = ltb s search_size && word_bit (get_or tab (i * max_settings + s / 16) 0) (s % 16)

-- layer 0 is the start alone
unfoldable pub layers_of : ℕ → List ℕ → ℕ → ℕ → Bool
layers_of start tab zero s = eqb s start
layers_of start tab (suc i) s = in_slot tab i s

-- state s has been met
abbrev pub in_seen : List ℕ → ℕ → Bool
in_seen seen s = word_bit (get_or seen (s / 16) 0) (s % 16)

-- entry n is not of slot i
abbrev pub OutOfSlot : ℕ → ℕ → Type 0
OutOfSlot i n = (n < i * max_settings) ⊎ (i * max_settings + max_settings ≤ n)

-- the entries outside slot i are as they were
abbrev pub Others : ℕ → List ℕ → List ℕ → Type 0
Others i old new = (n : ℕ) → OutOfSlot i n → get_or new n 0 ≡ get_or old n 0

-- of the table, only slot i may have changed
pub record OnlySlot (i : ℕ) (old new : List ℕ) : Type 0 where
  pub others : Others i old new
  pub size : length new ≡ length old

-- state s is of a setting of the network
abbrev pub OfSetting : Network → ℕ → Type 0
OfSetting net s = s / 16 < 3 ^ length (steering_bits net.nodes)

-- so is each state of slot i
abbrev pub SlotKnown : Network → List ℕ → ℕ → Type 0
SlotKnown net tab i = (s : ℕ) → in_slot tab i s ≡ true → OfSetting net s

-- and each of layers 0 to d
abbrev pub Known : Network → ℕ → List ℕ → ℕ → Type 0
Known net start tab d = (j s : ℕ) → j ≤ d → layers_of start tab j s ≡ true → OfSetting net s

-- the settings from `from` up to r, at most end, have no state in the slot that stands at `at`
pub record Skipped (tab : List ℕ) (at from end r : ℕ) : Type 0 where
  pub least : from ≤ r
  pub most : r ≤ end
  pub empty : (y : ℕ) → from ≤ y → y < r → get_or tab (at + y) 0 ≡ 0
