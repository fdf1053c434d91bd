-- What the functions that fill a slot from the layer before it ask and leave.
-- Assumes nothing.
use Rattle.std.specs.Prelude.{◌≡◌, true, ◌⊎◌, List, ℕ, ◌/◌, ◌%◌, ◌^◌, ◌≤◌, ◌<◌, length, get_or}
use Rattle.std.specs.Prelude.{Option, None as none, MatchOption}
use Rattle.model.specs.Limits.{max_settings}
use Rattle.model.specs.Network.{Network, steering_bits}
use Rattle.network_words.specs.Words.{word_bit}
use Rattle.planner_theory.specs.Search.{plan_up_to}
use Rattle.planner_theory.specs.Moves.{all_of, count, reached, goes, sys_of}
use Rattle.planner_theory.specs.Layers.{Layers, Stepped}
use Rattle.planner_table.specs.Table.{in_slot, in_seen, layers_of, OnlySlot, Known}

-- slot i and the states met, with each state of P besides that had not been met
pub record Spread (P : ℕ → Type 0) (i : ℕ) (tab seen tab' seen' : List ℕ) : Type 0 where
  pub came : (s : ℕ) → in_slot tab' i s ≡ true → (in_slot tab i s ≡ true) ⊎ P s
  pub covers : (s : ℕ) → P s → in_seen seen' s ≡ true
  pub met : (s : ℕ) → in_seen seen' s ≡ true → (in_seen seen s ≡ true) ⊎ (in_slot tab' i s ≡ true)
  pub seen_kept : (s : ℕ) → in_seen seen s ≡ true → in_seen seen' s ≡ true
  pub slot_kept : (s : ℕ) → in_slot tab i s ≡ true → in_slot tab' i s ≡ true
  pub only : OnlySlot i tab tab'
  pub seen_size : length seen' ≡ max_settings

-- a state of setting y with a set of got
pub record AtSetting (y got s : ℕ) : Type 0 where
  pub setting : s / 16 ≡ y
  pub is : word_bit got (s % 16) ≡ true

-- of a setting that one of n choices leads to
pub record Arrives (lands : List ℕ) (n got s : ℕ) : Type 0 where
  pub choice : ℕ
  pub within : choice < n
  pub there : AtSetting (get_or lands choice 0) got s

-- that an operation leads to from a state of setting x with one of sets
pub record Leaves (net : Network) (x sets s : ℕ) : Type 0 where
  pub before : ℕ
  pub small : before < 16
  pub is : word_bit sets before ≡ true
  pub choice : ℕ
  pub within : choice < count net x
  pub to_is : goes net x (reached net x before) choice ≡ s

-- that an operation leads to from a state of layer i
abbrev pub Next : Network → ℕ → List ℕ → ℕ → ℕ → Type 0
Next net start tab i s = Stepped (sys_of net) (layers_of start tab) i s

-- a start in a setting of the network, and the number of all targets, of which there is one at least
pub record SearchStarts (net : Network) (start full : ℕ) : Type 0 where
  pub within : start < 3 ^ length (steering_bits net.nodes)
  pub all : full ≡ all_of net.targets
  pub one : 1 ≤ full

-- layer r is the first with a goal
pub record MetAt (net : Network) (start : ℕ) (tab : List ℕ) (r : ℕ) : Type 0 where
  pub first : 0 < r
  pub most : r ≤ 16
  pub layers : Layers (sys_of net) start (layers_of start tab) r
  pub goal : (s : ℕ) × (layers_of start tab r s ≡ true) × ((sys_of net).goal s ≡ true)
  pub known : Known net start tab r

-- the first layer with a goal, or none up to layer 16 has one
abbrev pub Met : Network → ℕ → List ℕ → Option ℕ → Type 0
Met net start tab r = MatchOption r (plan_up_to (sys_of net) 16 start ≡ none) (MetAt net start tab)
