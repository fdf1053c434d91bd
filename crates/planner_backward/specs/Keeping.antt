-- What is kept of the layers: the states that lead to a goal in the last.
-- Assumes nothing.
use Rattle.std.specs.Prelude.{◌≡◌, Bool, cond, ◌&&◌, List, ℕ, ◌+◌, ◌*◌, ◌-◌, ◌≤◌, ◌<◌, eqb, length, get_or}
use Rattle.model.specs.Limits.{max_settings, search_size}
use Rattle.model.specs.Network.{Network}
use Rattle.network_words.specs.Words.{word_bit}
use Rattle.planner_theory.specs.Moves.{sys_of}
use Rattle.planner_theory.specs.Layers.{can, some_of}
use Rattle.planner_table.specs.Table.{in_slot, layers_of, OnlySlot}
use Rattle.planner_forward.specs.Spreading.{MetAt}

-- slot i with the states that pass the test
pub record Filtered (test : ℕ → Bool) (i : ℕ) (tab tab' : List ℕ) : Type 0 where
  pub slot : (s : ℕ) → in_slot tab' i s ≡ (in_slot tab i s && test s)
  pub only : OnlySlot i tab tab'

-- of sets, those with which setting x passes the test
abbrev pub FilteredSets : (ℕ → Bool) → ℕ → ℕ → ℕ → Type 0
FilteredSets test x sets r = (m : ℕ) → m < 16 → word_bit r m ≡ (word_bit sets m && test (x * 16 + m))

-- a choice leads from state s into slot i
abbrev pub enters : Network → List ℕ → ℕ → ℕ → Bool
enters net tab i s = some_of (λ c. in_slot tab i ((sys_of net).to s c)) 0 ((sys_of net).choices s)

-- what is kept of slot i of d: the goals of the last, and those from which a choice leads into the next
abbrev pub leads : Network → List ℕ → ℕ → ℕ → ℕ → Bool
leads net tab d i s = cond (eqb (i + 1) d) ((sys_of net).goal s) (enters net tab (i + 1) s)

-- all that n choices lead to in slot i
abbrev pub UnionOf : List ℕ → ℕ → List ℕ → ℕ → ℕ → Type 0
UnionOf tab i lands n r = (m : ℕ) → m < 16 → word_bit r m ≡ some_of (λ c. word_bit (get_or tab (i * max_settings + get_or lands c 0) 0) m) 0 n

-- layers 1 to d with the states from which a plan of the operations left exists
pub record Useful (net : Network) (start d : ℕ) (tab tab' : List ℕ) : Type 0 where
  pub kept : (j s : ℕ) → 1 ≤ j → j ≤ d → layers_of start tab' j s ≡ (layers_of start tab j s && can (sys_of net) (d - j) s)
  pub size : length tab' ≡ length tab
  pub beyond : (n : ℕ) → search_size ≤ n → get_or tab' n 0 ≡ get_or tab n 0

-- what the way along the states kept asks: a table of layers 1 to d that has been so kept, d being the least count of operations
pub record Kept (net : Network) (start d : ℕ) (tab : List ℕ) : Type 0 where
  pub before : List ℕ
  pub met : MetAt net start before d
  pub useful : Useful net start d before tab
