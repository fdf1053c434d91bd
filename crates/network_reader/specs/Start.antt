-- What filling the start leaves in the words.
-- Assumes nothing.
use Rattle.std.specs.Prelude.{◌≡◌, cond, List, ℕ, ◌-◌, ◌^◌, ◌≤◌, length, get_or, eqb}
use Rattle.model.specs.Network.{len_of}
use Rattle.network_path.specs.Layout.{node_at}
use Rattle.network_draft.specs.Represents.{Arrays}

-- the known marks of a segment of len bits without RESET and `hold`, by its word of steering bits
abbrev pub free_marks : ℕ → ℕ → ℕ
free_marks steering len = cond (eqb steering 0) 0 (2 ^ len - 1)

-- the two words of segment s once it is filled
abbrev pub start_bits : Arrays → ℕ → ℕ
start_bits a s = cond (eqb (get_or a.held s 0) 0) 0 (get_or a.bits s 0)

abbrev pub start_marks : Arrays → ℕ → ℕ
start_marks a s = cond (eqb (get_or a.held s 0) 0) (free_marks (get_or a.steering s 0) (len_of (node_at a.nodes s))) (get_or a.known s 0)

-- one segment is filled, the others are as they were
pub record OneFilled (a : Arrays) (s : ℕ) (bits known : List ℕ) : Type 0 where
  pub bits_size : length bits ≡ length a.bits
  pub known_size : length known ≡ length a.known
  pub word : get_or bits s 0 ≡ start_bits a s
  pub mark : get_or known s 0 ≡ start_marks a s
  pub bits_others : (r : ℕ) → (r ≡ s → ⊥) → get_or bits r 0 ≡ get_or a.bits r 0
  pub known_others : (r : ℕ) → (r ≡ s → ⊥) → get_or known r 0 ≡ get_or a.known r 0

-- segments 1 to count are filled, the other words are as they were
pub record StartFilled (a : Arrays) (count : ℕ) (bits known : List ℕ) : Type 0 where
  pub bits_size : length bits ≡ length a.bits
  pub known_size : length known ≡ length a.known
  pub words : (s : ℕ) → 1 ≤ s → s ≤ count → get_or bits s 0 ≡ start_bits a s
  pub marks : (s : ℕ) → 1 ≤ s → s ≤ count → get_or known s 0 ≡ start_marks a s
  pub bits_others : (s : ℕ) → (1 ≤ s → s ≤ count → ⊥) → get_or bits s 0 ≡ get_or a.bits s 0
  pub known_others : (s : ℕ) → (1 ≤ s → s ≤ count → ⊥) → get_or known s 0 ≡ get_or a.known s 0
