-- Counts over the words of steering bits.
-- Assumes nothing.
use Rattle.std.specs.Prelude.{List, ℕ, zero, suc, ◌+◌, get_or}
use Rattle.model.specs.Network.{len_of}
use Rattle.model.specs.Path.{bit_value}
use Rattle.network_words.specs.Words.{word_bit}
use Rattle.network_path.specs.Layout.{node_at}

-- the bits that are set in a word from bit b on, among n bits
unfoldable pub count_in : ℕ → ℕ → ℕ → ℕ
count_in w b zero = 0
count_in w b (suc n) = bit_value (word_bit w b) + count_in w (suc b) n

-- and in the words of segments s on, n nodes
unfoldable pub count_from : List ℕ → List ℕ → ℕ → ℕ → ℕ
count_from ns steering s zero = 0
count_from ns steering s (suc n) = count_in (get_or steering s 0) 0 (len_of (node_at ns s)) + count_from ns steering (suc s) n
