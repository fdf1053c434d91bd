-- Sets of sets of targets: a set of targets is a number below 16, and a word has a bit for each of them.
-- Assumes nothing.
use Rattle.std.specs.Prelude.{◌≡◌, true, ℕ, ◌<◌}
use Rattle.std.specs.Int.Bits.{bit_or}
use Rattle.network_words.specs.Words.{word_bit}

-- a member of sets that with g makes y
pub record Before (sets g y : ℕ) : Type 0 where
  pub from : ℕ
  pub small : from < 16
  pub is : word_bit sets from ≡ true
  pub makes : bit_or from g ≡ y

-- r has each member of sets together with g, and nothing else
pub record Joined (sets g r : ℕ) : Type 0 where
  pub has : (m : ℕ) → m < 16 → word_bit sets m ≡ true → word_bit r (bit_or m g) ≡ true
  pub from : (y : ℕ) → y < 16 → word_bit r y ≡ true → Before sets g y
