-- Laws of the counts: each loop's step, and that the words count the model's distinct steering bits.
-- Assumes nothing.
use mathlib.Core.Path.{◌≡◌, refl, sym, ap, ◌∙◌}
use mathlib.Core.Bool.{Bool, true, false, cond}
use mathlib.Core.List.{List, ◌∷◌}
use Prim.Native.Nat.{ℕ, zero, suc, ◌+◌, ◌-◌, ◌≤◌, ◌<◌}
use native.Mathlib.Omega.{arith}
use lib.ListN.{length, get_or, length-append}
use Rattle.model.specs.Network.{Node, len_of, tabulate, steers, steering_in, steering_from, steering_bits}
use Rattle.model.specs.Path.{bit_value}
use Rattle.network_words.specs.Words.{word_width, word_bit}
use Rattle.network_path.specs.Layout.{node_at, nodes_of}
use Rattle.network_draft.specs.Represents.{Short}
use Rattle.network_reader.specs.Counts.{count_in, count_from}

pub count_step : (w b len : ℕ) → b < len → count_in w b (len - b) ≡ bit_value (word_bit w b) + count_in w (b + 1) (len - (b + 1))
unfolding count_in
count_step w b len l = let e : len - b ≡ suc (len - (b + 1)) = omega arith in let f : b + 1 ≡ suc b = omega arith in rw (e, f) refl

pub sum_step : (ns steering : List ℕ) (s count : ℕ) → s ≤ count
    → count_from ns steering s (count + 1 - s) ≡ count_in (get_or steering s 0) 0 (len_of (node_at ns s)) + count_from ns steering (s + 1) (count + 1 - (s + 1))
unfolding count_from
sum_step ns steering s count l = let e : count + 1 - s ≡ suc (count + 1 - (s + 1)) = omega arith in let f : s + 1 ≡ suc s = omega arith in rw (e, f) refl

-- segment s is counted, by its LEN
pub sum_more : (ns steering : List ℕ) (s count len sum k total : ℕ) → s ≤ count → len ≡ len_of (node_at ns s) → k ≡ count_in (get_or steering s 0) 0 len
    → sum + count_from ns steering s (count + 1 - s) ≡ total → sum + k + count_from ns steering (s + 1) (count + 1 - (s + 1)) ≡ total
sum_more ns steering s count len sum k total h l e i =
    let f : count_in (get_or steering s 0) 0 len ≡ count_in (get_or steering s 0) 0 (len_of (node_at ns s)) = ap (count_in (get_or steering s 0) 0) l in
    omega (arith, sum_step ns steering s count h)

-- everything is left
pub count_start : (w len : ℕ) → 0 + count_in w 0 (len - 0) ≡ count_in w 0 len
count_start w len = let e : len - 0 ≡ len = omega arith in omega (arith, ap (count_in w 0) e)

pub sum_start : (ns steering : List ℕ) (count : ℕ) → 0 + count_from ns steering 1 (count + 1 - 1) ≡ count_from ns steering 1 count
sum_start ns steering count = let e : count + 1 - 1 ≡ count = omega arith in omega (arith, ap (count_from ns steering 1) e)

-- nothing is left
pub count_end : (w b len : ℕ) → len ≤ b → count_in w b (len - b) ≡ 0
unfolding count_in
count_end w b len l = let e : len - b ≡ 0 = omega arith in rw e refl

pub sum_end : (ns steering : List ℕ) (s count : ℕ) → count < s → count_from ns steering s (count + 1 - s) ≡ 0
unfolding count_from
sum_end ns steering s count l = let e : count + 1 - s ≡ 0 = omega arith in rw e refl

module _ (all : List Node) (w s : ℕ) (same : (b : ℕ) → b < word_width → word_bit w b ≡ steers all s b) where
  counts_in : (n b : ℕ) → b + n ≤ word_width → count_in w b n ≡ length (steering_in all s b n)
  unfolding count_in steering_in
  counts_in zero b l = refl
  counts_in (suc n) b l = ap (λ (t : Bool). bit_value t + count_in w (suc b) n) (same b (omega arith)) ∙ go (steers all s b) (counts_in n (suc b) (omega arith))
    where
      go : (t : Bool) → count_in w (suc b) n ≡ length (steering_in all s (suc b) n)
          → bit_value t + count_in w (suc b) n ≡ length (cond t ((s, b) ∷ steering_in all s (suc b) n) (steering_in all s (suc b) n))
      go true e = omega (arith, e)
      go false e = omega (arith, e)

module _ (ns steering : List ℕ) (count : ℕ) (most : count ≤ 128) (short : Short ns count)
    (same : (s b : ℕ) → s ≤ 128 → b < word_width → word_bit (get_or steering s 0) b ≡ steers (nodes_of ns count) s b) where
  counts_from : (n s : ℕ) → 1 ≤ s → s + n ≤ count + 1 → count_from ns steering s n ≡ length (steering_from (nodes_of ns count) s (tabulate (node_at ns) s n))
  unfolding count_from steering_from
  counts_from zero s a l = refl
  counts_from (suc n) s a l =
      let h = counts_in (nodes_of ns count) (get_or steering s 0) s (λ b m. same s b (omega arith) m) (len_of (node_at ns s)) 0 (omega (arith, short s a (omega arith))) in
      let r = counts_from n (suc s) (omega arith) (omega arith) in
      rw (h, r) (sym (length-append (steering_in (nodes_of ns count) s 0 (len_of (node_at ns s))) (steering_from (nodes_of ns count) (suc s) (tabulate (node_at ns) (suc s) n))))

  pub counts_steering : count_from ns steering 1 count ≡ length (steering_bits (nodes_of ns count))
  counts_steering = counts_from count 1 (omega arith) (omega arith)
