-- Laws of the search space when it is cleared: its first entries are 0, and the others stay.
-- Assumes nothing.
use mathlib.Core.Path.{◌≡◌, refl, sym, ap, ◌∙◌}
use mathlib.Core.List.{List, ◌++◌}
use Prim.Native.Nat.{ℕ, ◌≤◌, ◌<◌, ◌+◌, ◌-◌}
use native.Mathlib.Omega.{arith}
use lib.ListN.{length, get_or, take, drop, replicate, length-append, length-drop, length-replicate, get_or-replicate, get_or-append}
use lib.Seq.{length-take-le, ext_get_or, get_or-drop, get_or-append-add}
use Rattle.model.specs.Calls.{write_over, search_entries}

entries : search_entries ≡ 11664
unfolding search_entries
entries = refl

-- zeros put over the first entries
pub zeros_put : (tab zeros : List ℕ) → 11664 ≤ length tab → zeros ≡ replicate (length (take 11664 tab)) 0 → zeros ++ drop 11664 tab ≡ write_over (replicate search_entries 0) tab
unfolding write_over
zeros_put tab zeros long e = by search_entries entries (e ∙ ap (λ (n : ℕ). replicate n 0) (length-take-le 11664 tab long ∙ sym entries))
  where
    by : (n : ℕ) → n ≡ 11664 → zeros ≡ replicate n 0 → zeros ++ drop 11664 tab ≡ write_over (replicate n 0) tab
    by n z e = rw (e, ← z) (simp length-replicate)

-- ---- the space cleared

zeros : ℕ → List ℕ
zeros n = replicate n 0

zeros_length : (n : ℕ) → length (zeros n) ≡ n
unfolding zeros
zeros_length n = length-replicate n 0

module _ (tab : List ℕ) where
  low : (n i : ℕ) → i < n → get_or (write_over (replicate n 0) tab) i 0 ≡ 0
  unfolding write_over zeros
  low n i lt = get_or-append (zeros n) (drop (length (zeros n)) tab) 0 i (omega (arith, zeros_length n)) ∙ get_or-replicate n i 0 0 lt

  high : (n i : ℕ) → n ≤ i → get_or (write_over (replicate n 0) tab) i 0 ≡ get_or tab i 0
  unfolding write_over zeros
  high n i le =
      let q : i ≡ length (zeros n) + (i - n) = omega (arith, zeros_length n) in
      ap (λ (k : ℕ). get_or (zeros n ++ drop (length (zeros n)) tab) k 0) q
      ∙ get_or-append-add (zeros n) (drop (length (zeros n)) tab) (i - n) 0
      ∙ get_or-drop (length (zeros n)) tab (i - n) 0
      ∙ ap (λ (k : ℕ). get_or tab k 0) (sym q)

  size : (n : ℕ) → n ≤ length tab → length (write_over (replicate n 0) tab) ≡ length tab
  unfolding write_over
  size n le = simp (length-append, length-drop, length-replicate) (omega arith)

  pub cleared_low : (i : ℕ) → i < 11664 → get_or (write_over (replicate search_entries 0) tab) i 0 ≡ 0
  cleared_low i lt = low search_entries i (omega (arith, entries))

  pub cleared_high : (i : ℕ) → 11664 ≤ i → get_or (write_over (replicate search_entries 0) tab) i 0 ≡ get_or tab i 0
  cleared_high i le = high search_entries i (omega (arith, entries))

  pub cleared_size : 11664 ≤ length tab → length (write_over (replicate search_entries 0) tab) ≡ length tab
  cleared_size le = size search_entries (omega (arith, entries))

-- ---- clearing hides what was written below

zeros_same : (n : ℕ) (old tab : List ℕ) → length tab ≡ length old → ((s : ℕ) → n ≤ s → get_or tab s 0 ≡ get_or old s 0) → write_over (replicate n 0) tab ≡ write_over (replicate n 0) old
unfolding write_over
zeros_same n old tab e b =
    simp length-replicate
    (ap (λ (l : List ℕ). replicate n 0 ++ l)
    (ext_get_or 0 (drop n tab) (drop n old) (length-drop n tab ∙ rw e (sym (length-drop n old)))
    (λ i lt. get_or-drop n tab i 0 ∙ b (n + i) (omega arith) ∙ sym (get_or-drop n old i 0))))

pub cleared_same : (old tab : List ℕ) → length tab ≡ length old → ((s : ℕ) → 11664 ≤ s → get_or tab s 0 ≡ get_or old s 0)
    → write_over (replicate search_entries 0) tab ≡ write_over (replicate search_entries 0) old
cleared_same old tab e b = zeros_same search_entries old tab e (λ s h. b s (omega (arith, entries)))

-- and so does clearing before
pub cleared_again : (old mid tab : List ℕ) → 11664 ≤ length old → mid ≡ write_over (replicate search_entries 0) old → length tab ≡ length mid
    → ((s : ℕ) → 11664 ≤ s → get_or tab s 0 ≡ get_or mid s 0) → write_over (replicate search_entries 0) tab ≡ write_over (replicate search_entries 0) old
cleared_again old mid tab long e size beyond =
    cleared_same old tab (size ∙ ap length e ∙ cleared_size old long) (λ s le. beyond s le ∙ ap (λ (l : List ℕ). get_or l s 0) e ∙ cleared_high old s le)
