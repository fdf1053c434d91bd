-- Laws of the table of layers by slots: a state in a slot, and slots beside one that is rewritten.
-- Assumes nothing.
use mathlib.Core.Path.{◌≡◌, sym, ap, ◌∙◌}
use mathlib.Core.Bool.{false}
use mathlib.Core.Logic.{inl, inr}
use mathlib.Core.List.{List}
use Prim.Native.Nat.{ℕ, suc, ◌+◌, ◌*◌, ◌/◌, ◌%◌, ◌≤◌, ◌<◌}
use native.Mathlib.Omega.{arith}
use native.Mathlib.Decide.{dec_lt}
use lib.ListN.{get_or}
use borrow.Author.Tests.{lt-ltb, le-ltb}
use Rattle.network_words.specs.Words.{word_bit}
use Rattle.planner_table.specs.Table.{in_slot, layers_of, OutOfSlot, Others}

-- ---- a state in a slot

-- layer i + 1 is slot i
pub layer_slot : (start : ℕ) (tab : List ℕ) (i j s : ℕ) → j ≡ suc i → layers_of start tab j s ≡ in_slot tab i s
unfolding layers_of
layer_slot start tab i j s z = ap (λ (q : ℕ). layers_of start tab q s) z

-- the state of setting y with the targets m
pub slot_at : (tab : List ℕ) (i y m : ℕ) → y < 729 → m < 16 → in_slot tab i (y * 16 + m) ≡ word_bit (get_or tab (i * 729 + y) 0) m
slot_at tab i y m a b =
    let ed : (y * 16 + m) / 16 ≡ y = omega arith in
    let em : (y * 16 + m) % 16 ≡ m = omega arith in
    rw (lt-ltb (y * 16 + m) 11664 (omega arith), ed, em)

pub slot_beyond : (tab : List ℕ) (i s : ℕ) → 11664 ≤ s → in_slot tab i s ≡ false
slot_beyond tab i s le = rw (le-ltb s 11664 le)

pub slot_same : (old new : List ℕ) (i s : ℕ) → (s < 11664 → get_or new (i * 729 + s / 16) 0 ≡ get_or old (i * 729 + s / 16) 0) → in_slot new i s ≡ in_slot old i s
slot_same old new i s h =
    elim (dec_lt s 11664) [
      | yes lt ↦ rw (h lt)
      | no ge ↦ slot_beyond new i s (omega arith) ∙ sym (slot_beyond old i s (omega arith))
    ]

-- ---- a slot beside the one that is rewritten

out_of : (i j y : ℕ) → (j ≡ i → ⊥) → y < 729 → OutOfSlot i (j * 729 + y)
out_of i j y ne lt = elim (dec_lt j i) [ yes less ↦ inl (omega arith) | no more ↦ inr (omega arith) ]

pub slot_other : (old new : List ℕ) (i j s : ℕ) → Others i old new → (j ≡ i → ⊥) → in_slot new j s ≡ in_slot old j s
slot_other old new i j s others ne = slot_same old new j s (λ lt. others (j * 729 + s / 16) (out_of i j (s / 16) ne (omega arith)))
