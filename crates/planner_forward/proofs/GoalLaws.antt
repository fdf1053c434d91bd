-- Laws of the goals of a slot.
-- Assumes nothing.
use mathlib.Core.Path.{◌≡◌, refl, sym, ap, ◌∙◌}
use mathlib.Core.Bool.{Bool, true, false}
use mathlib.Core.List.{List}
use Prim.Native.Nat.{ℕ, ◌+◌, ◌*◌, ◌/◌, ◌%◌, ◌^◌, ◌≤◌, ◌<◌}
use native.Mathlib.Omega.{arith}
use native.Mathlib.Decide.{dec_lt}
use borrow.Author.Tests.{eq-eqb, eqb-true}
use lib.Dec.{eqb, ltb}
use lib.ListN.{length, get_or}
use Rattle.model.specs.Network.{Network, steering_bits}
use Rattle.model.proofs.Lists.{true_false, and_both, and_parts}
use Rattle.network_words.specs.Words.{word_bit}
use Rattle.network_words.proofs.WordLaws.{zero_bit}
use Rattle.planner_theory.specs.Moves.{all_of, count, sys_of}
use Rattle.planner_table.specs.Table.{in_slot, SlotKnown, Skipped}
use Rattle.planner_forward.specs.Goals.{SetsIn, goal_with, GoalIn}
use Rattle.planner_table.proofs.SlotLaws.{slot_at}

-- ---- a slot

pub slot_word : (tab : List ℕ) (i s : ℕ) → in_slot tab i s ≡ true → word_bit (get_or tab (i * 729 + s / 16) 0) (s % 16) ≡ true
slot_word tab i s e = (and_parts (ltb s 11664) (word_bit (get_or tab (i * 729 + s / 16) 0) (s % 16)) e).1

module _ (net : Network) (full : ℕ) (all : full ≡ all_of net.targets) (small : full < 16) (tab : List ℕ) (i : ℕ) where
  pub goal_there : (x : ℕ) → x < 729 → goal_with net full x (get_or tab (i * 729 + x) 0) ≡ true → GoalIn net tab i true
  goal_there x lt e = record { some_goal = λ r. (x * 16 + full, slot_at tab i x full lt small ∙ b.0, is); no_goal = λ r. absurd (true_false r) }
    where
      b : (word_bit (get_or tab (i * 729 + x) 0) full ≡ true) × (ltb 0 (count net x) ≡ true)
      b = and_parts (word_bit (get_or tab (i * 729 + x) 0) full) (ltb 0 (count net x)) e

      is : (sys_of net).goal (x * 16 + full) ≡ true
      is =
          let z : (x * 16 + full) / 16 ≡ x = omega arith in
          let w : (x * 16 + full) % 16 ≡ full = omega arith in
          and_both (ltb 0 (count net ((x * 16 + full) / 16))) (eqb ((x * 16 + full) % 16) (all_of net.targets)) (rw z b.1) (eq-eqb ((x * 16 + full) % 16) (all_of net.targets) (w ∙ all))

  -- a goal has the set of all targets
  goal_full : (s : ℕ) → (sys_of net).goal s ≡ true → (s % 16 ≡ full) × (ltb 0 (count net (s / 16)) ≡ true)
  goal_full s q =
      let b = and_parts (ltb 0 (count net (s / 16))) (eqb (s % 16) (all_of net.targets)) q in
      (eqb-true (s % 16) (all_of net.targets) b.1 ∙ sym all, b.0)

  pub goal_nowhere : (x : ℕ) → 3 ^ length (steering_bits net.nodes) ≤ x → SlotKnown net tab i → ((y : ℕ) → y < x → goal_with net full y (get_or tab (i * 729 + y) 0) ≡ false) → GoalIn net tab i false
  goal_nowhere x end known off = record { some_goal = λ r. absurd (true_false (sym r)); no_goal = λ r s e. no s e ((sys_of net).goal s) refl }
    where
      no : (s : ℕ) → in_slot tab i s ≡ true → (t : Bool) → (sys_of net).goal s ≡ t → t ≡ false
      no s e false q = refl
      no s e true q =
          let b = goal_full s q in
          let w : word_bit (get_or tab (i * 729 + s / 16) 0) full ≡ true = ap (word_bit (get_or tab (i * 729 + s / 16) 0)) (sym b.0) ∙ slot_word tab i s e in
          absurd (true_false (sym (and_both (word_bit (get_or tab (i * 729 + s / 16) 0) full) (ltb 0 (count net (s / 16))) w b.1) ∙ off (s / 16) (omega (arith, known s e))))
