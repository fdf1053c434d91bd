-- `planner_search::trace::first_choice` meets its contract. The invariant: no choice passed leads to a state of the slot.
-- Assumes nothing.
use Prim.Native.Nat.{ℕ, ◌+◌, ◌*◌, ◌<◌}
use mathlib.Core.Path.{◌≡◌}
use mathlib.Core.Bool.{true}
use lib.ListN.{get_or}
use Rattle.network_words.specs.Words.{word_bit}
use Rattle.planner_search.proofs.trace.first_choice.Given as goal

abbrev pub invariant-loop-c : goal.invariant-loop-c
invariant-loop-c l = (j : ℕ) → j < l.c → word_bit (get_or l.table (l.i * 729 + get_or l.lands j 0) 0) l.got ≡ true → ⊥
