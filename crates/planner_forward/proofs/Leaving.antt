-- Laws of what leaves a layer, and of the sets of targets with which it does: setting by setting, and for layer 0 from the start
-- alone.
-- Assumes nothing.
use mathlib.Core.Path.{◌≡◌, refl, sym, ap, ◌∙◌, subst}
use mathlib.Core.Bool.{true, ◌||◌}
use mathlib.Core.Logic.{◌⊎◌, inl, inr}
use mathlib.Core.List.{List}
use Prim.Native.Nat.{ℕ, ◌+◌, ◌*◌, ◌-◌, ◌/◌, ◌%◌, ◌^◌, ◌≤◌, ◌<◌}
use native.Mathlib.Omega.{arith}
use native.Mathlib.Decide.{dec_lt}
use borrow.Author.Tests.{eq-eqb, eqb-true}
use lib.Bits.{bit_or}
use lib.ListN.{length, get_or}
use Rattle.model.specs.Network.{Network, steering_bits}
use Rattle.model.proofs.Lists.{true_false, or_left, or_right}
use Rattle.network_words.specs.Words.{word_bit}
use Rattle.network_words.proofs.WordLaws.{zero_bit}
use Rattle.network_words.proofs.WordTests.{word_bit_or, word_bit_pow}
use Rattle.planner_theory.specs.Moves.{count, reached, goes}
use Rattle.planner_table.specs.Table.{layers_of, Known, Skipped}
use Rattle.planner_forward.specs.Goals.{SetsIn}
use Rattle.planner_forward.specs.Spreading.{Spread, Leaves, Next}
use Rattle.planner_forward.proofs.SpreadLaws.{spread_more, spread_as}
use Rattle.planner_table.proofs.SlotLaws.{layer_slot, slot_at}
use Rattle.planner_forward.proofs.GoalLaws.{slot_word}

-- what leaves slot j from a setting below x
pub record LeftBelow (net : Network) (tab : List ℕ) (j x s : ℕ) : Type 0 where
  pub setting : ℕ
  pub below : setting < x
  pub leaves : Leaves net setting (get_or tab (j * 729 + setting) 0) s

-- nothing leaves the empty set
nothing_leaves : (net : Network) (x sets s : ℕ) → sets ≡ 0 → Leaves net x sets s → ⊥
nothing_leaves net x sets s z a = true_false (sym a.is ∙ ap (λ (w : ℕ). word_bit w a.before) z ∙ zero_bit a.before)

-- below x + 1 is below x or at x
below_or_at : (net : Network) (tab : List ℕ) (j x sets : ℕ) → sets ≡ get_or tab (j * 729 + x) 0 → (s : ℕ) → LeftBelow net tab j (x + 1) s → LeftBelow net tab j x s ⊎ Leaves net x sets s
below_or_at net tab j x sets e s a = elim (dec_lt a.setting x) [
  | yes h ↦ inl (record { setting = a.setting; below = h; leaves = a.leaves })
  | no h ↦ let z : a.setting ≡ x = omega (arith, a.below) in
      inr (subst (λ (w : ℕ). Leaves net x w s) (sym e) (subst (λ (y : ℕ). Leaves net y (get_or tab (j * 729 + y) 0) s) z a.leaves))
]

module _ (net : Network) (tab : List ℕ) (j i : ℕ) where
  module _ (x : ℕ) (seen tab' seen' : List ℕ) (p : Spread (LeftBelow net tab j x) i tab seen tab' seen') where
    pub left_more : (sets : ℕ) (tab'' seen'' : List ℕ) → sets ≡ get_or tab (j * 729 + x) 0 → Spread (Leaves net x sets) i tab' seen' tab'' seen'' → Spread (LeftBelow net tab j (x + 1)) i tab seen tab'' seen''
    left_more sets tab'' seen'' e q =
        spread_more (LeftBelow net tab j x) (Leaves net x sets) (LeftBelow net tab j (x + 1)) i tab seen tab' seen' tab'' seen'' (below_or_at net tab j x sets e)
        (λ s a. record { setting = a.setting; below = omega (arith, a.below); leaves = a.leaves })
        (λ s a. record { setting = x; below = omega arith; leaves = subst (λ (w : ℕ). Leaves net x w s) e a })
        p q

-- their sets, setting by setting
module _ (net : Network) (tab : List ℕ) (j : ℕ) where
  module _ (x all : ℕ) (p : SetsIn (LeftBelow net tab j x) all) where
    pub sets_more : (sets got : ℕ) → sets ≡ get_or tab (j * 729 + x) 0 → SetsIn (Leaves net x sets) got → SetsIn (LeftBelow net tab j (x + 1)) (bit_or all got)
    sets_more sets got e q s a = word_bit_or all got (s % 16) ∙ by (below_or_at net tab j x sets e s a)
      where
        by : LeftBelow net tab j x s ⊎ Leaves net x sets s → (word_bit all (s % 16) || word_bit got (s % 16)) ≡ true
        by (inl b) = or_left (word_bit all (s % 16)) (word_bit got (s % 16)) (p s b)
        by (inr b) = or_right (word_bit all (s % 16)) (word_bit got (s % 16)) (q s b)

-- settings without a state: nothing leaves them
module _ (net : Network) (tab : List ℕ) (j i x : ℕ) (seen tab' seen' : List ℕ) (p : Spread (LeftBelow net tab j x) i tab seen tab' seen') where
  module _ (end r : ℕ) (before : j < i) (small : end ≤ 729) (k : Skipped tab' (j * 729) x end r) where
    below_gap : (s : ℕ) → LeftBelow net tab j r s → LeftBelow net tab j x s
    below_gap s a = elim (dec_lt a.setting x) [
      | yes h ↦ record { setting = a.setting; below = h; leaves = a.leaves }
      | no h ↦
          let same = p.only.others (j * 729 + a.setting) (inl (omega (arith, a.below, k.most))) in
          absurd (nothing_leaves net a.setting (get_or tab (j * 729 + a.setting) 0) s (sym same ∙ k.empty a.setting (omega arith) a.below) a.leaves)
    ]

    pub left_skip : Spread (LeftBelow net tab j r) i tab seen tab' seen'
    left_skip =
        spread_as (LeftBelow net tab j x) (LeftBelow net tab j r) i tab seen tab' seen'
        (λ s a. record { setting = a.setting; below = omega (arith, a.below, k.least); leaves = a.leaves }) below_gap p

    pub sets_skip : (all : ℕ) → SetsIn (LeftBelow net tab j x) all → SetsIn (LeftBelow net tab j r) all
    sets_skip all q s a = q s (below_gap s a)

-- what leaves layer i leaves a setting of the network
next_left : (net : Network) (start : ℕ) (tab : List ℕ) (i x : ℕ) → 1 ≤ i → 3 ^ length (steering_bits net.nodes) ≤ x → Known net start tab i → (s : ℕ) → Next net start tab i s → LeftBelow net tab (i - 1) x s
next_left net start tab i x least end known s a = record {
  setting = a.from / 16;
  below = omega (arith, known i a.from (omega arith) a.is);
  leaves = record {
    before = a.from % 16;
    small = omega arith;
    is = slot_word tab (i - 1) a.from (sym (layer_slot start tab (i - 1) i a.from (omega arith)) ∙ a.is);
    choice = a.choice;
    within = a.within;
    to_is = a.to_is;
  };
}

pub sets_all : (net : Network) (start : ℕ) (tab : List ℕ) (i x all : ℕ) → 1 ≤ i → 3 ^ length (steering_bits net.nodes) ≤ x → Known net start tab i → SetsIn (LeftBelow net tab (i - 1) x) all → SetsIn (Next net start tab i) all
sets_all net start tab i x all least end known p s a = p s (next_left net start tab i x least end known s a)

-- all settings: what leaves layer i
pub left_all : (net : Network) (start : ℕ) (tab : List ℕ) (i x : ℕ) (seen tab' seen' : List ℕ) → 1 ≤ i → x ≤ 729 → 3 ^ length (steering_bits net.nodes) ≤ x → Known net start tab i
    → Spread (LeftBelow net tab (i - 1) x) i tab seen tab' seen' → Spread (Next net start tab i) i tab seen tab' seen'
left_all net start tab i x seen tab' seen' least most end known = spread_as (LeftBelow net tab (i - 1) x) (Next net start tab i) i tab seen tab' seen' to (next_left net start tab i x least end known)
  where
    to : (s : ℕ) → LeftBelow net tab (i - 1) x s → Next net start tab i s
    to s a =
        let b = a.leaves in
        let f = a.setting * 16 + b.before in
        let small : b.before < 16 = b.small in
        let y : f / 16 ≡ a.setting = omega arith in
        let m : f % 16 ≡ b.before = omega arith in
        record {
          from = f;
          is = layer_slot start tab (i - 1) i f (omega arith) ∙ slot_at tab (i - 1) a.setting b.before (omega (arith, a.below)) small ∙ b.is;
          choice = b.choice;
          within = subst (λ (n : ℕ). b.choice < count net n) (sym y) b.within;
          to_is = ap (λ (n : ℕ). goes net n (reached net n (f % 16)) b.choice) y ∙ ap (λ (n : ℕ). goes net a.setting (reached net a.setting n) b.choice) m ∙ b.to_is;
        }

-- what leaves layer 0 leaves the start, with no target reached
next_start : (net : Network) (start : ℕ) (tab : List ℕ) (s : ℕ) → Next net (start * 16) tab 0 s → Leaves net start 1 s
unfolding layers_of
next_start net start tab s a =
    let z : a.from ≡ start * 16 = eqb-true a.from (start * 16) a.is in
    let w : a.from / 16 ≡ start = omega arith in
    let m : a.from % 16 ≡ 0 = omega arith in
    record {
      before = 0;
      small = omega arith;
      is = refl;
      choice = a.choice;
      within = subst (λ (n : ℕ). a.choice < count net n) w a.within;
      to_is = ap (λ (n : ℕ). goes net start (reached net start n) a.choice) (sym m) ∙ ap (λ (n : ℕ). goes net n (reached net n (a.from % 16)) a.choice) (sym w) ∙ a.to_is;
    }

pub sets_start : (net : Network) (start : ℕ) (tab : List ℕ) (i got : ℕ) → i ≡ 0 → SetsIn (Leaves net start 1) got → SetsIn (Next net (start * 16) tab i) got
sets_start net start tab i got first p = subst (λ (n : ℕ). SetsIn (Next net (start * 16) tab n) got) (sym first) (λ s a. p s (next_start net start tab s a))

-- layer 0: the start, with no target reached
pub left_start : (net : Network) (start : ℕ) (tab : List ℕ) (i : ℕ) (seen tab' seen' : List ℕ) → i ≡ 0 → Spread (Leaves net start 1) i tab seen tab' seen' → Spread (Next net (start * 16) tab i) i tab seen tab' seen'
unfolding layers_of
left_start net start tab i seen tab' seen' first p =
    subst (λ (n : ℕ). Spread (Next net (start * 16) tab n) i tab seen tab' seen') (sym first)
    (spread_as (Leaves net start 1) (Next net (start * 16) tab 0) i tab seen tab' seen' to (next_start net start tab) p)
  where
    y : start * 16 / 16 ≡ start
    y = omega arith

    to : (s : ℕ) → Leaves net start 1 s → Next net (start * 16) tab 0 s
    to s a =
        let m : start * 16 % 16 ≡ a.before = (let z : start * 16 % 16 ≡ 0 = omega arith in z) ∙ eqb-true 0 a.before (sym (word_bit_pow 0 a.before) ∙ a.is) in
        record {
          from = start * 16;
          is = eq-eqb (start * 16) (start * 16) refl;
          choice = a.choice;
          within = subst (λ (n : ℕ). a.choice < count net n) (sym y) a.within;
          to_is = ap (λ (n : ℕ). goes net n (reached net n (start * 16 % 16)) a.choice) y ∙ ap (λ (n : ℕ). goes net start (reached net start n) a.choice) m ∙ a.to_is;
        }
