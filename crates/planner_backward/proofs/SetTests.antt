-- Laws of what is kept of the sets of a setting: the goal, and the sets with which a choice leads into the next slot.
-- Assumes nothing.
use mathlib.Core.Path.{◌≡◌, refl, sym, ap, ◌∙◌}
use mathlib.Core.Bool.{Bool, true, false, cond, ◌&&◌, ◌||◌}
use mathlib.Core.List.{List}
use Prim.Native.Nat.{ℕ, suc, ◌+◌, ◌*◌, ◌/◌, ◌%◌, ◌^◌, ◌<◌}
use native.Mathlib.Numerals.{add-one}
use native.Mathlib.Nat.{zero-add}
use native.Mathlib.Omega.{arith}
use lib.Dec.{eqb, ltb}
use lib.Bits.{bit_or, or_lt}
use lib.ListN.{get_or}
use borrow.Author.Tests.{lt-ltb, eq-eqb, ne_eqb, eqb-true, eqb-false}
use Rattle.model.specs.Network.{Network}
use Rattle.model.proofs.Lists.{and_false_right}
use Rattle.network_words.specs.Words.{word_bit}
use Rattle.network_words.proofs.WordLaws.{zero_bit}
use Rattle.network_words.proofs.WordTests.{word_bit_or, word_bit_pow}
use Rattle.planner_theory.specs.Moves.{all_of, count, gain, land, reached, goes, sys_of}
use Rattle.planner_theory.specs.Layers.{some_of}
use Rattle.planner_theory.proofs.Forward.{some_of_same, some_of_snoc}
use Rattle.planner_rows.specs.Rows.{LandsOf}
use Rattle.planner_table.specs.Table.{in_slot, Others}
use Rattle.planner_backward.specs.Keeping.{FilteredSets, enters, leads, UnionOf}
use Rattle.planner_table.proofs.SlotLaws.{slot_at, slot_other}

-- ---- the goal

module _ (net : Network) (x full sets : ℕ) (all : full ≡ all_of net.targets) where
  goal_at : (m : ℕ) → m < 16 → (sys_of net).goal (x * 16 + m) ≡ (ltb 0 (count net x) && eqb m full)
  goal_at m lt =
      let ed : (x * 16 + m) / 16 ≡ x = omega arith in
      let em : (x * 16 + m) % 16 ≡ m = omega arith in
      rw (ed, em, all)

  -- a set other than that of all targets
  goal_other : (m : ℕ) → m < 16 → eqb m full ≡ false → (sys_of net).goal (x * 16 + m) ≡ false
  goal_other m lt e = goal_at m lt ∙ rw e (and_false_right (ltb 0 (count net x)))

  -- the goal is there
  pub goal_alone : full < 16 → word_bit sets full ≡ true → (count net x ≡ 0 → ⊥) → FilteredSets (sys_of net).goal x sets (2 ^ full)
  goal_alone small on ne m lt = word_bit_pow full m ∙ by (eqb m full) refl
    where
      by : (t : Bool) → eqb m full ≡ t → eqb full m ≡ (word_bit sets m && (sys_of net).goal (x * 16 + m))
      by true e =
          let z : m ≡ full = eqb-true m full e in
          let g : (sys_of net).goal (x * 16 + m) ≡ true = goal_at m lt ∙ rw (lt-ltb 0 (count net x) (omega arith), e) in
          let s : word_bit sets m ≡ true = ap (word_bit sets) z ∙ on in
          rw (g, s) (eq-eqb full m (sym z))
      by false e = rw (goal_other m lt e) (ne_eqb full m (λ z. eqb-false m full e (sym z)) ∙ sym (and_false_right (word_bit sets m)))

-- ---- the sets that the choices lead to

pub union_none : (tab : List ℕ) (i : ℕ) (lands : List ℕ) → UnionOf tab i lands 0 0
unfolding some_of
union_none tab i lands m lt = zero_bit m

pub union_more : (tab : List ℕ) (i : ℕ) (lands : List ℕ) (c all : ℕ) → UnionOf tab i lands c all → UnionOf tab i lands (c + 1) (bit_or all (get_or tab (i * 729 + get_or lands c 0) 0))
union_more tab i lands c all h m lt =
    let f : ℕ → Bool = λ d. word_bit (get_or tab (i * 729 + get_or lands d 0) 0) m in
    let last : some_of f 0 (suc c) ≡ (some_of f 0 c || f c) = some_of_snoc f 0 c ∙ ap (λ (d : ℕ). some_of f 0 c || f d) (zero-add c) in
    word_bit_or all (get_or tab (i * 729 + get_or lands c 0) 0) m ∙ ap (λ (t : Bool). t || f c) (h m lt) ∙ sym last ∙ ap (some_of f 0) (sym (add-one c))

-- ---- the sets with which a choice leads into a slot

-- what a choice leads to from setting x with the targets m
pub into_slot : (net : Network) (tab : List ℕ) (i x m c : ℕ) → m < 16 → land net x c < 729 → reached net x m < 16
    → in_slot tab i ((sys_of net).to (x * 16 + m) c) ≡ word_bit (get_or tab (i * 729 + land net x c) 0) (reached net x m)
into_slot net tab i x m c lt small got =
    let ed : (x * 16 + m) / 16 ≡ x = omega arith in
    let em : (x * 16 + m) % 16 ≡ m = omega arith in
    let to_is : (sys_of net).to (x * 16 + m) c ≡ goes net x (reached net x m) c = rw (ed, em) in
    ap (in_slot tab i) to_is ∙ slot_at tab i (land net x c) (reached net x m) small got

module _ (net : Network) (tab : List ℕ) (i x n : ℕ) (lands : List ℕ) (sets all g r : ℕ)
    (within : (c : ℕ) → land net x c < 729) (gains : gain net x < 16) (of : LandsOf net x n lands) (union : UnionOf tab i lands n all) (g-is : g ≡ gain net x) where
  enters_at : (m : ℕ) → m < 16 → enters net tab i (x * 16 + m) ≡ word_bit all (reached net x m)
  enters_at m lt =
      let ed : (x * 16 + m) / 16 ≡ x = omega arith in
      let got : reached net x m < 16 = or_lt 4 m (gain net x) lt gains in
      ap (λ (y : ℕ). some_of (λ c. in_slot tab i ((sys_of net).to (x * 16 + m) c)) 0 (count net y)) ed
      ∙ ap (some_of (λ c. in_slot tab i ((sys_of net).to (x * 16 + m) c)) 0) (sym of.count_is)
      ∙ some_of_same (λ c. in_slot tab i ((sys_of net).to (x * 16 + m) c)) (λ c. word_bit (get_or tab (i * 729 + get_or lands c 0) 0) (reached net x m)) 0 n
      (λ c a b. into_slot net tab i x m c lt (within c) got ∙ ap (λ (y : ℕ). word_bit (get_or tab (i * 729 + y) 0) (reached net x m)) (sym (of.lands_are c (omega arith))))
      ∙ sym (union (reached net x m) got)

  pub useful_are : ((m : ℕ) → m < 16 → word_bit r m ≡ (word_bit sets m && word_bit all (bit_or m g))) → FilteredSets (enters net tab i) x sets r
  useful_are h m lt =
      h m lt ∙ ap (λ (q : ℕ). word_bit sets m && word_bit all (bit_or m q)) g-is ∙ ap (λ (t : Bool). word_bit sets m && t) (sym (enters_at m lt))

-- ---- what is kept of a slot

module _ (net : Network) (tab : List ℕ) (d i : ℕ) where
  pub leads_last : i + 1 ≡ d → (s : ℕ) → leads net tab d i s ≡ (sys_of net).goal s
  leads_last e s = rw (eq-eqb (i + 1) d e)

  pub leads_before : (i + 1 ≡ d → ⊥) → (s : ℕ) → leads net tab d i s ≡ enters net tab (i + 1) s
  leads_before ne s = rw (ne_eqb (i + 1) d ne)

pub filtered_by : (f g : ℕ → Bool) → ((s : ℕ) → f s ≡ g s) → (x sets r : ℕ) → FilteredSets g x sets r → FilteredSets f x sets r
filtered_by f g e x sets r h m lt = h m lt ∙ ap (λ (t : Bool). word_bit sets m && t) (sym (e (x * 16 + m)))

-- the slots beside the one that is rewritten tell it
pub leads_same : (net : Network) (old new : List ℕ) (d i s : ℕ) → Others i old new → leads net old d i s ≡ leads net new d i s
leads_same net old new d i s others =
    ap (cond (eqb (i + 1) d) ((sys_of net).goal s))
    (some_of_same (λ c. in_slot old (i + 1) ((sys_of net).to s c)) (λ c. in_slot new (i + 1) ((sys_of net).to s c)) 0 ((sys_of net).choices s)
    (λ c a b. sym (slot_other old new i (i + 1) ((sys_of net).to s c) others (λ z. omega arith))))
