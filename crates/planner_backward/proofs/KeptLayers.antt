-- Laws of the states kept: from the last layer back, a slot at a time.
-- Assumes nothing.
use mathlib.Core.Path.{◌≡◌, refl, sym, ap, ◌∙◌}
use mathlib.Core.Bool.{Bool, true, false, ◌&&◌}
use mathlib.Core.Logic.{inl, inr}
use mathlib.Core.List.{List}
use Prim.Native.Nat.{ℕ, suc, ◌+◌, ◌*◌, ◌/◌, ◌-◌, ◌≤◌, ◌<◌}
use native.Mathlib.Omega.{arith}
use native.Mathlib.Decide.{dec_lt}
use lib.ListN.{length, get_or}
use Rattle.model.specs.Network.{Network}
use Rattle.planner_theory.specs.Search.{Sys}
use Rattle.planner_theory.specs.Moves.{sys_of}
use Rattle.planner_theory.specs.Layers.{can}
use Rattle.planner_theory.proofs.Forward.{some_of_same, can_zero, can_step, useful_next}
use Rattle.planner_table.specs.Table.{in_slot, layers_of, SlotKnown}
use Rattle.planner_forward.specs.Spreading.{MetAt}
use Rattle.planner_backward.specs.Keeping.{Filtered, enters, leads, Useful}
use Rattle.planner_table.proofs.SlotLaws.{layer_slot, slot_same, slot_other}
use Rattle.planner_backward.proofs.SetTests.{leads_last, leads_before}

-- layers i + 1 to d are kept, and those before are as they were
pub record KeptDown (net : Network) (start d i : ℕ) (old tab : List ℕ) : Type 0 where
  pub kept : (j s : ℕ) → i < j → j ≤ d → layers_of start tab j s ≡ (layers_of start old j s && can (sys_of net) (d - j) s)
  pub before : (n : ℕ) → n < i * 729 → get_or tab n 0 ≡ get_or old n 0
  pub size : length tab ≡ length old
  pub beyond : (n : ℕ) → 11664 ≤ n → get_or tab n 0 ≡ get_or old n 0

module _ (net : Network) (start d : ℕ) (old : List ℕ) where
  abbrev M : Sys
  M = sys_of net

  pub kept_none : KeptDown net start d d old old
  kept_none = record { kept = λ j s a b. absurd (omega arith); before = λ n lt. refl; size = refl; beyond = λ n le. refl }

  -- ---- one layer more

  module _ (i k : ℕ) (tab : List ℕ) (z : k ≡ i + 1) (most : k ≤ d) (few : d ≤ 16) (met : MetAt net start old d) (h : KeptDown net start d k old tab) where
    here : (s : ℕ) → in_slot tab i s ≡ in_slot old i s
    here s = slot_same old tab i s (λ less. h.before (i * 729 + s / 16) (omega arith))

    known : SlotKnown net tab i
    known s e = met.known (suc i) s (omega arith) (layer_slot start old i (suc i) s refl ∙ sym (here s) ∙ e)

    -- what a choice leads to is kept where the rest of a plan can be done from it
    one : k < d → (s c : ℕ) → layers_of start old k s ≡ true → c < M.choices s → in_slot tab k (M.to s c) ≡ can M (d - suc k) (M.to s c)
    one lt s c e less =
        let g = met.goal in
        sym (layer_slot start tab k (suc k) (M.to s c) refl) ∙ h.kept (suc k) (M.to s c) (omega arith) lt
        ∙ useful_next M start (layers_of start old) d g.0 (met.layers) g.1 g.2 k s c lt e less

    can_enter : k < d → (s : ℕ) → layers_of start old k s ≡ true → enters net tab k s ≡ can M (d - k) s
    can_enter lt s e =
        let w : d - k ≡ suc (d - suc k) = omega arith in
        some_of_same (λ c. in_slot tab k (M.to s c)) (λ c. can M (d - suc k) (M.to s c)) 0 (M.choices s) (λ c a b. one lt s c e (omega arith))
        ∙ sym (can_step M (d - suc k) s) ∙ ap (λ (n : ℕ). can M n s) (sym w)

    can_lead : (s : ℕ) → layers_of start old k s ≡ true → leads net tab d i s ≡ can M (d - k) s
    can_lead s e =
        elim (dec_lt k d) [
          | yes lt ↦ leads_before net tab d i (λ y. omega arith) s ∙ ap (λ (j : ℕ). enters net tab j s) (sym z) ∙ can_enter lt s e
          | no ge ↦
              let w : d - k ≡ 0 = omega arith in
              leads_last net tab d i (omega arith) s ∙ sym (ap (λ (n : ℕ). can M n s) w ∙ can_zero M s)
        ]

    pub kept_next : (tab' : List ℕ) → (SlotKnown net tab i → Filtered (leads net tab d i) i tab tab') → KeptDown net start d i old tab'
    kept_next tab' f₀ = record {
      kept = kept;
      before = λ n less. f.only.others n (inl less) ∙ h.before n (omega arith);
      size = f.only.size ∙ h.size;
      beyond = λ n le. f.only.others n (inr (omega arith)) ∙ h.beyond n le;
    }
      where
        f : Filtered (leads net tab d i) i tab tab'
        f = f₀ known

        both : (s : ℕ) (t : Bool) → layers_of start old k s ≡ t → (t && leads net tab d i s) ≡ (t && can M (d - k) s)
        both s true e = can_lead s e
        both s false e = refl

        first : (s : ℕ) → layers_of start tab' k s ≡ (layers_of start old k s && can M (d - k) s)
        first s =
            let y : k ≡ suc i = omega arith in
            let a : in_slot tab i s ≡ layers_of start old k s = here s ∙ sym (layer_slot start old i k s y) in
            layer_slot start tab' i k s y ∙ f.slot s ∙ ap (λ (t : Bool). t && leads net tab d i s) a ∙ both s (layers_of start old k s) refl

        kept : (j s : ℕ) → i < j → j ≤ d → layers_of start tab' j s ≡ (layers_of start old j s && can M (d - j) s)
        kept j s less le =
            elim (dec_lt k j) [
              | yes p ↦
                  let y : j ≡ suc (j - 1) = omega arith in
                  layer_slot start tab' (j - 1) j s y ∙ slot_other tab tab' i (j - 1) s f.only.others (λ e. omega arith) ∙ sym (layer_slot start tab (j - 1) j s y) ∙ h.kept j s p le
              | no p ↦
                  let y : j ≡ k = omega arith in
                  ap (λ (q : ℕ). layers_of start tab' q s) y ∙ first s ∙ ap (λ (q : ℕ). layers_of start old q s && can M (d - q) s) (sym y)
            ]

  -- ---- all layers

  pub kept_all : (i : ℕ) (tab : List ℕ) → i ≤ 0 → KeptDown net start d i old tab → Useful net start d old tab
  kept_all i tab z h = record { kept = λ j s a b. h.kept j s (omega arith) b; size = h.size; beyond = h.beyond }
