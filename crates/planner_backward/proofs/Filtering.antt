-- Laws of a slot that is filtered setting by setting.
-- Assumes nothing.
use mathlib.Core.Path.{◌≡◌, refl, sym, ap, ◌∙◌}
use mathlib.Core.Bool.{Bool, true, false, ◌&&◌}
use mathlib.Core.Logic.{inl, inr}
use mathlib.Core.List.{List}
use Prim.Native.Nat.{ℕ, ◌+◌, ◌*◌, ◌/◌, ◌%◌, ◌≤◌, ◌<◌}
use native.Mathlib.Omega.{arith}
use native.Mathlib.Decide.{dec_lt}
use lib.Dec.{ltb}
use lib.ListN.{length, get_or, set}
use lib.Seq.{get_or-set_same, get_or-set_other}
use Rattle.model.proofs.Lists.{and_false_right}
use Rattle.network_words.specs.Words.{word_bit}
use Rattle.network_words.proofs.WordLaws.{zero_bit}
use Rattle.planner_table.specs.Table.{in_slot, OutOfSlot, Others, Skipped}
use Rattle.planner_backward.specs.Keeping.{Filtered, FilteredSets}
use Rattle.planner_table.proofs.SlotLaws.{slot_at, slot_same}

-- the slot is filtered up to setting x
pub record Filtering (test : ℕ → Bool) (i x : ℕ) (tab tab' : List ℕ) : Type 0 where
  pub done : (s : ℕ) → s / 16 < x → in_slot tab' i s ≡ (in_slot tab i s && test s)
  pub ahead : (y : ℕ) → x ≤ y → y < 729 → get_or tab' (i * 729 + y) 0 ≡ get_or tab (i * 729 + y) 0
  pub others : Others i tab tab'

pub filtering_none : (test : ℕ → Bool) (i : ℕ) (tab : List ℕ) → Filtering test i 0 tab tab
filtering_none test i tab = record { done = λ s lt. absurd (omega arith); ahead = λ y a b. refl; others = λ n out. refl }

module _ (test : ℕ → Bool) (i x : ℕ) (tab tab' : List ℕ) (h : Filtering test i x tab tab') where
  pub filtering_more : (r : ℕ) → 11664 ≤ length tab' → i < 16 → x < 729 → FilteredSets test x (get_or tab' (i * 729 + x) 0) r
      → Filtering test i (x + 1) tab (set tab' (i * 729 + x) r)
  filtering_more r long few small f = record { done = done; ahead = ahead; others = others }
    where
      here : (s : ℕ) → s / 16 ≡ x → in_slot (set tab' (i * 729 + x) r) i s ≡ (in_slot tab i s && test s)
      here s e =
          let m = s % 16 in
          let b : s % 16 < 16 = omega arith in
          let z : s ≡ x * 16 + s % 16 = omega arith in
          let there : in_slot tab i (x * 16 + m) ≡ word_bit (get_or tab' (i * 729 + x) 0) m
          = slot_at tab i x m small b ∙ ap (λ (w : ℕ). word_bit w m) (sym (h.ahead x (omega arith) small)) in
          let new : in_slot (set tab' (i * 729 + x) r) i (x * 16 + m) ≡ word_bit r m
          = slot_at (set tab' (i * 729 + x) r) i x m small b ∙ ap (λ (w : ℕ). word_bit w m) (get_or-set_same tab' (i * 729 + x) r 0 (omega arith)) in
          let all : in_slot (set tab' (i * 729 + x) r) i (x * 16 + m) ≡ (in_slot tab i (x * 16 + m) && test (x * 16 + m))
          = new ∙ f m b ∙ ap (λ (t : Bool). t && test (x * 16 + m)) (sym there) in
          ap (λ (q : ℕ). in_slot (set tab' (i * 729 + x) r) i q) z ∙ all ∙ ap (λ (q : ℕ). in_slot tab i q && test q) (sym z)

      done : (s : ℕ) → s / 16 < x + 1 → in_slot (set tab' (i * 729 + x) r) i s ≡ (in_slot tab i s && test s)
      done s lt =
          elim (dec_lt (s / 16) x) [
            | yes p ↦ slot_same tab' (set tab' (i * 729 + x) r) i s (λ _. get_or-set_other tab' (i * 729 + x) (i * 729 + s / 16) r 0 (λ z. omega arith)) ∙ h.done s p
            | no p ↦ here s (omega arith)
          ]

      ahead : (y : ℕ) → x + 1 ≤ y → y < 729 → get_or (set tab' (i * 729 + x) r) (i * 729 + y) 0 ≡ get_or tab (i * 729 + y) 0
      ahead y a b = get_or-set_other tab' (i * 729 + x) (i * 729 + y) r 0 (λ z. omega arith) ∙ h.ahead y (omega arith) b

      others : Others i tab (set tab' (i * 729 + x) r)
      others n out = get_or-set_other tab' (i * 729 + x) n r 0 (apart out) ∙ h.others n out
        where
          apart : OutOfSlot i n → n ≡ i * 729 + x → ⊥
          apart (inl p) z = omega arith
          apart (inr p) z = omega arith

  -- the settings up to r have no state
  pub filtering_skip : (end r : ℕ) → end ≤ 729 → Skipped tab' (i * 729) x end r → Filtering test i r tab tab'
  filtering_skip end r small k = record { done = done; ahead = λ y a b. h.ahead y (omega (arith, k.least)) b; others = h.others }
    where
      none : (l : List ℕ) (s : ℕ) → get_or l (i * 729 + s / 16) 0 ≡ 0 → in_slot l i s ≡ false
      none l s z = rw (z, zero_bit (s % 16)) (and_false_right (ltb s 11664))

      done : (s : ℕ) → s / 16 < r → in_slot tab' i s ≡ (in_slot tab i s && test s)
      done s lt =
          elim (dec_lt (s / 16) x) [
            | yes p ↦ h.done s p
            | no p ↦
                let zero = k.empty (s / 16) (omega arith) lt in
                none tab' s zero ∙ sym (ap (λ (t : Bool). t && test s) (none tab s (sym (h.ahead (s / 16) (omega arith) (omega (arith, k.most))) ∙ zero)))
          ]

  -- the settings from x on are none of the slot's
  pub filtering_all : length tab' ≡ length tab → ((s : ℕ) → in_slot tab i s ≡ true → s / 16 < x) → Filtered test i tab tab'
  filtering_all size known = record { slot = slot; only = record { others = h.others; size = size } }
    where
      empty : (s : ℕ) → (s / 16 < x → ⊥) → (t : Bool) → in_slot tab i s ≡ t → t ≡ (t && test s)
      empty s ge true e = absurd (ge (known s e))
      empty s ge false e = refl

      slot : (s : ℕ) → in_slot tab' i s ≡ (in_slot tab i s && test s)
      slot s =
          elim (dec_lt (s / 16) x) [
            | yes p ↦ h.done s p
            | no p ↦ slot_same tab tab' i s (λ lt. h.ahead (s / 16) (omega arith) (omega arith)) ∙ empty s p (in_slot tab i s) refl
          ]
