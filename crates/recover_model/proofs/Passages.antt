-- The passages of clocks do on the test frame what the clocks do.
-- Assumes nothing.
use mathlib.Core.Path.{◌≡◌, refl, sym, ap, ◌∙◌}
use mathlib.Core.Bool.{Bool, true, false}
use mathlib.Core.List.{List, [], ◌∷◌, ◌++◌, map, map-append, append_assoc}
use Prim.Native.Nat.{ℕ, suc}
use lib.ListN.{length}
use Rattle.model.specs.Frame.{Captures}
use Rattle.model.specs.Plan.{Plan}
use Rattle.model.specs.Tap.{Tap, next, state_after, Action, capture, shift, update, keep, action, Clock}
use Rattle.model.proofs.Lists.{true_false}
use Rattle.recover_model.specs.Recovered.{add_passage, passages, add_capture, capture_clocks}
use Rattle.recover_model.proofs.ClockLines.{tms_of}
use Rattle.recover_model.proofs.Deeds.{Deed, captures, shifts, updates, add_deed, deeds}
use Rattle.recover_model.proofs.TapStates.{inside, inside_before, inside_after, inside_before_law, inside_next}

-- ---- the deeds of a plan's operations, with these captures in turn

unfoldable pub plan_deeds : List (ℕ → Bool) → Plan → List Deed
plan_deeds fs [] = []
plan_deeds [] (bs ∷ plan) = []
plan_deeds (f ∷ fs) (bs ∷ plan) = captures f ∷ (map shifts bs ++ updates ∷ plan_deeds fs plan)

-- inside a passage its capture and its bits stand before
abbrev opened : Bool → (ℕ → Bool) → List Bool → List Deed → List Deed
opened false f bits later = later
opened true f bits later = captures f ∷ (map shifts bits ++ later)

abbrev opened_captures : {A : Type 0} → Bool → A → List A → List A
opened_captures false f fs = fs
opened_captures true f fs = f ∷ fs

abbrev bits_of : Bool → List Bool → List Bool
bits_of false bits = []
bits_of true bits = bits

map_snoc : {A B : Type 0} (f : A → B) (l : List A) (a : A) (r : List B) → map f (l ++ a ∷ []) ++ r ≡ map f l ++ f a ∷ r
map_snoc f l a r = rw (map-append f l (a ∷ []), append_assoc)

module _ (fed : Captures) where
  abbrev captured_by : Tap → ℕ → List Clock → List (ℕ → Bool)
  captured_by t i cs = map fed (capture_clocks t i cs)

  deed_step : (a : Action) (i : ℕ) (d o : Bool) (f : ℕ → Bool) (bits : List Bool) (ds : List Deed) (ks : List ℕ) (later : List Bool → Plan)
      → o ≡ inside_before a o
      → ((g : ℕ → Bool) (bs : List Bool) → opened (inside_after a o) g bs ds ≡ plan_deeds (opened_captures (inside_after a o) g (map fed ks)) (later (bits_of (inside_after a o) bs)))
      → opened o f bits (add_deed a (fed i) d ds) ≡ plan_deeds (opened_captures o f (map fed (add_capture a i ks))) (add_passage a d (bits_of o bits) later)
  unfolding plan_deeds
  deed_step capture i d true f bits ds ks later e h = absurd (true_false e)
  deed_step capture i d false f bits ds ks later e h = h (fed i) []
  deed_step shift i d false f bits ds ks later e h = absurd (true_false (sym e))
  deed_step shift i d true f bits ds ks later e h = ap (λ (l : List Deed). captures f ∷ l) (sym (map_snoc shifts bits d ds)) ∙ h f (bits ++ d ∷ [])
  deed_step update i d false f bits ds ks later e h = absurd (true_false (sym e))
  deed_step update i d true f bits ds ks later e h = ap (λ (l : List Deed). captures f ∷ (map shifts bits ++ updates ∷ l)) (h f [])
  deed_step keep i d o f bits ds ks later e h = h f bits

  deeds_from : (cs : List Clock) (t : Tap) (i : ℕ) (f : ℕ → Bool) (bits : List Bool) → inside (state_after t (map tms_of cs)) ≡ false
      → opened (inside t) f bits (deeds fed t i cs) ≡ plan_deeds (opened_captures (inside t) f (captured_by t i cs)) (passages t (bits_of (inside t) bits) cs)
  unfolding deeds state_after passages capture_clocks plan_deeds
  deeds_from [] t i f bits e = go (inside t) e
    where
      go : (o : Bool) → o ≡ false → opened o f bits [] ≡ plan_deeds (opened_captures o f []) []
      go false q = refl
      go true q = absurd (true_false q)
  deeds_from (c ∷ cs) t i f bits e =
      deed_step (action t) i c.tdi (inside t) f bits (deeds fed (next t c.tms) (suc i) cs) (capture_clocks (next t c.tms) (suc i) cs)
      (λ bs. passages (next t c.tms) bs cs) (inside_before_law t)
      (λ g bs. rw (inside_next t c.tms) at (deeds_from cs (next t c.tms) (suc i) g bs e))

  -- from outside a passage to outside one
  pub deeds_are : (cs : List Clock) (t : Tap) (i : ℕ) → inside t ≡ false → inside (state_after t (map tms_of cs)) ≡ false → deeds fed t i cs ≡ plan_deeds (captured_by t i cs) (passages t [] cs)
  deeds_are cs t i q e = rw q at (deeds_from cs t i (λ k. false) [] e)

-- ---- as many captures as passages

abbrev one_more_law : Bool → ℕ → ℕ
one_more_law false n = n
one_more_law true n = suc n

count_step : (a : Action) (i : ℕ) (d o : Bool) (bits : List Bool) (ks : List ℕ) (later : List Bool → Plan) → o ≡ inside_before a o
    → ((bs : List Bool) → one_more_law (inside_after a o) (length ks) ≡ length (later bs)) → one_more_law o (length (add_capture a i ks)) ≡ length (add_passage a d bits later)
count_step capture i d true bits ks later e h = absurd (true_false e)
count_step capture i d false bits ks later e h = h bits
count_step shift i d false bits ks later e h = absurd (true_false (sym e))
count_step shift i d true bits ks later e h = h (bits ++ d ∷ [])
count_step update i d false bits ks later e h = absurd (true_false (sym e))
count_step update i d true bits ks later e h = ap suc (h [])
count_step keep i d o bits ks later e h = h bits

counts_from : (cs : List Clock) (t : Tap) (i : ℕ) (bits : List Bool) → inside (state_after t (map tms_of cs)) ≡ false
    → one_more_law (inside t) (length (capture_clocks t i cs)) ≡ length (passages t bits cs)
unfolding state_after passages capture_clocks
counts_from [] t i bits e = rw e
counts_from (c ∷ cs) t i bits e =
    count_step (action t) i c.tdi (inside t) bits (capture_clocks (next t c.tms) (suc i) cs) (λ bs. passages (next t c.tms) bs cs) (inside_before_law t)
    (λ bs. rw (inside_next t c.tms) at (counts_from cs (next t c.tms) (suc i) bs e))

pub counts_are : (cs : List Clock) (t : Tap) (i : ℕ) → inside t ≡ false → inside (state_after t (map tms_of cs)) ≡ false → length (capture_clocks t i cs) ≡ length (passages t [] cs)
counts_are cs t i q e = rw q at (counts_from cs t i [] e)
