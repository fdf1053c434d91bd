-- One operation among the clocks of a whole plan: where the frame stands in it, its path, and what it shows.
-- Assumes nothing.
use mathlib.Core.Path.{◌≡◌, sym, ap, ◌∙◌, subst}
use mathlib.Core.Bool.{Bool, false}
use Rattle.std.specs.Prelude.{Option, None as none, Some as some}
use mathlib.Core.List.{List, [], ◌∷◌, ◌++◌, map}
use Prim.Native.Nat.{ℕ, suc, ◌+◌, ◌≤◌, ◌<◌}
use native.Mathlib.Omega.{arith}
use native.Mathlib.Nat.{add-zero}
use lib.ListN.{length, get_or, take, drop, length-append, get_or-append, length-map}
use lib.Seq.{take-append-add, take-append-le, get_or-append-add, split_at}
use Rattle.model.specs.Accepted.{WellFormed}
use Rattle.model.specs.Frame.{Registers, setting, set_path, Captures, Frame, play, showing}
use Rattle.model.specs.Network.{Network}
use Rattle.model.specs.Path.{ScanPath, walk, path_length}
use Rattle.model.specs.Plan.{Plan}
use Rattle.model.specs.Played.{after, shows_at}
use Rattle.model.specs.Tap.{idle, Clock, op_clocks, plan_clocks}
use Rattle.model.proofs.Lists.{get_d_map_some, length_tabulate, get_d_tabulate}
use Rattle.model.proofs.PlanTexts.{length_op}
use Rattle.model.proofs.Playing.{fr, plays_play, plays_showing, plays_with, HasPath, fed_at, op_shows, operation, to_capture}
use Rattle.model.proofs.WholePlan.{play_append, showing_append, length_showing, plan_clocks_append, OpAt}

module _ (net : Network) (wf : WellFormed net) (fed : Captures) (plan : Plan) (registers : Registers) (ps : List ScanPath) (d : ℕ) (l : d < length plan)
    (o : OpAt net fed 0 registers plan ps d) where
  abbrev bs : List Bool
  bs = get_or plan d []

  abbrev p : ScanPath
  p = get_or ps d []

  abbrev A : List Clock
  A = plan_clocks (take d plan)

  abbrev C : List Clock
  C = plan_clocks (drop (suc d) plan)

  abbrev f₀ : Frame
  f₀ = fr idle registers

  abbrev f₁ : Frame
  f₁ = fr idle o.rs'

  split : plan_clocks plan ≡ A ++ (op_clocks bs ++ C)
  unfolding plan_clocks
  split = ap plan_clocks (split_at plan d [] l) ∙ plan_clocks_append (take d plan) (bs ∷ drop (suc d) plan)

  -- ---- the frame after i of its clocks

  after_clocks : (i : ℕ) → i ≤ length (op_clocks bs) → after net plan (plan_clocks plan) registers fed (length A + i) ≡ play net fed (length A + 0) f₁ (take i (op_clocks bs))
  after_clocks i b =
      ap (λ (r : List Clock). play net fed 0 f₀ (take (length A + i) r)) split
      ∙ ap (play net fed 0 f₀) (take-append-add A (op_clocks bs ++ C) i ∙ ap (λ (r : List Clock). A ++ r) (take-append-le i (op_clocks bs) C b))
      ∙ play_append net fed A (take i (op_clocks bs)) 0 f₀
      ∙ ap (λ (g : Frame). play net fed (length A + 0) g (take i (op_clocks bs))) o.reached

  has_path : (i : ℕ) → i ≤ length bs + 4 → HasPath net p (after net plan (plan_clocks plan) registers fed (length A + i)).registers
  has_path i b =
      let n = length_op bs in
      subst (λ (g : Frame). HasPath net p g.registers) (sym (after_clocks i (omega arith)))
      (plays_with net fed (operation net wf fed o.c' o.rs' o.holding p o.way bs (length A + 0) o.as_long) i (omega arith) (λ e. absurd (omega arith)))

  pub same_path : (i : ℕ) → i ≤ length bs + 4
      → walk net (setting (after net plan (plan_clocks plan) registers fed (length A + i)).registers) ≡ walk net (setting (after net plan (plan_clocks plan) registers fed (length A)).registers)
  same_path i b = has_path i b ∙ sym (rw add-zero at (has_path 0 (omega arith)))

  -- ---- what is captured, and shows

  abbrev pub brought : List Bool
  brought = fed_at net wf fed o.c' o.rs' o.holding p o.way (suc (suc (length A + 0)))

  length_fed : length brought ≡ length bs
  length_fed = length_tabulate (fed (suc (suc (length A + 0)))) 0 (path_length p) ∙ sym o.as_long

  pub fed_at_law : (i : ℕ) → i < length bs → get_or brought i false ≡ fed (length A + 2) i
  fed_at_law i b =
      get_d_tabulate (fed (suc (suc (length A + 0)))) 0 (path_length p) i false (let n = o.as_long in omega arith)
      ∙ (let a : suc (suc (length A + 0)) ≡ length A + 2 = omega arith in let c : 0 + i ≡ i = omega arith in rw (a, c))

  pub after_capture : (after net plan (plan_clocks plan) registers fed (length A + 3)).registers ≡ set_path p brought o.rs'
  after_capture =
      ap (λ (g : Frame). g.registers)
      (after_clocks 3 (omega (arith, length_op bs)) ∙ plays_play net fed (to_capture net wf fed o.c' o.rs' o.holding p o.way bs (length A + 0)))

  abbrev op_says : List (Option Bool)
  op_says = op_shows net wf fed o.c' o.rs' o.holding p o.way (length A + 0)

  abbrev Z : List (Option Bool)
  Z = showing net fed (length (op_clocks bs) + (length A + 0)) (play net fed (length A + 0) f₁ (op_clocks bs)) C

  showing_is : showing net fed 0 f₀ (plan_clocks plan) ≡ showing net fed 0 f₀ A ++ (op_says ++ Z)
  showing_is =
      ap (showing net fed 0 f₀) split ∙ showing_append net fed A (op_clocks bs ++ C) 0 f₀
      ∙ ap (λ (r : List (Option Bool)). showing net fed 0 f₀ A ++ r)
      (ap (λ (g : Frame). showing net fed (length A + 0) g (op_clocks bs ++ C)) o.reached
      ∙ showing_append net fed (op_clocks bs) C (length A + 0) f₁
      ∙ ap (λ (r : List (Option Bool)). r ++ Z) (plays_showing net fed (operation net wf fed o.c' o.rs' o.holding p o.way bs (length A + 0) o.as_long)))

  op_says_law : (i : ℕ) → i < length bs → get_or (op_says ++ Z) (3 + i) none ≡ some (get_or brought i false)
  op_says_law i b =
      let e : 3 + i ≡ suc (suc (suc i)) = omega arith in
      let n = length_fed in
      let m : length (map some brought) ≡ length bs = length-map brought some ∙ length_fed in
      ap (λ (k : ℕ). get_or (op_says ++ Z) k none) e
      ∙ get_or-append (map some brought ++ none ∷ none ∷ []) Z none i (omega (arith, length-append (map some brought) (none ∷ none ∷ [])))
      ∙ get_or-append (map some brought) (none ∷ none ∷ []) none i (omega arith)
      ∙ get_d_map_some brought i (omega arith)

  pub shows_place : (i : ℕ) → i < length bs → shows_at net plan (plan_clocks plan) registers fed (length A + (3 + i)) ≡ some (fed (length A + 2) i)
  shows_place i b =
      ap (λ (r : List (Option Bool)). get_or r (length A + (3 + i)) none) showing_is
      ∙ ap (λ (n : ℕ). get_or (showing net fed 0 f₀ A ++ (op_says ++ Z)) (n + (3 + i)) none) (sym (length_showing net fed A 0 f₀))
      ∙ get_or-append-add (showing net fed 0 f₀ A) (op_says ++ Z) (3 + i) none
      ∙ op_says_law i b
      ∙ ap some (fed_at_law i b)
