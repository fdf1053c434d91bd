-- The moves of a network: in each setting the count of choices, the targets on the path, and the setting that each choice leads
-- to; the search by numbers over them; the plan that a list of choices makes. A state is setting * 16 + targets reached.
-- Assumes nothing.
use Rattle.std.specs.Prelude.{◌≡◌, Bool, ◌&&◌, List, [], ◌∷◌, ℕ, ◌<◌, ◌+◌, ◌*◌, ◌/◌, ◌%◌, ◌-◌, ◌^◌, eqb, ltb, length}
use Rattle.std.specs.Int.Bits.{bit_or}
use Rattle.model.specs.Network.{Target, Network, steering_bits}
use Rattle.model.specs.NetworkText.{target_segment}
use Rattle.model.specs.Path.{ScanPath, Walk, path, stop, bit_value, path_of, on}
use Rattle.model.specs.Plan.{Plan}
use Rattle.planner_theory.specs.Search.{Sys}
use Rattle.planner_theory.specs.Settings.{walk_at, order, choice_of, setting_after}

-- ---- targets: a binary digit for each, the first target lowest

unfoldable pub mask_of : (Target → Bool) → List Target → ℕ
mask_of f [] = 0
mask_of f (t ∷ ts) = bit_value (f t) + 2 * mask_of f ts

abbrev pub on_path : ScanPath → Target → Bool
on_path p t = on p (target_segment t)

-- all targets
abbrev pub all_of : List Target → ℕ
all_of ts = 2 ^ length ts - 1

-- ---- the moves

-- the choices that a walk offers: one for each value of the steering bits on its path, none where it stops
abbrev pub choices_on : Network → Walk → ℕ
choices_on net (path p) = 2 ^ length (order (steering_bits net.nodes) p)
choices_on net (stop k) = 0

-- the targets on its path
abbrev pub targets_on : Network → Walk → ℕ
targets_on net (path p) = mask_of (on_path p) net.targets
targets_on net (stop k) = 0

-- the count of choices in setting x
unfoldable pub count : Network → ℕ → ℕ
count net x = choices_on net (walk_at net x)

-- the targets on the path in setting x
unfoldable pub gain : Network → ℕ → ℕ
gain net x = targets_on net (walk_at net x)

-- the setting that choice c leads to from setting x
unfoldable pub land : Network → ℕ → ℕ → ℕ
land net x c = setting_after net (path_of (walk_at net x)) x c

-- ---- the states

-- the targets reached after an operation in setting x, those reached before being m
abbrev pub reached : Network → ℕ → ℕ → ℕ
reached net x m = bit_or m (gain net x)

-- the state after choice c in setting x, the targets reached then being got
abbrev pub goes : Network → ℕ → ℕ → ℕ → ℕ
goes net x got c = land net x c * 16 + got

abbrev pub sys_of : Network → Sys
sys_of net = record {
  choices = λ s. count net (s / 16);
  to = λ s c. goes net (s / 16) (reached net (s / 16) (s % 16)) c;
  goal = λ s. ltb 0 (count net (s / 16)) && eqb (s % 16) (all_of net.targets);
}

-- ---- a plan by its choices

-- the plan that these choices make from setting x
unfoldable pub decode : Network → ℕ → List ℕ → Plan
decode net x [] = []
decode net x (c ∷ cs) = choice_of net (path_of (walk_at net x)) c ∷ decode net (land net x c) cs

-- choice c can be made in setting x
pub record StepOf (net : Network) (x c : ℕ) : Type 0 where
  pub route : ScanPath
  pub walks : walk_at net x ≡ path route
  pub chosen : c < count net x

-- these choices can be made one after the other from setting x on
abbrev pub Follows : Network → ℕ → List ℕ → Type 0
Follows net x [] = Unit {0}
Follows net x (c ∷ cs) = StepOf net x c × Follows net (land net x c) cs
