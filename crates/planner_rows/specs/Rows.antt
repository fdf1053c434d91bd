-- The table of rows, and what the functions that fill and read it ask and leave. Number 0 of a row is 1 where the row is written,
-- number 1 the count of choices, number 2 the targets on the path, number 3 the setting with 0 in the steering bits on the path,
-- number 4 the path's length; from number 5 on stand the indices of the steering bits on the path, the last place first.
-- Assumes nothing.
use Rattle.std.specs.Prelude.{◌≡◌, List, ℕ, suc, ◌+◌, ◌*◌, ◌-◌, ◌≤◌, ◌<◌, length, get_or, take}
use Rattle.model.specs.Limits.{max_settings}
use Rattle.model.specs.Network.{Network, steering_bits}
use Rattle.model.specs.Path.{ScanPath, path, path_length}
use Rattle.model.specs.Accepted.{Accepted}
use Rattle.network_path.specs.Layout.{scan_path}
use Rattle.network_path.specs.Answers.{HoldsPath}
use Rattle.network_path.specs.declared.walk.PathSize.{PathSize}
use Rattle.planner_theory.specs.Settings.{walk_at, order, base_of}
use Rattle.planner_theory.specs.Moves.{count, gain, land}
use Rattle.planner_steering.specs.declared.Problem.{Problem}
use Rattle.planner_settings.specs.Route.{Prepared}

-- eleven numbers for each setting: 8,019 = 729 × 11
abbrev pub row_numbers : ℕ
row_numbers = 8019

abbrev pub row_number : List ℕ → ℕ → ℕ → ℕ
row_number rows x i = get_or rows (x * 11 + i) 0

-- ---- writing a row

-- the numbers outside row x are as they were
abbrev pub Outside : List ℕ → ℕ → List ℕ → Type 0
Outside old x new = (y i : ℕ) → (y ≡ x → ⊥) → i < 11 → row_number new y i ≡ row_number old y i

-- the first m of order stand in row x, the last first; its first five numbers are as they were
pub record OrderWritten (old : List ℕ) (x : ℕ) (order : List ℕ) (m : ℕ) (new : List ℕ) : Type 0 where
  pub order_is : (i : ℕ) → i < m → row_number new x (5 + i) ≡ get_or order (m - suc i) 0
  pub first_kept : (i : ℕ) → i < 5 → row_number new x i ≡ row_number old x i
  pub outside : Outside old x new
  pub size : length new ≡ row_numbers

pub record RowWritten (old : List ℕ) (x width mask base len : ℕ) (order : List ℕ) (m : ℕ) (new : List ℕ) : Type 0 where
  pub known : row_number new x 0 ≡ 1
  pub count_is : row_number new x 1 ≡ width
  pub gain_is : row_number new x 2 ≡ mask
  pub base_is : row_number new x 3 ≡ base
  pub length_is : row_number new x 4 ≡ len
  pub order_is : (i : ℕ) → i < m → row_number new x (5 + i) ≡ get_or order (m - suc i) 0
  pub outside : Outside old x new
  pub size : length new ≡ row_numbers

-- the row of a setting that is not valid
pub record Unread (old : List ℕ) (x : ℕ) (new : List ℕ) : Type 0 where
  pub known : row_number new x 0 ≡ 1
  pub count_is : row_number new x 1 ≡ 0
  pub gain_is : row_number new x 2 ≡ 0
  pub outside : Outside old x new
  pub size : length new ≡ row_numbers

-- ---- the row of a setting of a network

pub record Routed (net : Network) (rows : List ℕ) (x : ℕ) (p : ScanPath) : Type 0 where
  pub base_is : row_number rows x 3 ≡ base_of (steering_bits net.nodes) p x
  pub length_is : row_number rows x 4 ≡ path_length p
  pub order_is : (i : ℕ) → i < length (order (steering_bits net.nodes) p)
      → row_number rows x (5 + i) ≡ get_or (order (steering_bits net.nodes) p) (length (order (steering_bits net.nodes) p) - suc i) 0

-- row x is that of setting x
pub record RowOf (net : Network) (rows : List ℕ) (x : ℕ) : Type 0 where
  pub count_is : row_number rows x 1 ≡ count net x
  pub gain_is : row_number rows x 2 ≡ gain net x
  pub routed : (p : ScanPath) → walk_at net x ≡ path p → Routed net rows x p

-- the arrays hold the network, and the path of this size is that of setting x
pub record PathIs (net : Network) (ns steering : List ℕ) (p : Problem) (way : List ℕ) (size : PathSize) (x : ℕ) : Type 0 where
  pub prepared : Prepared net ns steering p
  pub holds : HoldsPath ns way size.segments
  pub tells : walk_at net x ≡ path (scan_path ns (take size.segments way))
  pub long : size.bits ≡ path_length (scan_path ns (take size.segments way))

abbrev pub PathRead : List ℕ → Problem → List ℕ → PathSize → ℕ → Type 0
PathRead steering p way size x = (ns : List ℕ) × (net : Network) × PathIs net ns steering p way size x

pub record RowRead (steering : List ℕ) (p : Problem) (way : List ℕ) (size : PathSize) (x : ℕ) (old new : List ℕ) : Type 0 where
  pub row : (ns : List ℕ) (net : Network) → PathIs net ns steering p way size x → RowOf net new x
  pub known : row_number new x 0 ≡ 1
  pub outside : Outside old x new
  pub sized : length new ≡ row_numbers

-- each row that is written is that of every network that the arrays hold
pub record RowsRight (ns steering : List ℕ) (p : Problem) (rows : List ℕ) : Type 0 where
  pub size : length rows ≡ row_numbers
  pub right : (net : Network) → Prepared net ns steering p → (x : ℕ) → x < max_settings → row_number rows x 0 ≡ 1 → RowOf net rows x

-- ---- where the choices lead

-- behind the first h numbers stand the same with w added
pub record Doubled (old : List ℕ) (h w : ℕ) (new : List ℕ) : Type 0 where
  pub low : (c : ℕ) → c < h → get_or new c 0 ≡ get_or old c 0
  pub high : (c : ℕ) → c < h → get_or new (h + c) 0 ≡ get_or old c 0 + w
  pub size : length new ≡ 64

-- row x is that of an accepted network with at most 6 steering bits
pub record Lands (net : Network) (rows : List ℕ) (x : ℕ) : Type 0 where
  pub accepted : Accepted net
  pub few : length (steering_bits net.nodes) ≤ 6
  pub row : RowOf net rows x

abbrev pub Landing : List ℕ → ℕ → Type 0
Landing rows x = (net : Network) × Lands net rows x

-- for each such network
abbrev pub OfRow : List ℕ → ℕ → (Network → Type 0) → Type 0
OfRow rows x P = (net : Network) → Lands net rows x → P net

pub record LandsOf (net : Network) (x r : ℕ) (lands : List ℕ) : Type 0 where
  pub count_is : r ≡ count net x
  pub lands_are : (c : ℕ) → c < r → get_or lands c 0 ≡ land net x c

pub record LandsIn (rows : List ℕ) (x r : ℕ) (lands : List ℕ) : Type 0 where
  pub of : (net : Network) → Lands net rows x → LandsOf net x r lands
  pub most : r ≤ 64
  pub size : length lands ≡ 64
