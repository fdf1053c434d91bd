-- The text of a plan by the choices that the search left.
-- Assumes nothing.
use Rattle.std.specs.Prelude.{◌≡◌, List, ℕ, ◌^◌, ◌≤◌, ◌<◌, length, get_or, Result}
use Rattle.model.specs.Limits.{max_settings}
use Rattle.model.specs.Network.{Network, steering_bits}
use Rattle.model.specs.PlanText.{write_plan}
use Rattle.model.specs.Text.{Bytes}
use Rattle.model.specs.Calls.{write_over, written, count_of as length_of, if_room}
use Rattle.model.specs.Answers.{count_of}
use Rattle.model.specs.declared.refusal.Refusal.{Refusal}
use Rattle.planner_theory.specs.Moves.{land, decode, Follows}
use Rattle.planner_steering.specs.declared.Problem.{Problem}
use Rattle.planner_settings.specs.Route.{Prepared}
use Rattle.planner_rows.specs.Rows.{Lands}

-- the setting that choice c leads to from setting x of each network that has row x
pub record LandIn (rows : List ℕ) (x c r : ℕ) : Type 0 where
  pub of : (net : Network) → Lands net rows x → r ≡ land net x c
  pub small : r < max_settings

-- the first n entries of picked are choices that can be made one after the other from setting start on
pub record Picked (net : Network) (start : ℕ) (picked : List ℕ) (n : ℕ) (cs : List ℕ) : Type 0 where
  pub within : start < 3 ^ length (steering_bits net.nodes)
  pub follows : Follows net start cs
  pub long : length cs ≡ n
  pub most : n ≤ 16
  pub size : length picked ≡ 16
  pub are : (i : ℕ) → i < n → get_or picked i 0 ≡ get_or cs i 0

-- the arrays hold the network, and the choices are its own
pub record CountsOf (net : Network) (ns steering : List ℕ) (p : Problem) (start : ℕ) (picked : List ℕ) (n : ℕ) (cs : List ℕ) : Type 0 where
  pub prepared : Prepared net ns steering p
  pub picks : Picked net start picked n cs

abbrev pub Countable : List ℕ → List ℕ → Problem → ℕ → List ℕ → ℕ → Type 0
Countable ns steering p start picked n = (net : Network) × (cs : List ℕ) × CountsOf net ns steering p start picked n cs

-- ---- the length

-- the bytes of the text of these choices from setting x on
abbrev pub text_length : Network → ℕ → List ℕ → ℕ
text_length net x cs = length (write_plan (decode net x cs))

abbrev pub Counts : List ℕ → List ℕ → Problem → ℕ → List ℕ → ℕ → ℕ → Type 0
Counts ns steering p start picked n r =
    (net : Network) (cs : List ℕ) → CountsOf net ns steering p start picked n cs → r ≡ text_length net start cs

-- ---- the text

pub record WritesOf (net : Network) (ns steering : List ℕ) (p : Problem) (start : ℕ) (picked : List ℕ) (n : ℕ) (old cs : List ℕ) : Type 0 where
  pub counts : CountsOf net ns steering p start picked n cs
  pub room : text_length net start cs ≤ length old

abbrev pub Writable : List ℕ → List ℕ → Problem → ℕ → List ℕ → ℕ → List ℕ → Type 0
Writable ns steering p start picked n old =
    (net : Network) × (cs : List ℕ) × WritesOf net ns steering p start picked n old cs

abbrev pub Writes : List ℕ → List ℕ → Problem → ℕ → List ℕ → ℕ → List ℕ → List ℕ → Type 0
Writes ns steering p start picked n old new =
    (net : Network) (cs : List ℕ) → WritesOf net ns steering p start picked n old cs → new ≡ write_over (write_plan (decode net start cs)) old

-- ---- the text, or 13

-- the answer and the buffer, by the bytes of the text and the room for it
pub record Given (text : Bytes) (old : List ℕ) (r : Result ℕ Refusal) (new : List ℕ) : Type 0 where
  pub result : count_of r ≡ length_of (if_room (length old) text)
  pub left : new ≡ written (if_room (length old) text) old

abbrev pub GivesText : List ℕ → List ℕ → Problem → ℕ → List ℕ → ℕ → List ℕ → Result ℕ Refusal → List ℕ → Type 0
GivesText ns steering p start picked n old r new =
    (net : Network) (cs : List ℕ) → CountsOf net ns steering p start picked n cs → Given (write_plan (decode net start cs)) old r new
