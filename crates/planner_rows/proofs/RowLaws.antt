-- Laws of a row that is written, for a network that it is of: the targets on the path, and where the choices lead.
-- Assumes nothing.
use mathlib.Core.Path.{◌≡◌, ◌∙◌}
use mathlib.Core.List.{List}
use Prim.Native.Nat.{ℕ, ◌<◌}
use native.Mathlib.Omega.{arith}
use lib.ListN.{length, get_or}
use Rattle.model.specs.Network.{Network, steering_bits}
use Rattle.planner_theory.specs.Moves.{gain, land}
use Rattle.planner_theory.proofs.MoveLaws.{gain_within, land_within, settings_within}
use Rattle.planner_steering.specs.declared.Problem.{Problem}
use Rattle.planner_settings.specs.Route.{Prepared, Plannable}
use Rattle.planner_rows.specs.Rows.{row_number, RowsRight, Lands, Landing, LandsIn}
use Rattle.planner_settings.proofs.SettingWalk.{planned_few}

module _ {net : Network} {rows : List ℕ} {x : ℕ} (d : Lands net rows x) where
  pub land_small : (c : ℕ) → land net x c < 729
  land_small c = omega (arith, land_within net x c, settings_within (length (steering_bits net.nodes)) d.few)

  pub gain_small : gain net x < 16
  gain_small = gain_within net d.accepted x

  -- the targets on the path
  pub gain_read : (g : ℕ) → g ≡ row_number rows x 2 → g ≡ gain net x
  gain_read g e = e ∙ d.row.gain_is

  pub gain_read_small : (g : ℕ) → g ≡ row_number rows x 2 → g < 16
  gain_read_small g e = omega (arith, gain_read g e, gain_small)

  -- where the choices lead
  pub listed_small : {r : ℕ} {lands : List ℕ} → LandsIn rows x r lands → (c : ℕ) → c < r → get_or lands c 0 < 729
  listed_small h c lt = omega (arith, (h.of net d).lands_are c lt, land_small c)

-- row x of the table, for each network that the arrays hold
pub lands_of : {net : Network} {ns steering : List ℕ} {pb : Problem} → Prepared net ns steering pb
    → {rows : List ℕ} → RowsRight ns steering pb rows → (x : ℕ) → x < 729 → row_number rows x 0 ≡ 1 → Lands net rows x
lands_of {net} {ns} {steering} {pb} p right x small known =
    record { accepted = p.accepted; few = planned_few net ns steering pb p; row = right.right net p x small known }

pub landing_of : {ns steering : List ℕ} {pb : Problem} → Plannable ns steering pb
    → {rows : List ℕ} → RowsRight ns steering pb rows → (x : ℕ) → x < 729 → row_number rows x 0 ≡ 1 → Landing rows x
landing_of q right x small known = (q.0, lands_of q.1 right x small known)
