-- Laws of the table whose rows are written when they are first needed: one row more is right, and the others stay so.
-- Assumes nothing.
use mathlib.Core.Path.{◌≡◌, refl, sym, ap, ◌∙◌, subst}
use mathlib.Core.Bool.{Bool, true, false}
use mathlib.Core.List.{List}
use Prim.Native.Nat.{ℕ, ◌+◌, ◌≤◌, ◌<◌}
use native.Mathlib.Omega.{arith}
use lib.Dec.{eqb}
use lib.ListN.{length}
use borrow.Author.Tests.{eqb-false}
use Rattle.model.specs.Network.{Network, steering_bits}
use Rattle.model.specs.Path.{stop}
use Rattle.model.specs.Accepted.{Accepted}
use Rattle.model.proofs.Lists.{eqb_is}
use Rattle.std.specs.Prelude.{Ok, Err}
use Rattle.network_path.specs.Answers.{Walked, told, WalkHeld}
use Rattle.network_path.specs.declared.walk.PathSize.{PathSize}
use Rattle.planner_theory.specs.Settings.{look_up, walk_at}
use Rattle.planner_theory.proofs.MoveLaws.{count_stop, gain_stop, path_falls, few_choices}
use Rattle.planner_steering.specs.declared.Problem.{Problem}
use Rattle.planner_settings.specs.Route.{Prepared, Each, WalkIs}
use Rattle.planner_rows.specs.Rows.{row_number, Outside, Unread, RowOf, PathIs, RowRead, RowsRight}
use Rattle.planner_settings.proofs.SettingWalk.{planned_few}

-- ---- one row of a network

-- a row with the same numbers
row_kept : (net : Network) → Accepted net → length (steering_bits net.nodes) ≤ 6 → (old new : List ℕ) (y : ℕ) → ((i : ℕ) → i < 11 → row_number new y i ≡ row_number old y i)
    → RowOf net old y → RowOf net new y
row_kept net a few old new y same r = record {
  count_is = same 1 (omega arith) ∙ r.count_is;
  gain_is = same 2 (omega arith) ∙ r.gain_is;
  routed = λ p e.
      let q = r.routed p e in
      let short = (few_choices net a.wf p (path_falls net a.wf (look_up (steering_bits net.nodes) y) p e) few).0 in
      record { base_is = same 3 (omega arith) ∙ q.base_is; length_is = same 4 (omega arith) ∙ q.length_is; order_is = λ i l. same (5 + i) (omega arith) ∙ q.order_is i l };
}

-- the row of a setting that is not valid
row_stopped : (net : Network) (x m : ℕ) (old new : List ℕ) → walk_at net x ≡ stop m → Unread old x new → RowOf net new x
row_stopped net x m old new e u = record {
  count_is = u.count_is ∙ sym (count_stop net x m e);
  gain_is = u.gain_is ∙ sym (gain_stop net x m e);
  routed = λ p f. let z : ◌≡◌ {A = ℕ} 0 1 = cc in absurd (omega arith);
}

-- ---- the table

module _ (ns steering : List ℕ) (pb : Problem) (old : List ℕ) (rows : RowsRight ns steering pb old) (x : ℕ) where
  rows_more : (new : List ℕ) → Each ns steering pb (λ net. RowOf net new x) → Outside old x new → length new ≡ 8019
      → RowsRight ns steering pb new
  rows_more new row outside size = record { size = size; right = λ net p y small known. by net p y small known (eqb y x) refl }
    where
      by : (net : Network) → Prepared net ns steering pb → (y : ℕ) → y < 729 → row_number new y 0 ≡ 1 → (b : Bool) → eqb y x ≡ b → RowOf net new y
      by net p y small known true e = subst (RowOf net new) (sym (eqb_is y x e)) (row net p)
      by net p y small known false e =
          let same : (i : ℕ) → i < 11 → row_number new y i ≡ row_number old y i = λ i l. outside y i (eqb-false y x e) l in
          row_kept net p.accepted (planned_few net ns steering pb p) old new y same (rows.right net p y small (sym (same 0 (omega arith)) ∙ known))

  module _ (r : Walked) (way : List ℕ) (w : Each ns steering pb (λ net. WalkIs net ns x r way)) where
    pub stop_known : (m : ℕ) (new : List ℕ) → r ≡ Err m → Unread old x new → RowsRight ns steering pb new
    stop_known m new e u = rows_more new (λ net p. row_stopped net x m old new ((w net p).tells ∙ ap (told ns way) e) u) u.outside u.size

    -- what `write_path` asks, and its row
    pub path_is : (net : Network) → Prepared net ns steering pb → (size : PathSize) → r ≡ Ok size → PathIs net ns steering pb way size x
    path_is net p size e =
        let h : WalkHeld ns way (Ok size) = subst (WalkHeld ns way) e (w net p).holds in
        record { prepared = p; holds = h.0; tells = (w net p).tells ∙ ap (told ns way) e; long = h.1 }

    pub path_known : (size : PathSize) (new : List ℕ) → r ≡ Ok size → RowRead steering pb way size x old new → RowsRight ns steering pb new
    path_known size new e q = rows_more new (λ net p. q.row ns net (path_is net p size e)) q.outside q.sized
