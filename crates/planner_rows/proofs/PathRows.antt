-- Laws of the row of a setting with a path: what `write_path` needs for its calls, and the row that it leaves.
-- Assumes nothing.
use mathlib.Core.Path.{◌≡◌, sym, ap, ◌∙◌, subst}
use mathlib.Core.List.{List, []}
use Prim.Native.Nat.{ℕ, ◌-◌, ◌^◌, ◌<◌, suc}
use native.Mathlib.Omega.{arith}
use lib.ListN.{length, get_or, take}
use lib.Seq.{length-take-le, get_or-take}
use Rattle.model.specs.Network.{Network, steering_bits}
use Rattle.model.specs.Path.{ScanPath, path_of}
use Rattle.network_path.specs.Layout.{scan_path}
use Rattle.network_path.specs.declared.walk.PathSize.{PathSize}
use Rattle.planner_theory.specs.Settings.{order, base_of}
use Rattle.planner_theory.specs.Moves.{mask_of, on_path}
use Rattle.planner_theory.proofs.Order.{order_within}
use Rattle.planner_theory.proofs.MoveLaws.{count_path, gain_path}
use Rattle.planner_steering.specs.declared.Problem.{Problem}
use Rattle.planner_steering.specs.Steering.{steering_of}
use Rattle.planner_settings.specs.Route.{PathMarked, Ordered, BaseBy, MaskBy, Prepared}
use Rattle.planner_rows.specs.Rows.{RowWritten, Routed, RowOf, PathIs, RowRead}
use Rattle.planner_steering.proofs.Listing.{length_bits}

-- ---- the order in the array

module _ (pb : Problem) (way : List ℕ) (size : PathSize) (arr : List ℕ) (m : ℕ) (o : Ordered pb.steering pb.width way size.segments arr m) where
  order_length : (ns : List ℕ) → m ≡ length (order (steering_of pb) (scan_path ns (take size.segments way)))
  order_length ns = sym (length-take-le m arr (omega (arith, o.most, o.sized))) ∙ ap length (o.lists ns)

  order_at_law : (ns : List ℕ) (i : ℕ) → i < m → get_or arr i 0 ≡ get_or (order (steering_of pb) (scan_path ns (take size.segments way))) i 0
  order_at_law ns i l = sym (get_or-take m arr i 0 l) ∙ ap (λ (js : List ℕ). get_or js i 0) (o.lists ns)

  pub order_small : {net : Network} {ns steering : List ℕ} → Prepared net ns steering pb → (i : ℕ) → i < m → get_or arr i 0 < 6
  order_small p i l =
      omega (arith, order_at_law [] i l, order_within (steering_of pb) (scan_path [] (take size.segments way)) i (omega (arith, order_length [])), length_bits pb.steering pb.width, p.few)

  -- ---- the row

  module _ (marks : List ℕ) (marked : PathMarked way size.segments marks) (x width mask base : ℕ) (wide : width ≡ 2 ^ m) (masked : MaskBy marks pb.summary mask) (based : BaseBy marks pb.steering pb.width x base)
      (old new : List ℕ) (row : RowWritten old x width mask base size.bits arr m new) where
    row_of : (net : Network) (ns steering : List ℕ) → PathIs net ns steering pb way size x → RowOf net new x
    row_of net ns steering q = record {
      count_is = row.count_is ∙ wide ∙ ap (λ (i : ℕ). 2 ^ i) many ∙ sym (count_path net x P q.tells);
      gain_is = row.gain_is ∙ masked ns P (marked.marked ns) ∙ ap (mask_of (on_path P)) (sym q.prepared.targets_are) ∙ sym (gain_path net x P q.tells);
      routed = λ p e. subst (Routed net new x) (ap path_of (sym q.tells ∙ e)) routed;
    }
      where
        P : ScanPath
        P = scan_path ns (take size.segments way)

        many : m ≡ length (order (steering_bits net.nodes) P)
        many = order_length ns ∙ ap (λ (sb : List (ℕ × ℕ)). length (order sb P)) q.prepared.bits_are

        routed : Routed net new x P
        routed = record {
          base_is = row.base_is ∙ based.is P (marked.marked ns) ∙ ap (λ (sb : List (ℕ × ℕ)). base_of sb P x) q.prepared.bits_are;
          length_is = row.length_is ∙ q.long;
          order_is = λ i l.
              let z : i < m = omega (arith, many) in
              row.order_is i z ∙ order_at_law ns (m - suc i) (omega arith)
              ∙ ap (λ (sb : List (ℕ × ℕ)). get_or (order sb P) (m - suc i) 0) q.prepared.bits_are
              ∙ ap (λ (j : ℕ). get_or (order (steering_bits net.nodes) P) (j - suc i) 0) many;
        }

    pub row_read : (steering : List ℕ) → RowRead steering pb way size x old new
    row_read steering = record { row = λ ns net q. row_of net ns steering q; known = row.known; outside = row.outside; sized = row.size }
