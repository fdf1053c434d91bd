-- Laws of what a passed plan leaves: the configuration after its last operation.
-- Assumes nothing.
use mathlib.Core.Path.{◌≡◌, refl, sym, ap, ◌∙◌, subst}
use Prim.Native.Nat.{ℕ}
use Rattle.std.specs.Prelude.{Result as Answer, Ok, Err, IfOk}
use Rattle.model.specs.declared.refusal.Refusal.{Refusal}
use Rattle.model.specs.Result.{ok}
use Rattle.model.specs.Text.{Bytes}
use Rattle.model.specs.Network.{Network as ModelNetwork}
use Rattle.model.specs.Path.{Walk, path, stop, walk}
use Rattle.model.specs.Plan.{Plan}
use Rattle.model.specs.Mark.{Run, mark_plan}
use Rattle.model.proofs.Lists.{not_ok, ok_is}
use Rattle.carry_model.specs.Carry.{left_by}
use Rattle.carry_model.proofs.LeftConfig.{left_last}
use Rattle.network_reader.specs.declared.reader.Network.{Network}
use Rattle.network_reader.specs.Reads.{recorded_network, IsReading}
use Rattle.marker_operations.specs.Operations.{Marking, from_start, Runs}
use Rattle.marker_targets.specs.declared.Pass.{Pass}
use Rattle.marker.specs.declared.Marked.{Marked}
use Rattle.marker.specs.Left.{Stands, Leaves, LeftAfter}
use Rattle.marker.specs.Marks.{Markable}
use Rattle.marker.proofs.Verdicts.{recorded, good, before, ran_as}

last_left : (net : ModelNetwork) (plan : Plan) (run : Run) → from_start net plan (walk net net.start) ≡ ok run → run.last ≡ left_by net plan
last_left net plan run e = go (walk net net.start) refl e
  where
    go : (w : Walk) → walk net net.start ≡ w → from_start net plan w ≡ ok run → run.last ≡ left_by net plan
    go (path p) q f = left_last net plan p run q f
    go (stop m) q f = absurd (not_ok f)

-- on a record's network
module _ (w : Network) (p : Bytes) (lines : ℕ) (m : Markable w p lines) (after : Marking) (runs : Runs w.nodes w.summary p (before w p lines m) (Ok tt) after) where
  pub leaves_done : (a : Pass) → Leaves w p record { pass = a; nodes = w.nodes; count = w.summary.count; bits = after.bits; known = after.known }
  leaves_done a plan pass reads passes =
      let f = ran_as w p lines m (Ok tt) after runs in
      let g = good w p lines m in
      record {
        stored = (recorded w p lines m).stored;
        config = f.2 ∙ last_left (recorded_network w) g.plan f.0 f.1 ∙ ap (left_by (recorded_network w)) (ok_is (sym g.reads ∙ reads));
        sized = f.4;
      }

-- on two texts
left_after : (n p : Bytes) (w : Network) → IsReading n (Ok w) → (x : Marked) → Leaves w p x → LeftAfter n p x
left_after n p w is x leaves net plan pass reads also passes =
    let same : recorded_network w ≡ net = ok_is (is.reads ∙ reads) in
    subst (λ (z : ModelNetwork). mark_plan z plan ≡ ok pass → Stands z (left_by z plan) x) same (leaves plan pass also) passes

pub leaves_after : (n p : Bytes) (w : Network) → IsReading n (Ok w) → (r : Answer Marked Refusal) → IfOk r (λ x. Leaves w p x) → IfOk r (λ x. LeftAfter n p x)
leaves_after n p w is (Ok x) leaves = left_after n p w is x leaves
leaves_after n p w is (Err e) leaves = tt
