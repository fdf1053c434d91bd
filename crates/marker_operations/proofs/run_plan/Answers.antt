-- `marker_operations::run_plan` meets its contract.
-- Assumes nothing.
use mathlib.Core.Path.{◌≡◌, subst}
use native.Mathlib.Omega.{arith}
use Prim.Native.Nat.{ℕ}
use lib.ListN.{length-replicate}
use Rattle.std.specs.Prelude.{Ok, Err}
use Rattle.model.specs.declared.refusal.Kind.TheVariants.{Start}
use Rattle.network_path.proofs.StoredLaws.{stored_walkable}
use Rattle.marker_operations.specs.Operations.{RanAs}
use Rattle.marker_operations.proofs.Running.{told_as, start_stops, start_on, start_runs}
use Rattle.marker_operations.proofs.run_plan.Goals as goal

pub find_path-requires : goal.find_path-requires
find_path-requires c = stored_walkable _ _ _ _ c.requires.startable.1.stored _ (length-replicate {A = ℕ} 128 0)

pub returns-in_err-start : goal.returns-in_err-start
returns-in_err-start c =
    let gone : c.from_residual.result ≡ Err c.in_err-start.field-0.0 = grind arith in
    let told : Err c.in_err-start.field-0.0 ≡ told_as (λ m. record { kind = Start; place = m }) c.find_path.result = grind arith in
    rw gone (λ net plan e h. start_stops net plan _ _ _ _ h c.find_path.ensures _ told)

pub run_lines-requires : goal.run_lines-requires
run_lines-requires c =
    let s = c.requires in
    let found : c.find_path.result ≡ Ok c.in_ok-start.start = grind arith in
    record {
      has_form = s.has_form;
      on_some_path = (s.startable.0, start_on _ s.has_form.0 _ _ _ _ s.startable.1 c.find_path.ensures _ found);
      reached = s.startable.1.reached;
    }

pub returns : goal.returns
returns c =
    let f = c.find_path.ensures in
    let found : c.find_path.result ≡ Ok c.in_ok-start.start = grind arith in
    λ net plan e h. subst (RanAs _ c.args.t _ _) (start_runs net plan _ _ _ _ h f _ found) (c.run_lines.ensures net plan e (start_on net plan _ _ _ _ h f _ found))
