-- `planner_line::put_bits` meets its contract. The loop's invariant: the first b bits are written.
-- Assumes nothing.
use mathlib.Core.Path.{refl}
use Prim.Native.Nat.{◌+◌}
use native.Mathlib.Omega.{arith}
use borrow.Author.Rules.{rules}
use Rattle.planner_line.proofs.PutBits.{putting_none, putting_more, kept_more}
use Rattle.planner_line.proofs.put_bits.Goals as goal

pub loop-b-init : goal.loop-b-init
loop-b-init c = record { put = putting_none _ _ _ _ _ _ _; kept = λ k l. refl }

pub loop-b-preserved : goal.loop-b-preserved
loop-b-preserved c = let l = c.loop-b in
    let a = c.args in
    record {
      put = putting_more _ _ _ _ _ _ _ _ _ _ _ _ (search rules) (search rules) c.byte_at.ensures c.left_behind-left.ensures l.invariant.put;
      kept = kept_more (a.at + a.len) (a.at + l.b) _ a.plan.now l.plan (omega arith) l.invariant.kept;
    }
