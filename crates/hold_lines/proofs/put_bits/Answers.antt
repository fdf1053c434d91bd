-- `hold_lines::put_bits` meets its contract. The loop's invariant: the bytes of the bits from b on are written.
-- Assumes nothing.
use mathlib.Core.Path.{refl, sym, ap, ◌∙◌}
use mathlib.Core.List.{List}
use Prim.Native.Nat.{ℕ}
use native.Mathlib.Omega.{arith}
use lib.ListN.{length-set}
use Rattle.network_words.specs.Words.{trit_at}
use Rattle.plan_text.specs.Writing.{write_at}
use Rattle.plan_text.proofs.Writing.{write_none}
use Rattle.hold_lines.proofs.Bits.{down_none, down_more, down_done}
use Rattle.hold_lines.proofs.put_bits.Goals as goal

pub loop-b-init : goal.loop-b-init
loop-b-init c =
    let a = c.args in
    (omega arith, omega arith, refl, sym (ap (λ (l : List ℕ). write_at a.at l a.out.now) (down_none a.len (trit_at a.bits a.known)) ∙ write_none _ _))

pub loop-b-preserved : goal.loop-b-preserved
loop-b-preserved c =
    let a = c.args in
    let v = c.loop-b.invariant in (
      omega (arith, v.0),
      omega (arith, v.0, v.1),
      simp length-set v.2,
      down_more a.len (trit_at a.bits a.known) _ _ _ _ _ _ c.loop-b-test.true v.0 c.requires.1 v.1 c.byte_at.ensures v.3,
    )

pub returns-clause-puts : goal.returns-clause-puts
returns-clause-puts c =
    let a = c.args in
    let v = c.loop-b.invariant in
    down_done a.len (trit_at a.bits a.known) _ _ _ _ _ c.loop-b-test.false v.1 v.3
