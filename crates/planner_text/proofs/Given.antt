-- The answer and the buffer by the room for the text: 13, or the text.
-- Assumes nothing.
use mathlib.Core.Path.{◌≡◌, sym, ap, ◌∙◌}
use mathlib.Core.List.{List}
use Prim.Native.Nat.{ℕ, ◌≤◌, ◌<◌}
use native.Mathlib.Omega.{arith}
use lib.ListN.{length}
use borrow.Author.Tests.{lt-ltb, le-ltb}
use Rattle.std.specs.Prelude.{Ok, Err}
use Rattle.model.specs.Result.{Result, ok, refused}
use Rattle.model.specs.Text.{Bytes}
use Rattle.model.specs.Calls.{write_over, written, count_of as length_of, if_room}
use Rattle.model.specs.declared.refusal.Kind.TheVariants.{Buffer}
use Rattle.planner_text.specs.Writing.{Given}

module _ (text : Bytes) (old : List ℕ) (needed : ℕ) (is : needed ≡ length text) where
  -- 13
  pub given_short : length old < needed → Given text old (Err record { kind = Buffer; place = needed }) old
  given_short h =
      let e : if_room (length old) text ≡ refused 13 needed = rw (lt-ltb (length old) (length text) (omega arith)) (ap (refused 13) (sym is)) in
      record { result = ap length_of (sym e); left = ap (λ (x : Result (List ℕ)). written x old) (sym e) }

  pub given_written : needed ≤ length old → (new : List ℕ) → new ≡ write_over text old → Given text old (Ok needed) new
  given_written h new w =
      let e : if_room (length old) text ≡ ok text = rw (le-ltb (length old) (length text) (omega arith)) in
      record { result = ap ok is ∙ ap length_of (sym e); left = w ∙ ap (λ (x : Result (List ℕ)). written x old) (sym e) }
