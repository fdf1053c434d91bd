-- An `out` line added.
-- Assumes nothing.
use mathlib.Core.Path.{◌≡◌, refl, sym, ap, ◌∙◌}
use mathlib.Core.Bool.{true, false}
use Rattle.std.specs.Prelude.{Option, None as none, Some as some}
use Prim.Native.Nat.{ℕ, suc, ◌≤◌, ◌<◌}
use lib.ListN.{length}
use borrow.Author.Tests.{lt-ltb, le-ltb}
use Rattle.model.specs.Result.{ok, refused}
use Rattle.model.specs.NetworkText.{Draft, has_out, first_bad, add_out, with_out, out_if}
use Rattle.model.proofs.Reading.{sound_out}
use Rattle.network_draft.specs.declared.store.Summary.{Summary}
use Rattle.network_draft.specs.Represents.{Arrays, Represents}

module _ (d : Draft) (n k : ℕ) where
  pub out_4 : has_out d ≡ true → add_out d n k ≡ refused 4 n
  unfolding add_out
  out_4 e = rw e

  module _ (e : has_out d ≡ false) where
    pub out_2 : length d.nodes < k → add_out d n k ≡ refused 2 n
    unfolding add_out
    out_2 h = rw (e, lt-ltb (length d.nodes) k h)

    by_first : k ≤ length d.nodes → (o : Option ℕ) → o ≡ first_bad d.nodes 1 d.nodes → add_out d n k ≡ out_if d k o
    unfolding add_out
    by_first h o f = rw (e, le-ltb (length d.nodes) k h, ← f)

    module _ (h : k ≤ length d.nodes) where
      pub out_5 : (m : ℕ) → some m ≡ first_bad d.nodes 1 d.nodes → add_out d n k ≡ refused 5 m
      out_5 m f = by_first h (some m) f

      pub out_added : none ≡ first_bad d.nodes 1 d.nodes → add_out d n k ≡ ok (with_out d k)
      out_added f = by_first h none f

module _ {a : Arrays} {t : Summary} {d : Draft} {n : ℕ} (w : Represents a t d n) (k : ℕ) (is : add_out d n k ≡ ok (with_out d k)) where
  pub fed : Represents a record t { has_out = true; out = k } (with_out d k) (suc n)
  fed = record {
    sized = w.sized;
    in_limits = record {
      nodes_fit = w.in_limits.nodes_fit;
      bits_fit = w.in_limits.bits_fit;
      targets_fit = w.in_limits.targets_fit;
      targets_room = w.in_limits.targets_room;
    };
    nodes_are = w.nodes_are;
    numbers_are = w.numbers_are;
    total_is = w.total_is;
    out_is = refl;
    targets_are = w.targets_are;
    numbers_of_targets = w.numbers_of_targets;
    steering_is = w.steering_is;
    steering_small = w.steering_small;
    flag_is = w.flag_is;
    start_is = w.start_is;
    bits_are = w.bits_are;
    known_are = w.known_are;
    sound = sound_out d (with_out d k) n k w.sound is;
  }
