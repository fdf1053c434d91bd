-- Laws of a draft's targets: one that fits is of a segment, and the segment that a target of the counts names.
-- Assumes nothing.
use mathlib.Core.Path.{◌≡◌, refl}
use mathlib.Core.Bool.{true}
use Rattle.std.specs.Prelude.{Option, None as none, Some as some}
use mathlib.Core.List.{List}
use Prim.Native.Nat.{ℕ}
use Rattle.model.specs.Network.{Node, Target, read, write, at, no_node, is_segment}
use Rattle.model.specs.NetworkText.{target_segment, fits_target}
use Rattle.model.proofs.Lists.{and_parts}
use Rattle.network_draft.specs.declared.store.Summary.{Summary}
use Rattle.network_draft.specs.Represents.{target_with, stored_at, target_at}

pub fits_segment : (ns : List Node) (t : Target) → fits_target ns t ≡ true → is_segment (at ns (target_segment t) no_node) ≡ true
fits_segment ns (read s) e = e
fits_segment ns (write s bs) e = (and_parts (is_segment (at ns s no_node)) _ e).0

pub target_names : (ns : List ℕ) (t : Summary) (i : ℕ) → target_segment (target_at ns t i) ≡ (stored_at t i).segment
target_names ns t i = go (stored_at t i).write
  where
    go : (w : Option ℕ) → target_segment (target_with ns (stored_at t i).segment w) ≡ (stored_at t i).segment
    go none = refl
    go (some word) = refl
