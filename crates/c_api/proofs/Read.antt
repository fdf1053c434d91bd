-- What a reading's numbers are.
-- Assumes nothing.
use mathlib.Core.Path.{◌≡◌, sym, ap, ◌∙◌}
use mathlib.Core.List.{List, [], ◌∷◌}
use Prim.Native.Nat.{ℕ}
use lib.ListN.{length}
use Rattle.std.specs.Prelude.{Ok}
use Rattle.model.specs.Text.{Bytes}
use Rattle.model.specs.Network.{total_bits, steering_bits}
use Rattle.model.specs.Path.{path_in, path_length}
use Rattle.model.specs.NetworkText.{read_network}
use Rattle.model.proofs.Lists.{length_tabulate}
use Rattle.network_path.specs.Layout.{node_at}
use Rattle.network_reader.specs.declared.reader.Network.{Network}
use Rattle.network_reader.specs.Reads.{recorded_network, IsReading, RecordComplete}
use Rattle.c_api.specs.Numbers.{read_numbers}

module _ (t : Bytes) (r : Network) (is : IsReading t (Ok r)) where
  pub accepted_numbers : 0 ∷ r.summary.count ∷ r.summary.total ∷ r.steering_count ∷ r.start_length ∷ [] ≡ read_numbers (read_network t)
  accepted_numbers =
      let f : RecordComplete r = is.filled in
      let n = length_tabulate (node_at r.nodes) 1 r.summary.count in
      rw (f.totals, f.counted, f.start_long) (ap (λ (k : ℕ). 0 ∷ k ∷ rest) (sym n) ∙ ap read_numbers is.reads)
    where
      rest : List ℕ
      rest =
          total_bits (recorded_network r).nodes ∷ length (steering_bits (recorded_network r).nodes)
          ∷ path_length (path_in (recorded_network r) (recorded_network r).start) ∷ []
