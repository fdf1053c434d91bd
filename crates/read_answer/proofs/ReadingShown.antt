-- What the read program prints, by the answer of the reader's call.
-- Assumes nothing.
use mathlib.Core.Path.{◌≡◌, sym, ap, ◌∙◌}
use mathlib.Core.List.{[], ◌∷◌}
use Rattle.std.specs.Prelude.{Ok, Err}
use Rattle.model.specs.Answers.{number_of}
use Rattle.model.specs.Text.{Bytes}
use Rattle.model.specs.Printed.{number, line, printed, show_network, read_program}
use Rattle.model.specs.declared.refusal.Refusal.{Refusal}
use Rattle.model.proofs.Lists.{length_tabulate}
use Rattle.network_path.specs.Layout.{node_at}
use Rattle.network_reader.specs.declared.reader.Network.{Network}
use Rattle.network_reader.specs.Reads.{IsReading}

module _ (t : Bytes) where
  pub read_accepted : (n : Network) → IsReading t (Ok n)
      → read_program t ≡ line "ok" (number n.summary.count ∷ number n.summary.total ∷ number n.steering_count ∷ number n.start_length ∷ [])
  unfolding read_program
  read_accepted n is =
      ap (printed show_network) (sym is.reads) ∙ rw (length_tabulate (node_at n.nodes) 1 n.summary.count, is.filled.totals, is.filled.counted, is.filled.start_long)

  pub read_refused : (r : Refusal) → IsReading t (Err r) → read_program t ≡ line "fail" (number (number_of r.kind) ∷ number r.place ∷ [])
  unfolding read_program
  read_refused r is = ap (printed show_network) (sym is.reads)
