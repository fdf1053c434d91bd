-- The demand of the call `read_network`, from the model's theorem.
-- Assumes nothing.
use mathlib.Core.Path.{subst}
use Rattle.model.specs.Places.{Listed, NetworkRefusal}
use Rattle.model.proofs.Demands.{refusals}
use Rattle.network_reader.specs.Reads.{IsReading}
use Rattle.network_reader.specs.Demand.{EndsListed}
use Rattle.network_reader.proofs.Records.{reading_rejected}

pub ends_listed : EndsListed
ends_listed t r is e q = subst (Listed (NetworkRefusal t)) (reading_rejected t e (subst (IsReading t) q is)) (refusals.reader t)
