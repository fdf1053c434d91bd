-- Demands of the call `read_network`, which is lent nothing: statements about whatever it returns by its contract. proofs/Demand.antt
-- and proofs/Fixed.antt prove them.
-- Assumes nothing.
use Rattle.std.specs.Prelude.{◌≡◌, Result as Answer, Err}
use Rattle.model.specs.Answers.{number_of}
use Rattle.model.specs.Text.{Bytes}
use Rattle.model.specs.Places.{NetworkRefusal}
use Rattle.model.specs.declared.refusal.Refusal.{Refusal}
use Rattle.network_reader.specs.declared.reader.Network.{Network}
use Rattle.network_reader.specs.Reads.{IsReading}

-- "Whatever text or length comes in, each call ends with a result or one listed number and place."
abbrev pub EndsListed : Type 0
EndsListed = (t : Bytes) (r : Answer Network Refusal) → IsReading t r → (e : Refusal) → r ≡ Err e → NetworkRefusal t (number_of e.kind) e.place

-- "Each public call has a contract that fixes the result .. for each input": no two readings of a text meet it
abbrev pub OneReading : Type 0
OneReading = (t : Bytes) (r q : Answer Network Refusal) → IsReading t r → IsReading t q → r ≡ q
