-- A network with another start and other targets (document 02, Change 3).
-- Assumes nothing.
use Rattle.std.specs.Prelude.{◌≡◌, List}
use Rattle.model.specs.Network.{Target, Config, Network}

-- every other field stays
abbrev pub restarted : Network → Config → List Target → Network
restarted net c ts = record { nodes = net.nodes; out = net.out; start = c; targets = ts }

-- "agree but for `hold` and targets": the same but for start and targets
abbrev pub SameWiring : Network → Network → Type 0
SameWiring net net' = restarted net net'.start net'.targets ≡ net'
