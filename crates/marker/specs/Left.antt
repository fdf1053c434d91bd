-- What a passed plan leaves in the marker's answer.
-- Assumes nothing.
use Rattle.std.specs.Prelude.{◌≡◌}
use Rattle.model.specs.Result.{ok}
use Rattle.model.specs.Text.{Bytes}
use Rattle.model.specs.Network.{Network as ModelNetwork, Config}
use Rattle.model.specs.Plan.{Plan}
use Rattle.model.specs.NetworkText.{read_network}
use Rattle.model.specs.PlanText.{read_plan}
use Rattle.model.specs.Mark.{Pass, mark_plan}
use Rattle.carry_model.specs.Carry.{left_by}
use Rattle.network_path.specs.Layout.{config_of}
use Rattle.network_path.specs.Answers.{ConfigSized}
use Rattle.network_path.specs.Stored.{Stored}
use Rattle.network_reader.specs.declared.reader.Network.{Network}
use Rattle.network_reader.specs.Reads.{recorded_network}
use Rattle.marker.specs.declared.Marked.{Marked}

-- the arrays hold the network's nodes and this configuration
pub record Stands (net : ModelNetwork) (c : Config) (r : Marked) : Type 0 where
  pub stored : Stored net r.nodes r.count net.out
  pub config : config_of r.nodes r.bits r.known r.count ≡ c
  pub sized : ConfigSized r.bits r.known

-- of a record's network
abbrev pub Leaves : Network → Bytes → Marked → Type 0
Leaves w p r = (plan : Plan) (pass : Pass) → read_plan p ≡ ok plan → mark_plan (recorded_network w) plan ≡ ok pass
    → Stands (recorded_network w) (left_by (recorded_network w) plan) r

-- of two texts
abbrev pub LeftAfter : Bytes → Bytes → Marked → Type 0
LeftAfter n p r = (net : ModelNetwork) (plan : Plan) (pass : Pass) → read_network n ≡ ok net → read_plan p ≡ ok plan → mark_plan net plan ≡ ok pass
    → Stands net (left_by net plan) r
