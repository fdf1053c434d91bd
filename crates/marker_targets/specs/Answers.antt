-- The marker's answer in the model's terms.
-- Assumes nothing.
use Rattle.std.specs.Prelude.{◌≡◌, List, map, ℕ, ◌≤◌, length, get_or, take, replicate, IfOk}
use Rattle.std.specs.Prelude.{Result as Answer}
use Rattle.model.specs.Answers.{answer}
use Rattle.model.specs.Result.{Result}
use Rattle.model.specs.declared.refusal.Refusal.{Refusal}
use Rattle.model.specs.Mark.{Got as ModelGot, Pass as ModelPass}
use Rattle.marker_targets.specs.declared.Got.{Got}
use Rattle.marker_targets.specs.declared.Gots.{Gots}
use Rattle.marker_targets.specs.declared.Pass.{Pass}

abbrev pub got_of : Got → ModelGot
got_of g = record { target_number = g.target; operation = g.operation; at_place = g.place }

-- the rows
abbrev pub gots_of : Gots → List ModelGot
gots_of g = map got_of (take g.count g.rows)

abbrev pub pass_of : Pass → ModelPass
pass_of p = record { operations = p.operations; clocks = p.clocks; gots = gots_of p.gots }

abbrev pub mark_of : Answer Pass Refusal → Result ModelPass
mark_of r = answer pass_of r

-- ---- behind the rows

abbrev pub no_got : Got
no_got = record { target = 0; operation = 0; place = 0 }

pub record ZerosBehind (g : Gots) : Type 0 where
  pub few : g.count ≤ 4
  pub size : length g.rows ≡ 4
  pub zeros : (i : ℕ) → g.count ≤ i → get_or g.rows i no_got ≡ no_got

abbrev pub no_gots : Gots
no_gots = record { count = 0; rows = replicate 4 no_got }

-- a pass has zeros behind its rows
abbrev pub RowsFor : Answer Pass Refusal → Type 0
RowsFor r = IfOk r (λ p. ZerosBehind p.gots)
