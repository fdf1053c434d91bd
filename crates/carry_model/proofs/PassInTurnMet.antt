-- What `JoinedTexts` asks for is met: A of document 01 read first, its branch left open, and then written from there.
-- Assumes nothing.
use mathlib.Core.Path.{refl}
use mathlib.Core.Bool.{true, false}
use Rattle.std.specs.Prelude.{None as none, Some as some}
use mathlib.Core.List.{[], ◌∷◌}
use native.Mathlib.Omega.{arith}
use Rattle.model.specs.Text.{bytes, parts, digits_from, decimal, same, word_of, bits_from}
use Rattle.model.specs.Network.{segment, multiplexer, read, write, Network, total_bits, is_steering, held_or, start_of}
use Rattle.model.specs.Path.{walk_from, csu}
use Rattle.model.specs.Plan.{Plan, config_after}
use Rattle.model.specs.Tap.{shift_clocks, op_clocks, plan_clocks}
use Rattle.model.specs.NetworkText.{seg_line, decimals, mux_line, number_line, bits_line, line_of, add_node, first_bad, add_out, is_held, add_hold, is_target, add_target, read_lines, read_network}
use Rattle.model.specs.PlanText.{scan_bits, csu_line, plan_lines, read_plan}
use Rattle.model.specs.Mark.{run_from, first_on, targets_from, mark_plan, mark}
use Rattle.carry_model.specs.Continued.{lines_where, PassInTurn}
use Rattle.carry_model.specs.CarryRows.{read_a, plan_read_a, open_a}

-- what the texts are read as, a list of bits with bit 0 first
abbrev first_net : Network
first_net = record {
  nodes = segment 0 4 true ∷ multiplexer 3 0 (0 ∷ 1 ∷ []) ∷ segment 2 1 true ∷ [];
  out = 3;
  start = (none ∷ none ∷ none ∷ none ∷ []) ∷ [] ∷ (some false ∷ []) ∷ [];
  targets = read 1 ∷ [];
}

abbrev second_net : Network
second_net = record {
  nodes = segment 0 4 true ∷ multiplexer 3 0 (0 ∷ 1 ∷ []) ∷ segment 2 1 true ∷ [];
  out = 3;
  start = (some false ∷ some true ∷ some false ∷ some false ∷ []) ∷ [] ∷ (some true ∷ []) ∷ [];
  targets = write 1 (false ∷ true ∷ false ∷ true ∷ []) ∷ [];
}

abbrev first_plan : Plan
first_plan = (true ∷ []) ∷ (true ∷ false ∷ true ∷ false ∷ false ∷ []) ∷ []

abbrev second_plan : Plan
second_plan = (false ∷ false ∷ true ∷ false ∷ true ∷ []) ∷ []

pub in_turn_met : (net : Network) × (net' : Network) × (plan : Plan) × (plan' : Plan) × PassInTurn (bytes read_a) (bytes plan_read_a) (bytes open_a) (bytes "csu\t00101\n") net net' plan plan'
unfolding lines_where config_after mark mark_plan targets_from first_on run_from read_plan plan_lines csu_line scan_bits plan_clocks op_clocks shift_clocks csu walk_from read_network read_lines add_target is_target add_hold is_held add_out first_bad add_node line_of bits_line number_line mux_line decimals seg_line start_of held_or is_steering total_bits bits_from word_of same decimal digits_from parts
in_turn_met = (
  first_net,
  second_net,
  first_plan,
  second_plan,
  record {
    first = refl;
    first_plan_law = refl;
    first_passes = (record { operations = 2; clocks = 16; gots = record { target_number = 1; operation = 2; at_place = 1 } ∷ [] }, refl);
    agree = refl;
    second = refl;
    second_plan_law = refl;
    from_there = refl;
    second_passes = (record { operations = 1; clocks = 10; gots = [] }, refl);
    at_most_16 = omega arith;
  },
)
