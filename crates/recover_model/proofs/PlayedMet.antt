-- What `MarkedAsPlayed` asks for is met by network text A of document 01 and the clocks of its plan.
-- Assumes nothing.
use mathlib.Core.Path.{◌≡◌, refl}
use mathlib.Core.Bool.{true, false}
use Rattle.std.specs.Prelude.{None as none, Some as some}
use mathlib.Core.List.Memᴰ
use mathlib.Core.List.{[], ◌∷◌}
use Rattle.model.specs.Text.{bytes, parts, digits_from, decimal, same, word_of, bits_from}
use Rattle.model.specs.Result.{ok}
use Rattle.model.specs.Network.{segment, multiplexer, write, Network, total_bits, is_steering, held_or, start_of}
use Rattle.model.specs.Path.{walk_from, csu}
use Rattle.model.specs.Plan.{Plan}
use Rattle.model.specs.Tap.{shift_clocks, op_clocks, plan_clocks}
use Rattle.model.specs.NetworkText.{seg_line, decimals, mux_line, number_line, bits_line, line_of, add_node, first_bad, add_out, is_target, add_target, read_lines, read_network}
use Rattle.model.specs.PlanText.{scan_bits, csu_line, plan_lines, read_plan, write_plan}
use Rattle.model.specs.Mark.{run_from, first_on, targets_from, mark_plan, mark}
use Rattle.model.specs.Printed.{fields_of, clk_lines, clock_program}
use Rattle.model.specs.Drawn.{A, plan_a}
use Rattle.model.proofs.FrameStart.{starts_with_any}
use Rattle.recover_model.specs.ClockText.{paired, clk_line, joined_clocks}
use Rattle.recover_model.specs.Recover.{follow_clock, follow_clocks, follow_line, follow_lines, recover, recover_program}
use Rattle.recover_model.specs.Recovered.{PlayedAndMarked}

-- what A is read as, a list of bits with bit 0 first
abbrev net_a : Network
net_a = record {
  nodes = segment 0 4 true ∷ multiplexer 3 0 (0 ∷ 1 ∷ []) ∷ segment 2 1 true ∷ [];
  out = 3;
  start = (none ∷ none ∷ none ∷ none ∷ []) ∷ [] ∷ (some false ∷ []) ∷ [];
  targets = write 1 (false ∷ true ∷ false ∷ true ∷ []) ∷ [];
}

abbrev operations_a : Plan
operations_a = (true ∷ []) ∷ (false ∷ false ∷ true ∷ false ∷ true ∷ []) ∷ []

pub played_and_marked_met : PlayedAndMarked (bytes A) (clock_program (bytes plan_a))
unfolding clock_program clk_lines fields_of recover_program recover follow_lines follow_line follow_clocks follow_clock joined_clocks clk_line paired scan_bits write_plan mark mark_plan targets_from first_on run_from read_plan plan_lines csu_line plan_clocks op_clocks shift_clocks csu walk_from read_network read_lines add_target is_target add_out first_bad add_node line_of bits_line number_line mux_line decimals seg_line start_of held_or is_steering total_bits bits_from word_of same decimal digits_from parts
played_and_marked_met =
    let accepted : read_network (bytes A) ≡ ok net_a = refl in
    let start = starts_with_any (bytes A) net_a accepted (λ s j. false) (λ s. []) in
    record {
      net = net_a;
      plan = operations_a;
      clocks = plan_clocks operations_a;
      pass = record { operations = 2; clocks = 16; gots = [] };
      first = start.0;
      segment_number = 1;
      bits = false ∷ true ∷ false ∷ true ∷ [];
      accepted = accepted;
      given_back = refl;
      joined = refl;
      passes = refl;
      holds = start.1.holds;
      target = Memᴰ.head refl;
    }
