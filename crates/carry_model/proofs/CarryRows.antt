-- The definitions give every row of specs/CarryRows.antt.
-- Assumes nothing.
use mathlib.Core.Path.{refl}
use Rattle.model.specs.Text.{parts, digits_from, decimal, same, word_of, bits_from}
use Rattle.model.specs.Network.{total_bits, is_steering, held_or, start_of}
use Rattle.model.specs.Path.{walk_from, csu}
use Rattle.model.specs.Plan.{config_after}
use Rattle.model.specs.Tap.{shift_clocks, op_clocks, plan_clocks}
use Rattle.model.specs.NetworkText.{seg_line, decimals, mux_line, number_line, bits_line, line_of, add_node, first_bad, add_out, is_held, add_hold, is_target, add_target, read_lines, read_network}
use Rattle.model.specs.PlanText.{scan_bits, csu_line, plan_lines, read_plan}
use Rattle.model.specs.Mark.{run_from, first_on, targets_from, mark_plan}
use Rattle.model.specs.Printed.{fields_of, digits_of}
use Rattle.carry_model.specs.Carry.{hold_lines, carry, carry_program}
use Rattle.carry_model.specs.CarryRows.{AllCarried, carry_rows}

pub carried_rows_hold : AllCarried carry_rows
unfolding carry_rows carry_program carry hold_lines config_after digits_of fields_of mark_plan targets_from first_on run_from read_plan plan_lines csu_line scan_bits read_network read_lines add_target is_target add_hold is_held add_out first_bad add_node line_of bits_line number_line mux_line decimals seg_line plan_clocks op_clocks shift_clocks csu walk_from start_of held_or is_steering total_bits bits_from word_of same decimal digits_from parts
carried_rows_hold = refl
