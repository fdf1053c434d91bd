-- The definitions give every row of specs/RecoverRows.antt.
-- Assumes nothing.
use mathlib.Core.Path.{refl}
use Rattle.model.specs.Text.{parts, same}
use Rattle.model.specs.PlanText.{scan_bits, write_plan}
use Rattle.model.specs.Printed.{digits_of, fields_of}
use Rattle.recover_model.specs.ClockText.{paired, clk_line}
use Rattle.recover_model.specs.Recover.{follow_clock, follow_clocks, follow_line, follow_lines, recover, recover_program}
use Rattle.recover_model.specs.RecoverRows.{AllRecovered, recover_rows}

pub recovered_rows_hold : AllRecovered recover_rows
unfolding recover_rows recover_program recover follow_lines follow_line follow_clocks follow_clock clk_line paired scan_bits write_plan parts same digits_of fields_of
recovered_rows_hold = refl
