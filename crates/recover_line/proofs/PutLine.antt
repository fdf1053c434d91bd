-- A line of good form written: its rows of bits are those of its clocks.
-- Assumes nothing.
use mathlib.Core.Path.{◌≡◌, refl, sym, ap, ◌∙◌}
use mathlib.Core.Bool.{Bool}
use Rattle.std.specs.Prelude.{Option}
use mathlib.Core.List.{List, map}
use Prim.Native.Nat.{ℕ, ◌+◌, ◌-◌, ◌/◌, ◌≤◌}
use native.Mathlib.Omega.{arith}
use lib.ListN.{length, take, drop}
use Rattle.model.specs.Printed.{pins}
use Rattle.model.specs.Tap.{Clock, state_at, state_number, state_after}
use Rattle.model.specs.Text.{Bytes}
use Rattle.recover_model.specs.ClockText.{clk_line}
use Rattle.recover_model.specs.RecoverCalls.{added_text}
use Rattle.recover_model.proofs.ClockLines.{tms_of, tdi_of, length_pins}
use Rattle.plan_text.specs.Writing.{write_at}
use Rattle.clock_writer.specs.Machine.{is_one}
use Rattle.clock_line.proofs.Lines.{HasClocks, has_clocks}
use Rattle.clock_follower.specs.Stretches.{clocks_from, AreBits, Wrote}
use Rattle.recover_line.specs.Answers.{line_clocks, text_of_line, CanPut, PutsLine}
use Rattle.recover_line.proofs.Pins.{ones, are_bits, clocks_from_law}

-- ---- the rows of bits of a line with n clocks

module _ (l : Bytes) (n : ℕ) (h : HasClocks l n) (tms tdi : Bytes) (tms-is : tms ≡ take n (drop 4 l)) (tdi-is : tdi ≡ drop (5 + n) l) where
  abbrev cs : List Clock
  cs = h.clocks

  tms_row_law : tms ≡ pins tms_of cs
  tms_row_law = tms-is ∙ h.tms

  tdi_row_law : tdi ≡ pins tdi_of cs
  tdi_row_law = tdi-is ∙ h.tdi

  pub rows_as_long : length tdi ≡ length tms
  rows_as_long = rw (tms_row_law, tdi_row_law) (length_pins tdi_of cs ∙ sym (length_pins tms_of cs))

  pub row_of_bits : AreBits tdi
  row_of_bits = rw tdi_row_law (are_bits tdi_of cs)

  pub rows_text : (state : ℕ) → added_text (state_at state) (clocks_from tms tdi) ≡ text_of_line state l
  rows_text state = ap (added_text (state_at state)) (rw (tms_row_law, tdi_row_law) (clocks_from_law cs) ∙ ap line_clocks (sym h.good))

  pub row_of_tms : map is_one tms ≡ map tms_of (line_clocks (clk_line l))
  row_of_tms = ap (map is_one) tms_row_law ∙ ones tms_of cs ∙ ap (λ (o : Option (List Clock)). map tms_of (line_clocks o)) (sym h.good)

-- ---- a line written

module _ (state at : ℕ) (l plan : Bytes) (can : CanPut state at l plan) where
  -- the count of its clocks by its length
  abbrev count : ℕ
  count = (length l - 5) / 2

  pub its_clocks : HasClocks l count
  its_clocks =
      let h = has_clocks l (length can.clocks) can.clocks can.good refl in
      has_clocks l count can.clocks can.good (omega (arith, h.length_is))

  module _ (tms tdi : Bytes) (tms-is : tms ≡ take count (drop 4 l)) (tdi-is : tdi ≡ drop (5 + count) l) where
    text_is : added_text (state_at state) (clocks_from tms tdi) ≡ text_of_line state l
    text_is = rows_text l count its_clocks tms tdi tms-is tdi-is state

    pub put_ready : ((length tdi ≡ length tms) × AreBits tdi) × (at + length (added_text (state_at state) (clocks_from tms tdi)) ≤ length plan)
    put_ready = (
      (rows_as_long l count its_clocks tms tdi tms-is tdi-is, row_of_bits l count its_clocks tms tdi tms-is tdi-is),
      omega (arith, can.room, ap length text_is),
    )

    pub put_done : (state' at' : ℕ) (plan' : Bytes) → Wrote state at tms tdi plan state' at' plan' → PutsLine state at l plan state' at' plan'
    put_done state' at' plan' w = record {
      leads = w.leads ∙ ap (λ (ms : List Bool). state_number (state_after (state_at state) ms)) (row_of_tms l count its_clocks tms tdi tms-is tdi-is);
      behind = w.behind ∙ ap (λ (x : Bytes). at + length x) text_is;
      left = w.left ∙ ap (λ (x : Bytes). write_at at x plan) text_is;
    }
