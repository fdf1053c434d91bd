-- Results as rows that fix readings of document 02, Change 2: a text of clocks, and what the recover program prints.
-- Assumes nothing.
use Rattle.std.specs.Prelude.{◌≡◌, List, [], ◌∷◌, map}
use Prim.Native.String.{String}
use Rattle.model.specs.Text.{bytes}
use Rattle.recover_model.specs.Recover.{recover_program}

pub record RecoverRow : Type 0 where
  pub clocks : String
  pub output : String

abbrev pub recovers : String → String → RecoverRow
recovers clocks output = record { clocks = clocks; output = output }

abbrev pub AllRecovered : List RecoverRow → Type 0
AllRecovered rows = map (λ r. recover_program (bytes r.clocks)) rows ≡ map (λ r. bytes r.output) rows

unfoldable pub recover_rows : List RecoverRow
recover_rows =
    -- no line at all
    recovers "" ""
    -- waiting in Pause-DR, shifting on after Exit2-DR, TDI 1 outside Shift-DR
    ∷ recovers "clk\t100100100110\t111110110011\n" "csu\t100\n"
    -- straight from Update-DR to Select-DR; a passage without a clock in Shift-DR
    ∷ recovers "clk\t1001110110\t0001000000\n" "csu\t1\ncsu\t\n"
    -- waiting in Run-Test/Idle, and an operation split over two lines
    ∷ recovers "clk\t0100\t0000\nclk\t0110\t1100\n" "csu\t11\n"
    -- Exit1-DR, Pause-DR, Exit2-DR, Update-DR without more shifting
    ∷ recovers "clk\t10010110\t00000000\n" "csu\t0\n"
    -- entry to Select-IR; an end outside Run-Test/Idle
    ∷ recovers "clk\t0\t0\nclk\t11\t00\nclk\t0\t0\n" "fail\t19\t2\n"
    ∷ recovers "clk\t1\t0\nclk\t0\t0\n" "fail\t19\t2\n"
    -- unequal lengths, an empty field, an empty line, an unended last line
    ∷ recovers "clk\t10\t0\n" "fail\t19\t1\n"
    ∷ recovers "clk\t0\t00\n" "fail\t19\t1\n"
    ∷ recovers "clk\t\t\n" "fail\t19\t1\n"
    ∷ recovers "clk\t0\t0\n\nclk\t0\n" "fail\t19\t2\n"
    ∷ recovers "clk\t0\t0\nclk\t0\t0" "fail\t19\t2\n"
    -- the seventeenth entry to Capture-DR belongs to the line of the clock that leads there
    ∷ recovers "clk\t10110101101011010110101101011010110101101011010110101101011010110101101011010110\t00000000000000000000000000000000000000000000000000000000000000000000000000000000\nclk\t10\t00\nclk\t110\t000\n" "fail\t19\t2\n"
    ∷ []
