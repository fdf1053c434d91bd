-- Demands of the printing functions: statements about whatever they return and leave by their contracts. A program writes the
-- first r bytes of the buffer. proofs/Demand.antt proves them from the model's theorems.
-- Assumes nothing.
use Rattle.std.specs.Prelude.{◌≡◌, ℕ, take}
use mathlib.Core.List.{List, Memᴰ}
use Rattle.model.specs.Text.{Bytes, bytes}
use Rattle.model.specs.Drawn.{ProgramRow, prints, starred}
use Rattle.program_text.specs.Printing.{PrintedTo}

-- what a program writes is what it is to print
abbrev pub WritesShown : Type 0
WritesShown = (shown : Bytes) (old : List ℕ) (r : ℕ) (new : List ℕ) → PrintedTo shown old r new → take r new ≡ shown

-- "starred ones are proved": for each starred row, whatever the buffer held, these bytes are written
abbrev pub StarredWritten : Type 0
StarredWritten = (k : ProgramRow) → Memᴰ k starred → (old : List ℕ) (r : ℕ) (new : List ℕ)
    → PrintedTo (prints k.program (bytes k.network) (bytes k.plan)) old r new → take r new ≡ bytes k.output
