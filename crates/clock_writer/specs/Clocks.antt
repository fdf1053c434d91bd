-- The bytes of an operation's clocks, and what the clock writer answers and leaves.
-- Assumes nothing.
use Rattle.std.specs.Prelude.{◌≡◌, List, ◌++◌, ℕ, zero, suc, replicate}
use Rattle.std.specs.Prelude.{Result as Answer}
use Rattle.model.specs.Answers.{count_of}
use Rattle.model.specs.Text.{Bytes, bytes}
use Rattle.model.specs.Calls.{write_clocks}
use Rattle.model.specs.declared.refusal.Refusal.{Refusal}

-- "TMS 1, 0, 0, then n - 1 zeros and a 1, then 1, 0; for n = 0: 1, 0, 1, 1, 0."
abbrev pub tms_bytes : ℕ → Bytes
tms_bytes zero = bytes "10110"
tms_bytes (suc n) = bytes "100" ++ (replicate n 48 ++ bytes "110")

-- "TDI is 0 outside Shift-DR."
abbrev pub tdi_bytes : Bytes → Bytes
tdi_bytes bits = bytes "000" ++ (bits ++ bytes "00")

-- `write_clocks` returned w for a plan text, and left the buffers tms and tdi as tms' and tdi'
pub record WroteClocks (p : Bytes) (tms tdi : List ℕ) (w : Answer ℕ Refusal) (tms' tdi' : List ℕ) : Type 0 where
  pub result : count_of w ≡ (write_clocks p tms tdi).result
  pub tms_left : tms' ≡ (write_clocks p tms tdi).tms
  pub tdi_left : tdi' ≡ (write_clocks p tms tdi).tdi
