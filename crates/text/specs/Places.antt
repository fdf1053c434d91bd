-- The end of the first part of a text, and the places of a line's fields.
-- Assumes nothing.
use Rattle.std.specs.Prelude.{◌≡◌, List, [], ℕ, ◌+◌, ◌-◌, ◌≤◌, ◌<◌, length, take, drop, get_or}
use Rattle.model.specs.Text.{Bytes, parts, fields}
use Rattle.text.specs.declared.Fields.{Fields}

-- the count of bytes before the first separator, or of all bytes where there is none
unfoldable pub bytes_before : ℕ → Bytes → ℕ
bytes_before sep t = length (get_or (parts sep t) 0 [])

-- the place of the first separator from `at` on, or the text's length
pub record IsEnd (sep : ℕ) (t : Bytes) (at end : ℕ) : Type 0 where
  pub found : end ≡ at + bytes_before sep (drop at t)
  pub within : end ≤ length t

-- field k of a line lies from its start to one before the next field's start
pub record FieldAt (line : Bytes) (starts : List ℕ) (k : ℕ) : Type 0 where
  pub ordered : get_or starts k 0 < get_or starts (k + 1) 0
  pub within : get_or starts (k + 1) 0 ≤ length line + 1
  pub content : take (get_or starts (k + 1) 0 - 1 - get_or starts k 0) (drop (get_or starts k 0) line) ≡ get_or (fields line) k []

-- the places of the first seven fields, as far as the line has them
abbrev pub FieldStarts : Bytes → List ℕ → Type 0
FieldStarts line starts = (k : ℕ) → k < 7 → k < length (fields line) → FieldAt line starts k

pub record IsSplit (line : Bytes) (r : Fields) : Type 0 where
  pub counted : r.count ≡ length (fields line)
  pub placed : FieldStarts line r.starts
