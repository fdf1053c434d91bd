-- What a parsed line means.
-- Assumes nothing.
use Rattle.std.specs.Prelude.{◌≡◌, true, cond, List, [], ◌∷◌, ℕ, ◌-◌, ◌≤◌, length, take, drop, get_or, eqb}
use Rattle.std.specs.Prelude.{Option, None as none, Some as some, option_map, unwrap_or, IfSome}
use Rattle.model.specs.Text.{Bytes, bind, decimal, bit, trit, bits_from}
use Rattle.model.specs.Network.{Node, segment, multiplexer, read, write}
use Rattle.model.specs.NetworkText.{Reset, Line, node, out, hold, target, field, kind, line_of, is_some}
use Rattle.text.specs.Places.{IsSplit}
use Rattle.network_line.specs.declared.NodeData.{NodeData}
use Rattle.network_line.specs.declared.NodeData.TheVariants.{Segment, Multiplexer}
use Rattle.network_line.specs.declared.Entry.{Entry}
use Rattle.network_line.specs.declared.Entry.TheVariants.{Node as NodeEntry, Out, Hold, Write, Read}
use Rattle.network_line.specs.declared.ParsedLine.{ParsedLine}

-- ---- the parts of a line

-- the count of a line's fields and the places of the first seven
abbrev pub FieldsPlaced : Bytes → List ℕ → ℕ → Type 0
FieldsPlaced line starts count = IsSplit line record { count = count; starts = starts }

-- the bytes of a line from start to one before end
pub record PartOf (line part : Bytes) : Type 0 where
  pub start : ℕ
  pub end : ℕ
  pub ordered : start ≤ end
  pub within : end ≤ length line
  pub bytes : part ≡ take (end - start) (drop start line)

-- ---- what a line says

abbrev pub node_for : NodeData → Node
node_for (Segment from len shadow) = segment from len shadow
node_for (Multiplexer s b n inputs) = multiplexer s b (take n inputs)

-- the bits of a BITS or RESET field of good form
abbrev pub bits_in : {A : Type 0} → (ℕ → Option A) → Bytes → List A
bits_in one f = unwrap_or (bits_from one [] f) []

-- the RESET of these bytes; no bytes stand for no field
abbrev pub reset_in : Bytes → Reset
reset_in [] = none
reset_in (b ∷ bs) = some (bits_in trit (b ∷ bs))

-- what an entry says, with the bytes of its BITS or RESET field
abbrev pub entry_means : Bytes → Entry → Line
entry_means f (NodeEntry x) = node (node_for x) (reset_in f)
entry_means f (Out k) = out k
entry_means f (Hold s) = hold s (bits_in trit f)
entry_means f (Write s) = target (write s (bits_in bit f))
entry_means f (Read s) = target (read s)

-- numbers of at most four digits; 2 to 4 inputs
abbrev pub SmallNode : NodeData → Type 0
SmallNode (Segment from len shadow) = (from ≤ 9999) × (len ≤ 9999)
SmallNode (Multiplexer s b n inputs) = (s ≤ 9999) × (b ≤ 9999) × (2 ≤ n) × (n ≤ 4) × (length inputs ≡ 4) × ((k : ℕ) → get_or inputs k 0 ≤ 9999)

-- what the form of the line gives besides
abbrev pub GoodEntry : Bytes → Entry → Type 0
GoodEntry f (NodeEntry x) = SmallNode x × (is_some (bits_from trit [] f) ≡ true)
GoodEntry f (Out k) = k ≤ 9999
GoodEntry f (Hold s) = (s ≤ 9999) × (is_some (bits_from trit [] f) ≡ true)
GoodEntry f (Write s) = (s ≤ 9999) × (is_some (bits_from bit [] f) ≡ true)
GoodEntry f (Read s) = s ≤ 9999

-- an entry without BITS and RESET that says o, or none
pub record IsEntry (o : Option Line) (r : Option Entry) : Type 0 where
  pub means : option_map (entry_means []) r ≡ o
  pub good : IfSome r (GoodEntry [])

-- a number of at most four digits
pub record IsSmallNumber (o r : Option ℕ) : Type 0 where
  pub value : r ≡ o
  pub small : IfSome r (λ n. n ≤ 9999)

-- the number of a line of two fields
abbrev pub number_of : List Bytes → Option ℕ
number_of fs = cond (eqb (length fs) 2) (decimal (field fs 1)) none

-- the segment of FROM, LEN and KIND
abbrev pub segment_by : List Bytes → Option Node
segment_by fs = bind (decimal (field fs 1)) (λ from. bind (decimal (field fs 2)) (λ len. bind (kind (field fs 3)) (λ shadow. some (segment from len shadow))))

pub record IsSegment (fs : List Bytes) (r : Option NodeData) : Type 0 where
  pub means : option_map node_for r ≡ segment_by fs
  pub small : IfSome r SmallNode

-- what a parsed line says
abbrev pub line_means : ParsedLine → Line
line_means p = entry_means p.bits.now p.entry

abbrev pub GoodLine : ParsedLine → Type 0
GoodLine p = GoodEntry p.bits.now p.entry

-- a parsed line without BITS and RESET
pub record IsPlain (e : Entry) (p : ParsedLine) : Type 0 where
  pub says : p.entry ≡ e
  pub empty : p.bits.now ≡ []

-- a parsed line that says o, with its BITS or RESET field as a part of the line, or none
pub record IsParsed (l : Bytes) (o : Option Line) (r : Option ParsedLine) : Type 0 where
  pub part : IfSome r (λ p. PartOf l p.bits.now)
  pub means : option_map line_means r ≡ o
  pub good : IfSome r GoodLine

abbrev pub IsParsedLine : Bytes → Option ParsedLine → Type 0
IsParsedLine l r = IsParsed l (line_of l) r
