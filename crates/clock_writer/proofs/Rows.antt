-- The bytes of an operation's clocks, and those of a plan's.
-- Assumes nothing.
use mathlib.Core.Path.{◌≡◌, refl, sym, ap, ◌∙◌}
use mathlib.Core.Bool.{Bool, true, false}
use mathlib.Core.List.{List, [], ◌∷◌, ◌++◌, map, append_assoc, append-nil, map-append}
use Prim.Native.Nat.{ℕ, zero, suc, ◌-◌}
use native.Mathlib.Omega.{arith}
use lib.ListN.{length, replicate, length-map}
use Rattle.model.specs.Text.{Bytes, bytes}
use Rattle.model.specs.Plan.{Plan}
use Rattle.model.specs.PlanText.{write_plan}
use Rattle.model.specs.Tap.{Clock, clk, shift_clocks, op_clocks, plan_clocks, bit_byte}
use Rattle.model.proofs.PlanTexts.{clocks_bytes}
use Rattle.clock_writer.specs.Clocks.{tms_bytes, tdi_bytes}

-- one byte for each clock
abbrev pub row_bytes : (Clock → Bool) → List Clock → Bytes
row_bytes pin cs = map (λ c. bit_byte (pin c)) cs

abbrev pub tms_row : List Clock → Bytes
tms_row cs = row_bytes (λ c. c.tms) cs

abbrev pub tdi_row : List Clock → Bytes
tdi_row cs = row_bytes (λ c. c.tdi) cs

-- ---- an operation

-- n - 1 zeros and a 1
shift_tms : (b : Bool) (bs : List Bool) → tms_row (shift_clocks (b ∷ bs)) ≡ replicate (length bs) 48 ++ bytes "1"
unfolding shift_clocks
shift_tms b [] = refl
shift_tms b (d ∷ bs) = ap (λ (l : Bytes). 48 ∷ l) (shift_tms d bs)

shift_tdi : (bs : List Bool) → tdi_row (shift_clocks bs) ≡ map bit_byte bs
unfolding shift_clocks
shift_tdi [] = refl
shift_tdi (b ∷ bs) = ap (λ (l : Bytes). bit_byte b ∷ l) (shift_tdi bs)

abbrev ending : List Clock
ending = clk true false ∷ clk false false ∷ []

pub op_tms : (bs : List Bool) → tms_row (op_clocks bs) ≡ tms_bytes (length bs)
unfolding op_clocks shift_clocks
op_tms [] = refl
op_tms (b ∷ bs) =
    ap (λ (l : Bytes). bytes "100" ++ l)
    (map-append (λ c. bit_byte c.tms) (shift_clocks (b ∷ bs)) ending ∙ ap (λ (l : Bytes). l ++ bytes "10") (shift_tms b bs)
    ∙ append_assoc (replicate (length bs) 48) (bytes "1") (bytes "10"))

pub op_tdi : (bs : List Bool) → tdi_row (op_clocks bs) ≡ tdi_bytes (map bit_byte bs)
unfolding op_clocks
op_tdi bs = ap (λ (l : Bytes). bytes "000" ++ l) (map-append (λ c. bit_byte c.tdi) (shift_clocks bs) ending ∙ ap (λ (l : Bytes). l ++ bytes "00") (shift_tdi bs))

-- an operation with bits
pub tms_some : (n : ℕ) → (n ≡ 0 → ⊥) → tms_bytes n ≡ bytes "100" ++ (replicate (n - 1) 48 ++ bytes "110")
tms_some zero h = absurd (h refl)
tms_some (suc n) h = ap (λ (k : ℕ). bytes "100" ++ (replicate k 48 ++ bytes "110")) (let e : n ≡ suc n - 1 = omega arith in e)

-- ---- a plan

clocks_behind : (plan : Plan) (bs : List Bool) → plan_clocks (plan ++ bs ∷ []) ≡ plan_clocks plan ++ op_clocks bs
unfolding plan_clocks
clocks_behind [] bs = append-nil (op_clocks bs)
clocks_behind (op ∷ plan) bs = rw (clocks_behind plan bs, append_assoc (op_clocks op) (plan_clocks plan) (op_clocks bs))

pub row_behind : (pin : Clock → Bool) (plan : Plan) (bs : List Bool)
    → row_bytes pin (plan_clocks (plan ++ bs ∷ [])) ≡ row_bytes pin (plan_clocks plan) ++ row_bytes pin (op_clocks bs)
row_behind pin plan bs = ap (row_bytes pin) (clocks_behind plan bs) ∙ map-append (λ c. bit_byte (pin c)) (plan_clocks plan) (op_clocks bs)

-- as many bytes as the plan's text
pub row_length : (pin : Clock → Bool) (plan : Plan) → length (row_bytes pin (plan_clocks plan)) ≡ length (write_plan plan)
row_length pin plan = length-map (plan_clocks plan) (λ c. bit_byte (pin c)) ∙ sym (clocks_bytes plan)
