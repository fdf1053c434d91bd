-- What the clock program prints: the line of one operation, and the lines written one behind the other.
-- Assumes nothing.
use mathlib.Core.Path.{◌≡◌, refl, sym, ap, ◌∙◌}
use mathlib.Core.Bool.{Bool}
use mathlib.Core.List.{List, [], ◌∷◌, ◌++◌, map, append_assoc, append-nil}
use Prim.Native.Nat.{ℕ, zero, suc, ◌+◌, ◌*◌, ◌≤◌, ◌<◌}
use native.Mathlib.Omega.{arith}
use lib.ListN.{length, drop, replicate, length-append, length-map, length-replicate}
use Rattle.model.specs.Result.{ok, refused}
use Rattle.model.specs.Text.{Bytes, bytes}
use Rattle.model.specs.Plan.{Plan}
use Rattle.model.specs.PlanText.{read_plan, write_plan}
use Rattle.model.specs.Tap.{op_clocks, bit_byte}
use Rattle.model.specs.Printed.{number, fields_of, line, printed, pins, clk_lines, clock_program}
use Rattle.model.proofs.PlanTexts.{text_of}
use Rattle.plan_text.specs.Lines.{bit_run}
use Rattle.plan_text.specs.Writing.{write_at}
use Rattle.plan_text.proofs.Lines.{line_room, line_bits, line_next, line_more, line_none}
use Rattle.clock_writer.specs.Clocks.{tms_bytes, tdi_bytes}
use Rattle.clock_writer.proofs.Rows.{op_tms, op_tdi}
use Rattle.program_lines.specs.Puts.{Puts}
use Rattle.program_lines.proofs.Parts.{puts_none, puts_more}

-- ---- the line of one operation

tms_long : (n : ℕ) → length (tms_bytes n) ≡ 5 + n
tms_long zero = refl
tms_long (suc n) = omega (arith, length-append (replicate n 48) (bytes "110"), length-replicate {A = ℕ} n 48)

tdi_long : (bits : Bytes) → length (tdi_bytes bits) ≡ 5 + length bits
tdi_long bits = omega (arith, length-append bits (bytes "00"))

-- the line by the bytes of an operation's bits
abbrev pub bits_line : Bytes → Bytes
bits_line bits = line "clk" (tms_bytes (length bits) ∷ tdi_bytes bits ∷ [])

line_parts : (tms tdi : Bytes) → (((bytes "clk\t" ++ tms) ++ bytes "\t") ++ tdi) ++ bytes "\n" ≡ line "clk" (tms ∷ tdi ∷ [])
unfolding fields_of
line_parts tms tdi = simp append_assoc

line_long : (bits : Bytes) → length (bits_line bits) ≡ 16 + 2 * length bits
unfolding fields_of
line_long bits =
    let tms = tms_bytes (length bits) in
    omega (arith, length-append tms (9 ∷ (tdi_bytes bits ++ 10 ∷ [])), length-append (tdi_bytes bits) (10 ∷ []), tms_long (length bits), tdi_long bits)

-- its parts, each written behind the one before it
pub puts_operation : {at tms tms-end tdi tdi-end r : ℕ} {old a b c d new : List ℕ} (bits : Bytes) → at + (16 + 2 * length bits) ≤ length old
    → (tms ≡ at + 4) × (a ≡ write_at at (bytes "clk\t") old)
    → (tms-end ≡ tms + (5 + length bits)) × (b ≡ write_at tms (tms_bytes (length bits)) a)
    → (tdi ≡ tms-end + 1) × (c ≡ write_at tms-end (bytes "\t") b)
    → (tdi-end ≡ tdi + (5 + length bits)) × (d ≡ write_at tdi (tdi_bytes bits) c)
    → (r ≡ tdi-end + 1) × (new ≡ write_at tdi-end (bytes "\n") d) → Puts at (bits_line bits) old r new
puts_operation {at} {tms} {tms-end} {tdi} {tdi-end} {r} {old} {a} {b} {c} {d} {new} bits room e f g h k =
    let word : Puts at (bytes "clk\t") old tms a = record { behind = e.0; holds = e.1 } in
    let first : Puts tms (tms_bytes (length bits)) a tms-end b = record { behind = omega (arith, f.0, tms_long (length bits)); holds = f.1 } in
    let parted : Puts tms-end (bytes "\t") b tdi c = record { behind = g.0; holds = g.1 } in
    let second : Puts tdi (tdi_bytes bits) c tdi-end d = record { behind = omega (arith, h.0, tdi_long bits); holds = h.1 } in
    let ended : Puts tdi-end (bytes "\n") d r new = record { behind = k.0; holds = k.1 } in
    let whole = puts_more (puts_more (puts_more (puts_more word first (omega arith)) parted (omega arith)) second (omega arith)) ended (omega arith) in
    rw (line_parts (tms_bytes (length bits)) (tdi_bytes bits)) at whole

-- ---- the lines of a plan

abbrev clk_line : List Bool → Bytes
clk_line bs = line "clk" (pins (λ c. c.tms) (op_clocks bs) ∷ pins (λ c. c.tdi) (op_clocks bs) ∷ [])

line_is : (bs : List Bool) (bits : Bytes) → bits ≡ map bit_byte bs → bits_line bits ≡ clk_line bs
line_is bs bits e = rw (op_tms bs, op_tdi bs, e, length-map bs bit_byte)

lines_more : (plan : Plan) (bs : List Bool) → clk_lines (plan ++ bs ∷ []) ≡ clk_lines plan ++ clk_line bs
unfolding clk_lines
lines_more [] bs = append-nil (clk_line bs)
lines_more (op ∷ plan) bs = rw (lines_more plan bs, append_assoc (clk_line op) (clk_lines plan) (clk_line bs))

-- the lines of the operations before a place of the text are written
pub record Clocked (t old out : List ℕ) (next at : ℕ) : Type 0 where
  pub done : Plan
  pub rest : Plan
  pub whole : read_plan t ≡ ok (done ++ rest)
  pub left : drop at t ≡ write_plan rest
  pub puts : Puts 0 (clk_lines done) old next out
  pub place : next ≡ 2 * at + 6 * length done
  pub kept : length out ≡ length old

pub clocked_none : (t old : List ℕ) (plan : Plan) → read_plan t ≡ ok plan → Clocked t old old 0 0
unfolding clk_lines
clocked_none t old plan e = record { done = []; rest = plan; whole = e; left = (text_of t plan e).text; puts = puts_none 0 old; place = refl; kept = refl }

shown_all : (t : Bytes) (plan : Plan) → read_plan t ≡ ok plan → clock_program t ≡ clk_lines plan
unfolding clock_program
shown_all t plan e = ap (printed clk_lines) e

pub clocks_refused : (t : Bytes) (k place : ℕ) → read_plan t ≡ refused k place → clock_program t ≡ line "fail" (number k ∷ number place ∷ [])
unfolding clock_program
clocks_refused t k place e = ap (printed clk_lines) e

module _ (t old out : List ℕ) (next at : ℕ) (w : Clocked t old out next at) where
  pub clocked_all : length t ≤ at → Puts 0 (clock_program t) old next out
  clocked_all h =
      let e : read_plan t ≡ ok w.done = w.whole ∙ ap (λ (p : Plan). ok (w.done ++ p)) (line_none t at w.rest w.left h) ∙ ap ok (append-nil w.done) in
      rw (shown_all t w.done e) w.puts

  -- a line stands at the place; these are its bits
  module _ (more : at < length t) (bits : List ℕ) (is : bits ≡ map bit_byte (bit_run (drop (at + 4) t))) where
    first : (bs : List Bool) × (rest : Plan) × (w.rest ≡ bs ∷ rest)
    first = line_more t at w.rest w.left more

    here : drop at t ≡ write_plan (first.0 ∷ first.1)
    here = w.left ∙ ap write_plan first.2

    its_bits : bits ≡ map bit_byte first.0
    its_bits = is ∙ ap (map bit_byte) (line_bits t at first.0 first.1 here)

    as_many : length bits ≡ length first.0
    as_many = ap length its_bits ∙ length-map first.0 bit_byte

    few : length w.done + 1 ≤ 16
    few = omega (arith, (text_of t _ w.whole).few, length-append w.done w.rest, ap length first.2)

    pub line_within : at + (5 + length bits) ≤ length t
    line_within = omega (arith, as_many, line_room t at first.0 first.1 here)

    pub line_fits : 2 * length t + 96 ≤ length old → next + (16 + 2 * length bits) ≤ length out
    line_fits h = omega (arith, w.place, w.kept, few, line_within)

    pub clocked_line : 2 * length t + 96 ≤ length old → (next' at' : ℕ) (out' : List ℕ) → Puts next (bits_line bits) out next' out' → length out' ≡ length out
        → at' ≡ at + (5 + length bits) → Clocked t old out' next' at'
    clocked_line h next' at' out' p k n =
        let bs = first.0 in
        record {
          done = w.done ++ bs ∷ [];
          rest = first.1;
          whole = w.whole ∙ ap (λ (r : Plan). ok (w.done ++ r)) first.2 ∙ ap ok (sym (append_assoc w.done (bs ∷ []) first.1));
          left = ap (λ (m : ℕ). drop m t) (n ∙ ap (λ (m : ℕ). at + (5 + m)) as_many) ∙ line_next t at bs first.1 here;
          puts = rw (lines_more w.done bs, ← line_is bs bits its_bits) (puts_more w.puts p (omega (arith, line_fits h, w.kept)));
          place = omega (arith, p.behind, line_long bits, w.place, length-append w.done (bs ∷ []));
          kept = k ∙ w.kept;
        }
