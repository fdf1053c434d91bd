-- The clocks of a plan text written line by line: what holds where a line starts, and where the text ends.
-- Assumes nothing.
use mathlib.Core.Path.{◌≡◌, refl, sym, ap, ◌∙◌}
use mathlib.Core.Bool.{Bool}
use mathlib.Core.List.{List, [], ◌∷◌, ◌++◌, map, append_assoc, append-nil}
use Prim.Native.Nat.{ℕ, ◌+◌, ◌≤◌, ◌<◌}
use native.Mathlib.Omega.{arith}
use lib.ListN.{length, drop, length-map, length-append}
use Rattle.model.specs.Result.{ok}
use Rattle.model.specs.Text.{Bytes}
use Rattle.model.specs.Plan.{Plan}
use Rattle.model.specs.PlanText.{read_plan, write_plan}
use Rattle.model.specs.Tap.{Clock, op_clocks, plan_clocks, bit_byte}
use Rattle.model.specs.Calls.{write_over, written, clocks_of, row_of}
use Rattle.model.proofs.PlanTexts.{text_of, length_line, plan_behind}
use Rattle.plan_text.specs.Lines.{bit_run}
use Rattle.plan_text.specs.Writing.{write_at}
use Rattle.plan_text.proofs.Lines.{line_room, line_bits, line_next, line_more, line_none}
use Rattle.plan_text.proofs.Writing.{over_none, over_length, over_behind}
use Rattle.clock_writer.specs.Clocks.{tms_bytes, tdi_bytes}
use Rattle.clock_writer.proofs.Rows.{row_bytes, op_tms, op_tdi, row_behind, row_length}

-- the clocks of the lines before a place are written there, in one row
abbrev RowTo : (Clock → Bool) → Plan → List ℕ → List ℕ → Type 0
RowTo pin done old now = now ≡ write_over (row_bytes pin (plan_clocks done)) old

pub record WrittenTo (t tms₀ tdi₀ tms tdi : List ℕ) (at : ℕ) : Type 0 where
  pub done : Plan
  pub rest : Plan
  pub whole : read_plan t ≡ ok (done ++ rest)
  pub place : length (write_plan done) ≡ at
  pub left : drop at t ≡ write_plan rest
  pub tms_row_law : RowTo (λ c. c.tms) done tms₀ tms
  pub tdi_row_law : RowTo (λ c. c.tdi) done tdi₀ tdi

row_none : (pin : Clock → Bool) (old : List ℕ) → RowTo pin [] old old
unfolding plan_clocks
row_none pin old = sym (over_none old)

pub written_none : (t tms tdi : List ℕ) (plan : Plan) → read_plan t ≡ ok plan → WrittenTo t tms tdi tms tdi 0
unfolding write_plan
written_none t tms tdi plan e =
    record { done = []; rest = plan; whole = e; place = refl; left = (text_of t plan e).text; tms_row_law = row_none (λ c. c.tms) tms; tdi_row_law = row_none (λ c. c.tdi) tdi }

no_text : length (write_plan []) ≡ 0
unfolding write_plan
no_text = refl

-- one line more
line_place : (done : Plan) (bs : List Bool) → length (write_plan (done ++ bs ∷ [])) ≡ length (write_plan done) + (5 + length bs)
line_place done bs =
    ap length (plan_behind done (bs ∷ [])) ∙ omega (arith, length-append (write_plan done) (write_plan (bs ∷ [])), length_line bs [], no_text)

-- one row, one line more
row_next : (pin : Clock → Bool) (done : Plan) (bs : List Bool) (old now after : List ℕ) (at : ℕ) → length (write_plan done) ≡ at → at ≤ length old
    → RowTo pin done old now → after ≡ write_at at (row_bytes pin (op_clocks bs)) now → RowTo pin (done ++ bs ∷ []) old after
row_next pin done bs old now after at n h e f =
    f ∙ ap (write_at at (row_bytes pin (op_clocks bs))) e
    ∙ over_behind (row_bytes pin (plan_clocks done)) (row_bytes pin (op_clocks bs)) old at (row_length pin done ∙ n) h
    ∙ ap (λ (l : List ℕ). write_over l old) (sym (row_behind pin done bs))

-- a row keeps the buffer's length
row_kept : (pin : Clock → Bool) (done : Plan) (old now : List ℕ) (at : ℕ) → length (write_plan done) ≡ at → at ≤ length old
    → RowTo pin done old now → length now ≡ length old
row_kept pin done old now at n h e = ap length e ∙ over_length (row_bytes pin (plan_clocks done)) old (omega (arith, row_length pin done))

-- one row at the text's end
row_end : (pin : Clock → Bool) (t : Bytes) (done : Plan) (old now : List ℕ) → read_plan t ≡ ok done
    → RowTo pin done old now → now ≡ written (row_of pin (clocks_of t)) old
unfolding clocks_of
row_end pin t done old now e r = rw e r

module _ (t tms₀ tdi₀ tms tdi : List ℕ) (at : ℕ) (w : WrittenTo t tms₀ tdi₀ tms tdi at) where
  pub written_within : at ≤ length t
  written_within =
      let e : t ≡ write_plan (w.done ++ w.rest) = (text_of t _ w.whole).text in
      omega (arith, w.place, ap length (e ∙ plan_behind w.done w.rest), length-append (write_plan w.done) (write_plan w.rest))

  pub written_kept : length t ≤ length tms₀ → length t ≤ length tdi₀ → (length tms ≡ length tms₀) × (length tdi ≡ length tdi₀)
  written_kept h k =
      let l = written_within in
      (row_kept (λ c. c.tms) w.done tms₀ tms at w.place (omega arith) w.tms_row_law, row_kept (λ c. c.tdi) w.done tdi₀ tdi at w.place (omega arith) w.tdi_row_law)

  pub written_all : length t ≤ at → (tms ≡ written (row_of (λ c. c.tms) (clocks_of t)) tms₀) × (tdi ≡ written (row_of (λ c. c.tdi) (clocks_of t)) tdi₀)
  written_all h =
      let e : read_plan t ≡ ok w.done = w.whole ∙ ap (λ (p : Plan). ok (w.done ++ p)) (line_none t at w.rest w.left h) ∙ ap ok (append-nil w.done) in
      (row_end (λ c. c.tms) t w.done tms₀ tms e w.tms_row_law, row_end (λ c. c.tdi) t w.done tdi₀ tdi e w.tdi_row_law)

  -- a line stands at the place; these are its bits
  module _ (more : at < length t) (bits : List ℕ) (is : bits ≡ map bit_byte (bit_run (drop (at + 4) t))) where
    line : (bs : List Bool) × (rest : Plan) × (w.rest ≡ bs ∷ rest)
    line = line_more t at w.rest w.left more

    here : drop at t ≡ write_plan (line.0 ∷ line.1)
    here = w.left ∙ ap write_plan line.2

    its_bits : bits ≡ map bit_byte line.0
    its_bits = is ∙ ap (map bit_byte) (line_bits t at line.0 line.1 here)

    as_many : length bits ≡ length line.0
    as_many = ap length its_bits ∙ length-map line.0 bit_byte

    pub line_within : at + (5 + length bits) ≤ length t
    line_within = omega (arith, as_many, line_room t at line.0 line.1 here)

    pub written_line : length t ≤ length tms₀ → length t ≤ length tdi₀ → (tms' tdi' : List ℕ) (next : ℕ)
        → tms' ≡ write_at at (tms_bytes (length bits)) tms → tdi' ≡ write_at at (tdi_bytes bits) tdi → next ≡ at + (5 + length bits)
        → WrittenTo t tms₀ tdi₀ tms' tdi' next
    written_line h k tms' tdi' next p q n =
        let bs = line.0 in
        let l = line_within in
        record {
          done = w.done ++ bs ∷ [];
          rest = line.1;
          whole = w.whole ∙ ap (λ (r : Plan). ok (w.done ++ r)) line.2 ∙ ap ok (sym (append_assoc w.done (bs ∷ []) line.1));
          place = line_place w.done bs ∙ omega (arith, w.place, as_many);
          left = ap (λ (m : ℕ). drop m t) (n ∙ ap (λ (m : ℕ). at + (5 + m)) as_many) ∙ line_next t at bs line.1 here;
          tms_row_law = row_next (λ c. c.tms) w.done bs tms₀ tms tms' at w.place (omega arith) w.tms_row_law
              (p ∙ ap (λ (r : Bytes). write_at at r tms) (ap tms_bytes as_many ∙ sym (op_tms bs)));
          tdi_row_law = row_next (λ c. c.tdi) w.done bs tdi₀ tdi tdi' at w.place (omega arith) w.tdi_row_law
              (q ∙ ap (λ (r : Bytes). write_at at r tdi) (ap tdi_bytes its_bits ∙ sym (op_tdi bs)));
        }
