-- A `clk` line of good form and its clocks determine each other.
-- Assumes nothing.
use mathlib.Core.Path.{◌≡◌, refl, sym, ap, ◌∙◌, subst}
use mathlib.Core.Bool.{Bool, true, false, ◌&&◌}
use Rattle.std.specs.Prelude.{None as none, Some as some}
use mathlib.Core.List.{List, [], ◌∷◌, ◌++◌, map, append-nil}
use Prim.Native.Nat.{ℕ, suc, ◌+◌, ◌≤◌, ◌<◌}
use native.Mathlib.Omega.{arith}
use lib.ListN.{length, take, length-append, length-map}
use lib.Seq.{take-append_seam, take_at}
use lib.Dec.{eqb, ltb}
use borrow.Author.Tests.{ltb-true, lt-ltb, le-ltb}
use Rattle.model.specs.NetworkText.{field}
use Rattle.model.specs.PlanText.{scan_bits}
use Rattle.model.specs.Printed.{line, pins}
use Rattle.model.specs.Tap.{Clock, bit_byte}
use Rattle.model.specs.Text.{Bytes, bytes, tab, line_end, fields, same}
use Rattle.model.proofs.FieldLines.{two_fields, two_fields_law, two_free, two_length, two_printed}
use Rattle.model.proofs.LineForms.{bound, if_some}
use Rattle.model.proofs.Lists.{eqb_is, true_false, and_parts, none_some, some_same}
use Rattle.model.proofs.PlanTexts.{joined, parts_joined, Free, bits_free, no_end, scan_written, scan_bytes, same_is}
use Rattle.recover_model.specs.ClockText.{pin_bits, paired, clk_form, clk_line, max_line_bytes}
use Rattle.recover_model.specs.Recovered.{ClkLineOf, ClkLineExact}

abbrev pub tms_of : Clock → Bool
tms_of c = c.tms

abbrev pub tdi_of : Clock → Bool
tdi_of c = c.tdi

-- the line, without its byte 10
abbrev pub clk_text : List Clock → Bytes
clk_text cs = two_fields (bytes "clk") (pins tms_of cs) (pins tdi_of cs)

-- ---- a row of bits

pub pins_map : (pin : Clock → Bool) (cs : List Clock) → pins pin cs ≡ map bit_byte (map pin cs)
pins_map pin [] = refl
pins_map pin (c ∷ cs) = ap (λ (l : Bytes). bit_byte (pin c) ∷ l) (pins_map pin cs)

no_tab : (b : Bool) → eqb (bit_byte b) tab ≡ false
no_tab true = refl
no_tab false = refl

pins_free : (sep : ℕ) → ((b : Bool) → eqb (bit_byte b) sep ≡ false) → (pin : Clock → Bool) (cs : List Clock) → Free sep (pins pin cs)
pins_free sep other pin cs = rw (pins_map pin cs) (bits_free sep other (map pin cs))

pub length_pins : (pin : Clock → Bool) (cs : List Clock) → length (pins pin cs) ≡ length cs
length_pins pin cs = length-map cs (λ c. bit_byte (pin c))

pin_bits_law : (pin : Clock → Bool) (cs : List Clock) → 1 ≤ length cs → pin_bits (pins pin cs) ≡ some (map pin cs)
pin_bits_law pin [] l = absurd (omega arith)
pin_bits_law pin (c ∷ cs) l = ap scan_bits (pins_map pin (c ∷ cs)) ∙ scan_written (map pin (c ∷ cs))

record PinRow (f : Bytes) (bs : List Bool) : Type 0 where
  text : f ≡ map bit_byte bs
  some_bit : 1 ≤ length bs

pin_row : (f : Bytes) (bs : List Bool) → pin_bits f ≡ some bs → PinRow f bs
pin_row [] bs e = absurd (none_some bs e)
pin_row (b ∷ f) bs e =
    let z : map bit_byte bs ≡ b ∷ f = scan_bytes (b ∷ f) bs e in
    record { text = sym z; some_bit = let n : length (map bit_byte bs) ≡ suc (length f) = ap length z in omega (arith, length-map bs bit_byte) }

-- ---- clocks in pairs

paired_pins : (cs : List Clock) → paired (map tms_of cs) (map tdi_of cs) ≡ some cs
unfolding paired
paired_pins [] = refl
paired_pins (c ∷ cs) = rw (paired_pins cs)

record Pairs (ms ds : List Bool) (cs : List Clock) : Type 0 where
  tms_row_law : ms ≡ map tms_of cs
  tdi_row_law : ds ≡ map tdi_of cs

pairs : (ms ds : List Bool) (cs : List Clock) → paired ms ds ≡ some cs → Pairs ms ds cs
unfolding paired
pairs [] [] cs e = subst (Pairs [] []) (some_same [] cs e) record { tms_row_law = refl; tdi_row_law = refl }
pairs [] (d ∷ ds) cs e = absurd (none_some cs e)
pairs (m ∷ ms) [] cs e = absurd (none_some cs e)
pairs (m ∷ ms) (d ∷ ds) cs e =
    let b = bound (paired ms ds) _ cs e in
    let r = pairs ms ds b.value b.given in
    subst (Pairs (m ∷ ms) (d ∷ ds)) (some_same _ cs b.then) record { tms_row_law = ap (λ (l : List Bool). m ∷ l) r.tms_row_law; tdi_row_law = ap (λ (l : List Bool). d ∷ l) r.tdi_row_law }

-- ---- the line

clk_fields : (cs : List Clock) → fields (clk_text cs) ≡ bytes "clk" ∷ pins tms_of cs ∷ pins tdi_of cs ∷ []
clk_fields cs = two_fields_law (bytes "clk") (pins tms_of cs) (pins tdi_of cs) (refl, (refl, (refl, tt))) (pins_free tab no_tab tms_of cs) (pins_free tab no_tab tdi_of cs)

pub length_clk : (cs : List Clock) → length (clk_text cs) ≡ 5 + (length cs + length cs)
length_clk cs = two_length (bytes "clk") (pins tms_of cs) (pins tdi_of cs) ∙ omega (arith, length_pins tms_of cs, length_pins tdi_of cs)

-- its line has this form, with at least one clock, and with its byte 10 it is not too long
pub record ClkText (l : Bytes) (cs : List Clock) : Type 0 where
  pub text : l ≡ clk_text cs
  pub some_clock : 1 ≤ length cs
  pub short : length l < max_line_bytes

pub clk_written : (l : Bytes) (cs : List Clock) → ClkText l cs → clk_line l ≡ some cs
unfolding clk_line same
clk_written l cs t =
    let f : fields l ≡ bytes "clk" ∷ pins tms_of cs ∷ pins tdi_of cs ∷ [] = ap fields t.text ∙ clk_fields cs in
    rw (lt-ltb (length l) max_line_bytes t.short, f, pin_bits_law tms_of cs t.some_clock, pin_bits_law tdi_of cs t.some_clock) (paired_pins cs)

three : (l : Bytes) (fs : List Bytes) → fields l ≡ fs → eqb (length fs) 3 ≡ true → joined tab (field fs 0 ∷ field fs 1 ∷ field fs 2 ∷ []) ≡ l
unfolding joined
three l [] q e = absurd (true_false (sym e))
three l (a ∷ []) q e = absurd (true_false (sym e))
three l (a ∷ b ∷ []) q e = absurd (true_false (sym e))
three l (a ∷ b ∷ c ∷ []) q e = ap (joined tab) (sym q) ∙ parts_joined tab l
three l (a ∷ b ∷ c ∷ d ∷ fs) q e = let z = eqb_is (length (a ∷ b ∷ c ∷ d ∷ fs)) 3 e in absurd (omega arith)

pub clk_text_law : (l : Bytes) (cs : List Clock) → clk_line l ≡ some cs → ClkText l cs
unfolding clk_line joined
clk_text_law l cs e =
    let x = if_some (clk_form l) _ cs e in
    let fs = fields l in
    let p = and_parts (ltb (length l) max_line_bytes && eqb (length fs) 3) (same (field fs 0) (bytes "clk")) x.0 in
    let r = and_parts (ltb (length l) max_line_bytes) (eqb (length fs) 3) p.0 in
    let m = bound (pin_bits (field fs 1)) _ cs x.1 in
    let d = bound (pin_bits (field fs 2)) _ cs m.then in
    let y = pairs m.value d.value cs d.then in
    let a = pin_row (field fs 1) m.value m.given in
    let b = pin_row (field fs 2) d.value d.given in
    let w : field fs 0 ≡ bytes "clk" = same_is (field fs 0) (bytes "clk") p.1 in
    let u : field fs 1 ≡ pins tms_of cs = a.text ∙ ap (map bit_byte) y.tms_row_law ∙ sym (pins_map tms_of cs) in
    let v : field fs 2 ≡ pins tdi_of cs = b.text ∙ ap (map bit_byte) y.tdi_row_law ∙ sym (pins_map tdi_of cs) in
    record {
      text = sym (three l fs refl r.1) ∙ ap (λ (x : Bytes). x ++ tab ∷ (field fs 1 ++ tab ∷ field fs 2)) w
          ∙ ap (λ (x : Bytes). bytes "clk" ++ tab ∷ (x ++ tab ∷ field fs 2)) u ∙ ap (λ (x : Bytes). bytes "clk" ++ tab ∷ (pins tms_of cs ++ tab ∷ x)) v;
      some_clock = let n : length m.value ≡ length (map tms_of cs) = ap length y.tms_row_law in omega (arith, a.some_bit, length-map cs tms_of);
      short = ltb-true (length l) max_line_bytes r.0;
    }

-- a line may be refused as soon as this many bytes have come without a byte 10
pub too_long : (l : Bytes) → max_line_bytes ≤ length l → clk_line l ≡ none
unfolding clk_line
too_long l h = rw (le-ltb (length l) max_line_bytes h)

-- ---- as the clock program prints it

pub clk_free : (cs : List Clock) → Free line_end (clk_text cs)
clk_free cs = two_free (bytes "clk") (pins tms_of cs) (pins tdi_of cs) (refl, (refl, (refl, tt))) (pins_free line_end no_end tms_of cs) (pins_free line_end no_end tdi_of cs)

pub printed_line : (cs : List Clock) (rest : Bytes) → line "clk" (pins tms_of cs ∷ pins tdi_of cs ∷ []) ++ rest ≡ clk_text cs ++ line_end ∷ rest
printed_line cs rest = two_printed (bytes "clk") (pins tms_of cs) (pins tdi_of cs) rest

same_before : (a b : Bytes) (x : ℕ) → a ++ x ∷ [] ≡ b ++ x ∷ [] → a ≡ b
same_before a b x e =
    let n : length (a ++ x ∷ []) ≡ length (b ++ x ∷ []) = ap length e in
    let l : length b ≡ length a = omega (arith, length-append a (x ∷ []), length-append b (x ∷ [])) in
    sym (take-append_seam a (x ∷ [])) ∙ ap (take (length a)) e ∙ take_at b (x ∷ []) (length a) l

pub clk_line_exact : ClkLineExact
clk_line_exact l cs = (there, back)
  where
    as_printed : clk_text cs ++ line_end ∷ [] ≡ line "clk" (pins tms_of cs ∷ pins tdi_of cs ∷ [])
    as_printed = sym (printed_line cs []) ∙ append-nil (line "clk" (pins tms_of cs ∷ pins tdi_of cs ∷ []))

    there : clk_line l ≡ some cs → ClkLineOf l cs
    there e =
        let t = clk_text_law l cs e in
        record { text = ap (λ (x : Bytes). x ++ line_end ∷ []) t.text ∙ as_printed; not_empty = t.some_clock; fits = omega (arith, t.short) }

    back : ClkLineOf l cs → clk_line l ≡ some cs
    back o = clk_written l cs record { text = same_before l (clk_text cs) line_end (o.text ∙ sym as_printed); some_clock = o.not_empty; short = omega (arith, o.fits) }
