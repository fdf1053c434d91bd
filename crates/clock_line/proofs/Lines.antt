-- The places of a line's clocks: the tests of the code hold exactly of the lines of good form.
-- Assumes nothing.
use mathlib.Core.Path.{◌≡◌, refl, sym, ap, ◌∙◌, subst}
use mathlib.Core.Bool.{Bool, true, false}
use Rattle.std.specs.Prelude.{Option, None as none, Some as some, option_map, Decides}
use Rattle.std.specs.List.{starts_with}
use Rattle.std.specs.Option.{is_some}
use Rattle.std.proofs.lemmas.Slice.Eq.{slice_eq-Decides}
use Rattle.std.proofs.lemmas.Bool.Decides.{Decides-eqb}
use mathlib.Core.List.{List, [], ◌∷◌, ◌++◌, map, append-nil}
use Prim.Native.Nat.{ℕ, suc, ◌+◌, ◌≤◌, ◌<◌}
use native.Mathlib.Omega.{arith}
use lib.ListN.{length, take, drop, get_or, length-map, length-drop, take-append-drop}
use lib.Dec.{eqb, leb, ltb}
use lib.Seq.{drop-cons, drop-drop, drop_at, take_at, get_or_at, get_or-drop, take_all}
use borrow.Author.Tests.{ltb-true, ltb-false, leb-false}
use Rattle.model.specs.Printed.{pins}
use Rattle.model.specs.Tap.{Clock, clk, bit_byte}
use Rattle.model.specs.Text.{Bytes, bytes, tab}
use Rattle.model.proofs.Lists.{true_false, none_some, some_same}
use Rattle.recover_model.specs.ClockText.{clk_line, max_line_bytes}
use Rattle.recover_model.proofs.ClockLines.{tms_of, tdi_of, clk_text, length_clk, length_pins, pins_map, clk_written, clk_text_law}
use Rattle.text_runs.specs.Runs.{in_run, run_length}
use Rattle.text_runs.proofs.RunLaws.{run_within, run_bytes}
use Rattle.plan_text.specs.Lines.{bit_run}
use Rattle.plan_text.proofs.Bits.{run_is, run_front}
use Rattle.clock_line.specs.Line.{FitsClocks}

-- ---- a line of good form

-- its two rows of bits
record Rows (l : Bytes) (cs : List Clock) : Type 0 where
  tms : take (length cs) (drop 4 l) ≡ pins tms_of cs
  tdi : drop (5 + length cs) l ≡ pins tdi_of cs
  length_is : 5 + (length cs + length cs) ≡ length l

behind_tab : (a b : Bytes) (x n : ℕ) → length a ≡ n → drop (1 + n) (a ++ x ∷ b) ≡ b
behind_tab a b x n e =
    ap (λ (k : ℕ). drop k (a ++ x ∷ b)) (let z : 1 + n ≡ n + 1 = omega arith in z) ∙ sym (drop-drop 1 n (a ++ x ∷ b)) ∙ ap (drop 1) (drop_at a (x ∷ b) n e)

past_word : (l : Bytes) (k n : ℕ) → k ≡ 4 + n → drop k l ≡ drop n (drop 4 l)
past_word l k n e = ap (λ (j : ℕ). drop j l) e ∙ sym (drop-drop n 4 l)

written_rows : (cs : List Clock) → Rows (clk_text cs) cs
written_rows cs = record {
  tms = take_at (pins tms_of cs) (tab ∷ pins tdi_of cs) (length cs) (length_pins tms_of cs);
  tdi = past_word (clk_text cs) (5 + length cs) (1 + length cs) (omega arith) ∙ behind_tab (pins tms_of cs) (pins tdi_of cs) tab (length cs) (length_pins tms_of cs);
  length_is = sym (length_clk cs);
}

rows_of : (l : Bytes) (cs : List Clock) → clk_line l ≡ some cs → Rows l cs
rows_of l cs e = rw (clk_text_law l cs e).text (written_rows cs)

-- ---- the tests

-- what the code tests of a line of n clocks
pub record Tested (l : Bytes) (n : ℕ) : Type 0 where
  pub word : take 4 l ≡ bytes "clk\t"
  pub tms : length (bit_run (drop 4 l)) ≡ n
  pub middle : get_or l (4 + n) 0 ≡ tab
  pub tdi : length (bit_run (drop (4 + n + 1) l)) ≡ n

-- a run of n bytes, with a byte behind them that is not of it, or none
run_exact : (good : ℕ → Bool) (t : Bytes) (n : ℕ) → n ≤ run_length good t → (n < run_length good t → ⊥) → run_length good t ≡ n
run_exact good t n h stop = go (ltb n (run_length good t)) refl
  where
    go : (x : Bool) → ltb n (run_length good t) ≡ x → run_length good t ≡ n
    go true e = absurd (stop (ltb-true n _ e))
    go false e = omega (arith, ltb-false n (run_length good t) e)

-- the tests as the code makes them
pub passed : (l : Bytes) (n : ℕ) → length l ≡ 5 + (n + n) → take 4 l ≡ bytes "clk\t" → get_or l (4 + n) 0 ≡ tab
    → n ≤ run_length (in_run 49) (drop 4 l) → n ≤ run_length (in_run 49) (drop (4 + n + 1) l) → Tested l n
passed l n long word middle tms tdi = record {
  word = word;
  middle = middle;
  tms = sym (run_is (drop 4 l)) ∙ run_exact (in_run 49) (drop 4 l) n tms (λ h.
      let b = run_bytes (in_run 49) (drop 4 l) n h in
      true_false (sym b ∙ ap (in_run 49) (get_or-drop 4 l n 0 ∙ middle)));
  tdi = sym (run_is (drop (4 + n + 1) l)) ∙ run_exact (in_run 49) (drop (4 + n + 1) l) n tdi (λ h. omega (arith, run_within (in_run 49) (drop (4 + n + 1) l), length-drop (4 + n + 1) l));
}

pub no_tms : (l : Bytes) (n : ℕ) → leb n (run_length (in_run 49) (drop 4 l)) ≡ false → Tested l n → ⊥
no_tms l n e t = omega (arith, run_is (drop 4 l), t.tms, leb-false n (run_length (in_run 49) (drop 4 l)) e)

pub no_tdi : (l : Bytes) (n : ℕ) → leb n (run_length (in_run 49) (drop (4 + n + 1) l)) ≡ false → Tested l n → ⊥
no_tdi l n e t = omega (arith, run_is (drop (4 + n + 1) l), t.tdi, leb-false n (run_length (in_run 49) (drop (4 + n + 1) l)) e)

behind_middle : (l : Bytes) (n : ℕ) → drop (4 + n + 1) l ≡ drop (5 + n) l
behind_middle l n = ap (λ (k : ℕ). drop k l) (let z : 4 + n + 1 ≡ 5 + n = omega arith in z)

-- bits, and none behind them
bits_run : (bs : List Bool) (t : Bytes) → bit_run t ≡ [] → bit_run (map bit_byte bs ++ t) ≡ bs
unfolding bit_run
bits_run [] t e = e
bits_run (true ∷ bs) t e = ap (λ (l : List Bool). true ∷ l) (bits_run bs t e)
bits_run (false ∷ bs) t e = ap (λ (l : List Bool). false ∷ l) (bits_run bs t e)

pins_run : (pin : Clock → Bool) (cs : List Clock) (t : Bytes) → bit_run t ≡ [] → length (bit_run (pins pin cs ++ t)) ≡ length cs
pins_run pin cs t e = ap (λ (l : Bytes). length (bit_run (l ++ t))) (pins_map pin cs) ∙ ap length (bits_run (map pin cs) t e) ∙ length-map cs pin

written_tested : (cs : List Clock) → Tested (clk_text cs) (length cs)
unfolding bit_run
written_tested cs = record {
  word = refl;
  tms = pins_run tms_of cs (tab ∷ pins tdi_of cs) refl;
  middle = sym (get_or-drop 4 (clk_text cs) (length cs) 0) ∙ get_or_at (pins tms_of cs) tab (pins tdi_of cs) 0 (length cs) (length_pins tms_of cs);
  tdi = ap (λ (l : Bytes). length (bit_run l)) (behind_middle (clk_text cs) (length cs) ∙ (written_rows cs).tdi ∙ sym (append-nil (pins tdi_of cs))) ∙ pins_run tdi_of cs [] refl;
}

-- the word as the code tests it
word_is : (l : Bytes) (r : Bool) → r ≡ starts_with eqb l (bytes "clk\t") → Decides r (bytes "clk\t" ≡ take 4 l)
word_is l r e = slice_eq-Decides Decides-eqb (bytes "clk\t") (take 4 l) r e

pub word_here : (l : Bytes) (r : Bool) → r ≡ starts_with eqb l (bytes "clk\t") → r ≡ true → take 4 l ≡ bytes "clk\t"
word_here l r e t = sym ((word_is l r e).0 t)

pub no_word : (l : Bytes) (n : ℕ) (r : Bool) → r ≡ starts_with eqb l (bytes "clk\t") → r ≡ false → Tested l n → ⊥
no_word l n r e f t = true_false (sym ((word_is l r e).1 (sym t.word)) ∙ f)

-- ---- no clocks

no_clocks : (o : Option (List Clock)) → ((cs : List Clock) → o ≡ some cs → ⊥) → none ≡ option_map length o
no_clocks none f = refl
no_clocks (some cs) f = absurd (f cs refl)

pub no_room : (l : Bytes) → FitsClocks (length l) none → none ≡ option_map length (clk_line l)
no_room l room = no_clocks (clk_line l) (λ cs e.
    let t = clk_text_law l cs e in
    none_some _ (room.only (length cs) t.some_clock (ap length t.text ∙ length_clk cs) t.short))

module _ (l : Bytes) (n : ℕ) (room : FitsClocks (length l) (some n)) where
  as_many : (cs : List Clock) → clk_line l ≡ some cs → length cs ≡ n
  as_many cs e =
      let t = clk_text_law l cs e in
      sym (some_same _ _ (room.only (length cs) t.some_clock (ap length t.text ∙ length_clk cs) t.short))

  pub not_tested : (Tested l n → ⊥) → none ≡ option_map length (clk_line l)
  not_tested f = no_clocks (clk_line l) (λ cs e. f (subst (Tested l) (as_many cs e) (rw (clk_text_law l cs e).text (written_tested cs))))

-- ---- clocks

-- one for each pair of bits
abbrev together : List Bool → List Bool → List Clock
together [] ds = []
together (m ∷ ms) [] = []
together (m ∷ ms) (d ∷ ds) = clk m d ∷ together ms ds

together_rows : (ms ds : List Bool) → length ms ≡ length ds → (map tms_of (together ms ds) ≡ ms) × (map tdi_of (together ms ds) ≡ ds)
together_rows [] [] e = (refl, refl)
together_rows [] (d ∷ ds) e = absurd (omega arith)
together_rows (m ∷ ms) [] e = absurd (omega arith)
together_rows (m ∷ ms) (d ∷ ds) e = let r = together_rows ms ds (omega arith) in (ap (λ (l : List Bool). m ∷ l) r.0, ap (λ (l : List Bool). d ∷ l) r.1)

module _ (l : Bytes) (n : ℕ) (fits : length l ≡ 5 + (n + n)) (short : length l < max_line_bytes) (some_clock : 1 ≤ n) (good : Tested l n) where
  abbrev ms : List Bool
  ms = bit_run (drop 4 l)

  abbrev ds : List Bool
  ds = bit_run (drop (5 + n) l)

  tdi_count : length ds ≡ n
  tdi_count = ap (λ (x : Bytes). length (bit_run x)) (sym (behind_middle l n)) ∙ good.tdi

  tms_row_law : take n (drop 4 l) ≡ map bit_byte ms
  tms_row_law = ap (λ (k : ℕ). take k (drop 4 l)) (sym good.tms) ∙ (run_front (drop 4 l)).1

  tdi_row_law : drop (5 + n) l ≡ map bit_byte ds
  tdi_row_law =
      sym (take_all n (drop (5 + n) l) (omega (arith, length-drop (5 + n) l)))
      ∙ ap (λ (k : ℕ). take k (drop (5 + n) l)) (sym tdi_count) ∙ (run_front (drop (5 + n) l)).1

  behind_word : drop 4 l ≡ map bit_byte ms ++ tab ∷ map bit_byte ds
  behind_word =
      sym (take-append-drop n (drop 4 l)) ∙ ap (λ (x : Bytes). x ++ drop n (drop 4 l)) tms_row_law
      ∙ ap (λ (x : Bytes). map bit_byte ms ++ x)
      (drop-drop n 4 l ∙ drop-cons l (4 + n) 0 (omega arith) ∙ ap (λ (b : ℕ). b ∷ drop (suc (4 + n)) l) good.middle
      ∙ ap (λ (x : Bytes). tab ∷ x) (ap (λ (k : ℕ). drop k l) (let z : suc (4 + n) ≡ 5 + n = omega arith in z) ∙ tdi_row_law))

  whole : l ≡ clk_text (together ms ds)
  whole =
      let r = together_rows ms ds (good.tms ∙ sym tdi_count) in
      let a : map bit_byte ms ≡ pins tms_of (together ms ds) = ap (map bit_byte) (sym r.0) ∙ sym (pins_map tms_of (together ms ds)) in
      let b : map bit_byte ds ≡ pins tdi_of (together ms ds) = ap (map bit_byte) (sym r.1) ∙ sym (pins_map tdi_of (together ms ds)) in
      sym (take-append-drop 4 l) ∙ ap (λ (x : Bytes). x ++ drop 4 l) good.word
      ∙ ap (λ (x : Bytes). bytes "clk\t" ++ x) (behind_word ∙ ap (λ (x : Bytes). x ++ tab ∷ map bit_byte ds) a ∙ ap (λ (x : Bytes). pins tms_of (together ms ds) ++ tab ∷ x) b)

  count_is : length (together ms ds) ≡ n
  count_is = omega (arith, fits, ap length whole ∙ length_clk (together ms ds))

  pub counted : some n ≡ option_map length (clk_line l)
  counted = sym (ap (option_map length) (clk_written l (together ms ds) record { text = whole; some_clock = omega (arith, count_is); short = short }) ∙ ap some count_is)

-- ---- by its count

-- a line with n clocks, as the code takes it
pub record HasClocks (l : Bytes) (n : ℕ) : Type 0 where
  pub clocks : List Clock
  pub good : clk_line l ≡ some clocks
  pub tms : take n (drop 4 l) ≡ pins tms_of clocks
  pub tdi : drop (5 + n) l ≡ pins tdi_of clocks
  pub length_is : 5 + (n + n) ≡ length l
  pub short : length l < max_line_bytes
  pub count : length clocks ≡ n

pub has_clocks : (l : Bytes) (n : ℕ) (cs : List Clock) → clk_line l ≡ some cs → length cs ≡ n → HasClocks l n
has_clocks l n cs e m =
    let r = rows_of l cs e in
    record { clocks = cs; good = e; tms = rw m at r.tms; tdi = rw m at r.tdi; length_is = rw m at r.length_is; short = (clk_text_law l cs e).short; count = m }

pub counted_clocks : (l : Bytes) (n : ℕ) → some n ≡ option_map length (clk_line l) → HasClocks l n
counted_clocks l n e = go (clk_line l) refl e
  where
    go : (o : Option (List Clock)) → clk_line l ≡ o → some n ≡ option_map length o → HasClocks l n
    go none q c = absurd (none_some n (sym c))
    go (some cs) q c = has_clocks l n cs q (sym (some_same _ _ c))

-- one where a count is known
pub some_clocks : (l : Bytes) (o : Option ℕ) → true ≡ is_some o → o ≡ option_map length (clk_line l) → (n : ℕ) × HasClocks l n
some_clocks l none t e = absurd (true_false t)
some_clocks l (some n) t e = (n, counted_clocks l n e)

pub uncounted : (l : Bytes) → none ≡ option_map length (clk_line l) → clk_line l ≡ none
uncounted l e = go (clk_line l) refl e
  where
    go : (o : Option (List Clock)) → clk_line l ≡ o → none ≡ option_map length o → o ≡ none
    go none q c = refl
    go (some cs) q c = absurd (none_some _ c)
