-- The first line of a text: when it has good form, and what stands in the text then.
-- Assumes nothing.
use mathlib.Core.Path.{◌≡◌, refl, sym, ap, ◌∙◌}
use mathlib.Core.Bool.{Bool, true, false, cond}
use Rattle.std.specs.Prelude.{None as none, Some as some}
use mathlib.Core.List.{List, [], ◌∷◌, ◌++◌, map, append_assoc}
use Prim.Native.Nat.{ℕ, suc, ◌+◌, ◌-◌, ◌≤◌, ◌<◌}
use native.Mathlib.Omega.{arith}
use lib.ListN.{length, take, drop, get_or, take-append-drop, length-append, length-map, length-drop, get_or-eq_default}
use lib.Seq.{drop-cons, drop-drop, drop_at, get_or_at, get_or-drop, take_all}
use lib.Dec.{eqb, ltb}
use Rattle.std.specs.List.{starts_with}
use borrow.Author.Tests.{eqb-true, ltb-true, ltb-false}
use Rattle.model.specs.Text.{Bytes, bytes, bind, line_end, same}
use Rattle.model.specs.Plan.{Plan}
use Rattle.model.specs.PlanText.{write_plan}
use Rattle.model.specs.Tap.{bit_byte}
use Rattle.model.proofs.Lists.{none_some, some_same}
use Rattle.model.proofs.PlanTexts.{csu_bytes, same_is, length_line}
use Rattle.text.proofs.Words.{same_turned}
use Rattle.plan_text.specs.Lines.{bit_run, ended, first_line, next_from}
use Rattle.plan_text.proofs.Bits.{run_front, run_written}

-- ---- a first line of good form

-- a byte other than 0 lies in the text
get_d_inside : (t : Bytes) (n : ℕ) → (get_or t n 0 ≡ 0 → ⊥) → n < length t
get_d_inside t n h = go (ltb n (length t)) refl
  where
    go : (x : Bool) → ltb n (length t) ≡ x → n < length t
    go true e = ltb-true n (length t) e
    go false e = absurd (h (get_or-eq_default t 0 (ltb-false n (length t) e)))

pub first_written : (bs : List Bool) (t : Bytes) → first_line (csu_bytes bs ++ line_end ∷ t) ≡ some bs
unfolding first_line same
first_written bs t =
    let e : get_or (map bit_byte bs ++ line_end ∷ t) (length bs) 0 ≡ line_end = get_or_at (map bit_byte bs) line_end t 0 (length bs) (length-map bs bit_byte) in
    rw (run_written bs t, e)

-- bits with a line's end behind them
ended_text : (t : Bytes) (bs : List Bool) → ended t ≡ some bs → t ≡ map bit_byte bs ++ line_end ∷ drop (suc (length bs)) t
ended_text t bs e = go (eqb (get_or t (length (bit_run t)) 0) line_end) refl e
  where
    go : (x : Bool) → eqb (get_or t (length (bit_run t)) 0) line_end ≡ x → cond x (some (bit_run t)) none ≡ some bs → t ≡ map bit_byte bs ++ line_end ∷ drop (suc (length bs)) t
    go false p q = absurd (none_some bs q)
    go true p q =
        let n = length (bit_run t) in
        let byte : get_or t n 0 ≡ line_end = eqb-true _ _ p in
        let inside : n < length t = get_d_inside t n (λ z. let y : ◌≡◌ {A = ℕ} 0 line_end = sym z ∙ byte in omega arith) in
        rw (← some_same _ bs q) (sym (take-append-drop n t) ∙ ap (λ (l : Bytes). l ++ drop n t) (run_front t).1
        ∙ ap (λ (l : Bytes). map bit_byte (bit_run t) ++ l) (drop-cons t n 0 inside ∙ ap (λ (b : ℕ). b ∷ drop (suc n) t) byte))

pub first_text : (t : Bytes) (bs : List Bool) → first_line t ≡ some bs → t ≡ csu_bytes bs ++ line_end ∷ drop (5 + length bs) t
unfolding first_line
first_text t bs e = go (same (take 4 t) (bytes "csu\t")) refl e
  where
    go : (x : Bool) → same (take 4 t) (bytes "csu\t") ≡ x → cond x (ended (drop 4 t)) none ≡ some bs → t ≡ csu_bytes bs ++ line_end ∷ drop (5 + length bs) t
    go false p q = absurd (none_some bs q)
    go true p q =
        sym (take-append-drop 4 t) ∙ ap (λ (l : Bytes). l ++ drop 4 t) (same_is (take 4 t) (bytes "csu\t") p)
        ∙ ap (λ (l : Bytes). bytes "csu\t" ++ l) (ended_text (drop 4 t) bs q)
        ∙ ap (λ (l : Bytes). csu_bytes bs ++ line_end ∷ l)
        (drop-drop (suc (length bs)) 4 t ∙ ap (λ (k : ℕ). drop k t) (let z : 4 + suc (length bs) ≡ 5 + length bs = omega arith in z))

pub first_room : (t : Bytes) (bs : List Bool) → first_line t ≡ some bs → 5 + length bs ≤ length t
first_room t bs e =
    let u = drop (5 + length bs) t in
    omega (arith, ap length (first_text t bs e), length-append (map bit_byte bs) (line_end ∷ u), length-map bs bit_byte)

-- ---- the line from a place on, by the code's tests

module _ (t : Bytes) (at : ℕ) (x : Bool) (word : x ≡ starts_with eqb (take (length t - at) (drop at t)) (bytes "csu\t")) where
  by_word : first_line (drop at t) ≡ cond x (ended (drop 4 (drop at t))) none
  unfolding first_line
  by_word =
      let whole : take (length t - at) (drop at t) ≡ drop at t = take_all (length t - at) (drop at t) (omega (arith, length-drop at t)) in
      ap (λ (y : Bool). cond y (ended (drop 4 (drop at t))) none)
      (same_turned (take 4 (drop at t)) (bytes "csu\t") ∙ sym (rw whole at word))

  pub next_other : x ≡ false → none ≡ next_from t at
  next_other e = rw (by_word, e)

  -- the test of the byte behind the bits
  pub next_by_end : (end : ℕ) → end ≡ at + 4 + length (bit_run (drop (at + 4) t)) → x ≡ true → cond (eqb (get_or t end 0) line_end) (some (end + 1)) none ≡ next_from t at
  next_by_end end is e =
      let u : drop 4 (drop at t) ≡ drop (at + 4) t = drop-drop 4 at t in
      let b : get_or (drop (at + 4) t) (length (bit_run (drop (at + 4) t))) 0 ≡ get_or t end 0 = get_or-drop (at + 4) t _ 0 ∙ ap (λ (k : ℕ). get_or t k 0) (sym is) in
      rw (by_word, e, u, b) (go (eqb (get_or t end 0) line_end))
    where
      go : (y : Bool) → cond y (some (end + 1)) none ≡ bind (cond y (some (bit_run (drop (at + 4) t))) none) (λ bs. some (at + (5 + length bs)))
      go true = ap some (omega arith)
      go false = refl

-- ---- a plan's lines from a place on, for loops over a text of good form

line_text_law : (bs : List Bool) (rest : Plan) → write_plan (bs ∷ rest) ≡ (csu_bytes bs ++ line_end ∷ []) ++ write_plan rest
unfolding write_plan
line_text_law bs rest = rw (append_assoc (map bit_byte bs) (line_end ∷ []) (write_plan rest))

line_length : (bs : List Bool) → length (csu_bytes bs ++ line_end ∷ []) ≡ 5 + length bs
line_length bs = length-append (csu_bytes bs) (line_end ∷ []) ∙ omega (arith, length-map bs bit_byte)

module _ (t : Bytes) (at : ℕ) (bs : List Bool) (rest : Plan) (here : drop at t ≡ write_plan (bs ∷ rest)) where
  -- the line lies in the text
  pub line_room : at + (5 + length bs) ≤ length t
  line_room = omega (arith, length-drop at t, ap length here ∙ length_line bs rest)

  -- its bits stand 4 places behind its start
  pub line_bits : bit_run (drop (at + 4) t) ≡ bs
  unfolding write_plan
  line_bits = ap bit_run (sym (drop-drop 4 at t) ∙ ap (drop 4) here) ∙ run_written bs (write_plan rest)

  -- and the next line stands behind it
  pub line_next : drop (at + (5 + length bs)) t ≡ write_plan rest
  line_next =
      sym (drop-drop (5 + length bs) at t) ∙ ap (drop (5 + length bs)) (here ∙ line_text_law bs rest)
      ∙ drop_at (csu_bytes bs ++ line_end ∷ []) (write_plan rest) (5 + length bs) (line_length bs)

-- where the text goes on there is a line
pub line_more : (t : Bytes) (at : ℕ) (plan : Plan) → drop at t ≡ write_plan plan → at < length t → (bs : List Bool) × (rest : Plan) × (plan ≡ bs ∷ rest)
unfolding write_plan
line_more t at [] e h = absurd (omega (arith, length-drop at t, ap length e))
line_more t at (bs ∷ rest) e h = (bs, rest, refl)

-- where it ends there is none
pub line_none : (t : Bytes) (at : ℕ) (plan : Plan) → drop at t ≡ write_plan plan → length t ≤ at → plan ≡ []
line_none t at [] e h = refl
line_none t at (bs ∷ rest) e h = absurd (omega (arith, line_room t at bs rest e))
