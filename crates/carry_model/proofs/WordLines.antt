-- The word that a line opens with tells what the line says: a node or `out`, a `hold`, or a target.
-- Assumes nothing.
use mathlib.Core.Path.{◌≡◌, refl, ap, ◌∙◌}
use mathlib.Core.Bool.{Bool, true, false, cond, not, ◌||◌}
use Rattle.std.specs.Prelude.{None as none, Some as some}
use borrow.Author.Tests.{not-true}
use Rattle.model.specs.NetworkText.{field, Line, node, out, hold, target, line_of}
use Rattle.model.specs.Text.{Bytes, bytes, fields, LineWord, Seg, Mux, Out, Hold, Write, Read, Csu, same, word_of}
use Rattle.model.proofs.LineForms.{line_form}
use Rattle.model.proofs.Lists.{or_parts, none_some, some_same}
use Rattle.model.proofs.PlanTexts.{same_is}
use Rattle.carry_model.specs.Continued.{is_hold, is_target_line, is_wiring}

abbrev pub spelled : LineWord → Bytes
spelled Seg = bytes "seg"
spelled Mux = bytes "mux"
spelled Out = bytes "out"
spelled Hold = bytes "hold"
spelled Write = bytes "write"
spelled Read = bytes "read"
spelled Csu = bytes "csu"

-- a word read is a word spelled
pub word_spelled : (f : Bytes) (w : LineWord) → word_of f ≡ some w → f ≡ spelled w
unfolding word_of
word_spelled f w e = go (same f (bytes "seg")) refl (same f (bytes "mux")) refl (same f (bytes "out")) refl (same f (bytes "hold")) refl (same f (bytes "write")) refl (same f (bytes "read")) refl (same f (bytes "csu")) refl e
  where
    spells : (v : LineWord) → same f (spelled v) ≡ true → some v ≡ some w → f ≡ spelled w
    spells v q r = same_is f (spelled v) q ∙ ap spelled (some_same v w r)

    go : (a : Bool) → same f (bytes "seg") ≡ a → (b : Bool) → same f (bytes "mux") ≡ b → (c : Bool) → same f (bytes "out") ≡ c → (d : Bool) → same f (bytes "hold") ≡ d
        → (h : Bool) → same f (bytes "write") ≡ h → (i : Bool) → same f (bytes "read") ≡ i → (j : Bool) → same f (bytes "csu") ≡ j
        → cond a (some Seg) (cond b (some Mux) (cond c (some Out) (cond d (some Hold) (cond h (some Write) (cond i (some Read) (cond j (some Csu) none)))))) ≡ some w → f ≡ spelled w
    go true p b q c r d s h t i u j v e = spells Seg p e
    go false p true q c r d s h t i u j v e = spells Mux q e
    go false p false q true r d s h t i u j v e = spells Out r e
    go false p false q false r true s h t i u j v e = spells Hold s e
    go false p false q false r false s true t i u j v e = spells Write t e
    go false p false q false r false s false t true u j v e = spells Read u e
    go false p false q false r false s false t false u true v e = spells Csu v e
    go false p false q false r false s false t false u false v e = absurd (none_some w e)

-- ---- what the word's tests say of a line that is read

abbrev pub Told : Bytes → Line → Type 0
Told l (node x v) = is_wiring l ≡ true
Told l (out k) = is_wiring l ≡ true
Told l (hold s bs) = is_hold l ≡ true
Told l (target t) = is_target_line l ≡ true

pub line_told : (l : Bytes) (line : Line) → line_of l ≡ some line → Told l line
unfolding same
line_told l = line_form (Told l) l record {
  of_seg = λ from len shadow v f. ap wiring (word_spelled (field (fields l) 0) Seg f.word);
  of_mux = λ s b ins f. ap wiring (word_spelled (field (fields l) 0) Mux f.word);
  of_out = λ n f. ap wiring (word_spelled (field (fields l) 0) Out f.word);
  of_hold = λ s bs f. ap (λ (w : Bytes). same w (bytes "hold")) (word_spelled (field (fields l) 0) Hold f.word);
  of_write = λ s bs f. ap targets (word_spelled (field (fields l) 0) Write f.word);
  of_read = λ s f. ap targets (word_spelled (field (fields l) 0) Read f.word);
}
  where
    targets : Bytes → Bool
    targets w = same w (bytes "write") || same w (bytes "read")

    wiring : Bytes → Bool
    wiring w = not (same w (bytes "hold") || targets w)

-- ---- a line is of one kind

pub hold_not_target : (l : Bytes) → is_hold l ≡ true → is_target_line l ≡ false
unfolding same
hold_not_target l e = ap (λ (w : Bytes). same w (bytes "write") || same w (bytes "read")) (same_is (field (fields l) 0) (bytes "hold") e)

pub wiring_not : (l : Bytes) → is_wiring l ≡ true → (is_hold l ≡ false) × (is_target_line l ≡ false)
wiring_not l e = or_parts (is_hold l) (is_target_line l) (not-true (is_hold l || is_target_line l) e)
