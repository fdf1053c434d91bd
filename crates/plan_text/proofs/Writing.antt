-- A buffer written from a place on: what is written and what stays, one byte more, a write behind another or over it, and the writes of
-- a plan's lines in turn.
-- Assumes nothing.
use mathlib.Core.Path.{◌≡◌, refl, sym, ap, ◌∙◌}
use mathlib.Core.Bool.{Bool}
use mathlib.Core.List.{List, [], ◌∷◌, ◌++◌, map, append_assoc}
use Prim.Native.Nat.{ℕ, suc, ◌+◌, ◌≤◌, ◌<◌}
use native.Mathlib.Omega.{arith}
use native.Mathlib.Nat.{add-zero, zero-add}
use native.Mathlib.Numerals.{add-one}
use lib.ListN.{length, take, drop, set, get_or, length-append, length-drop, take-append-drop, get_or-append}
use lib.Seq.{length-take-le, take-suc, drop-cons, drop-drop, set_at, take_at, drop_at, take_all, get_or-append-add, get_or-take, get_or-drop, ext_get_or}
use Rattle.model.specs.Plan.{Plan}
use Rattle.model.specs.PlanText.{write_plan}
use Rattle.model.specs.Tap.{bit_byte}
use Rattle.model.specs.Calls.{write_over}
use Rattle.model.proofs.PlanTexts.{plan_behind}
use Rattle.plan_text.specs.Writing.{write_at, line_text}

-- ---- one write

pub write_none : (at : ℕ) (old : List ℕ) → write_at at [] old ≡ old
unfolding write_at
write_none at old = rw (add-zero) (take-append-drop at old)

module _ (at : ℕ) (new old : List ℕ) (fits : at + length new ≤ length old) where
  front : length (take at old ++ new) ≡ at + length new
  front = omega (arith, length-append (take at old) new, length-take-le at old (omega arith))

  split : write_at at new old ≡ (take at old ++ new) ++ drop (at + length new) old
  unfolding write_at
  split = sym (append_assoc (take at old) new (drop (at + length new) old))

  pub write_length : length (write_at at new old) ≡ length old
  write_length = ap length split ∙ omega (arith, front, length-append (take at old ++ new) (drop (at + length new) old), length-drop (at + length new) old)

  -- a second write behind the first
  pub write_behind : (more : List ℕ) → write_at (at + length new) more (write_at at new old) ≡ write_at at (new ++ more) old
  unfolding write_at
  write_behind more =
      let whole = write_at at new old in
      let a : take (at + length new) whole ≡ take at old ++ new = ap (take (at + length new)) split ∙ take_at _ _ _ front in
      let b : drop (at + length new + length more) whole ≡ drop (at + length (new ++ more)) old =
      sym (drop-drop (length more) (at + length new) whole) ∙ ap (λ (l : List ℕ). drop (length more) (drop (at + length new) l)) split
      ∙ ap (drop (length more)) (drop_at (take at old ++ new) (drop (at + length new) old) _ front) ∙ drop-drop (length more) (at + length new) old
      ∙ ap (λ (k : ℕ). drop k old) (let n : at + length new + length more ≡ at + length (new ++ more) = omega (arith, length-append new more) in n) in
      rw (a, b) (simp append_assoc)

  -- a second write of as many bytes to the same place
  pub write_again : (again : List ℕ) → length again ≡ length new → write_at at again (write_at at new old) ≡ write_at at again old
  unfolding write_at
  write_again again e =
      let whole = write_at at new old in
      let a : take at whole ≡ take at old = take_at (take at old) (new ++ drop (at + length new) old) at (length-take-le at old (omega arith)) in
      let k : at + length again ≡ at + length new = omega arith in
      let b : drop (at + length again) whole ≡ drop (at + length again) old =
      rw k (ap (drop (at + length new)) split ∙ drop_at (take at old ++ new) (drop (at + length new) old) _ front) in
      rw (a, b)

  -- what is written
  pub write_at_law : (k : ℕ) → k < length new → get_or (write_at at new old) (at + k) 0 ≡ get_or new k 0
  unfolding write_at
  write_at_law k l =
      let n : at ≡ length (take at old) = sym (length-take-le at old (omega arith)) in
      ap (λ (i : ℕ). get_or (write_at at new old) (i + k) 0) n ∙ get_or-append-add (take at old) (new ++ drop (at + length new) old) k 0
      ∙ get_or-append new (drop (at + length new) old) 0 k l

  -- what is there already
  pub write_same : ((k : ℕ) → k < length new → get_or old (at + k) 0 ≡ get_or new k 0) → write_at at new old ≡ old
  unfolding write_at
  write_same h =
      let n : length (take (length new) (drop at old)) ≡ length new = length-take-le (length new) (drop at old) (omega (arith, length-drop at old)) in
      let e : new ≡ take (length new) (drop at old) =
      ext_get_or 0 new (take (length new) (drop at old)) (sym n) (λ k l. sym (h k l) ∙ sym (get_or-take (length new) (drop at old) k 0 l ∙ get_or-drop at old k 0)) in
      let d : drop (at + length new) old ≡ drop (length new) (drop at old) = sym (drop-drop (length new) at old) in
      ap (λ (l : List ℕ). take at old ++ l) (ap (λ (l : List ℕ). l ++ drop (at + length new) old) e ∙ ap (λ (l : List ℕ). take (length new) (drop at old) ++ l) d
      ∙ take-append-drop (length new) (drop at old))
      ∙ take-append-drop at old

-- three writes, each behind the one before it
pub write_three : {x y z : List ℕ} (at second third : ℕ) (a b c old : List ℕ) → at + (length a + (length b + length c)) ≤ length old
    → second ≡ at + length a → x ≡ write_at at a old → third ≡ second + length b → y ≡ write_at second b x → z ≡ write_at third c y
    → z ≡ write_at at (a ++ (b ++ c)) old
write_three at second third a b c old fits m e n f g =
    let k : third ≡ at + length (a ++ b) = omega (arith, length-append a b) in
    g ∙ rw (k, f, e, m, write_behind at a old (omega arith) b)
    (write_behind at (a ++ b) old (omega (arith, length-append a b)) c ∙ ap (λ (l : List ℕ). write_at at l old) (append_assoc a b c))

-- one byte more
module _ (at : ℕ) (new old : List ℕ) (fits : at + length new < length old) where
  pub write_more : (v : ℕ) → set (write_at at new old) (at + length new) v ≡ write_at at (new ++ v ∷ []) old
  unfolding write_at
  write_more v =
      let k = at + length new in
      let l : k ≤ length old = omega arith in
      let n : at + length (new ++ v ∷ []) ≡ suc k = omega (arith, length-append new (v ∷ [])) in
      ap (λ (x : List ℕ). set x k v) (split at new old l ∙ ap (λ (x : List ℕ). (take at old ++ new) ++ x) (drop-cons old k 0 fits))
      ∙ set_at (take at old ++ new) (get_or old k 0) (drop (suc k) old) v k (front at new old l)
      ∙ rw n (simp append_assoc)

-- ---- bytes written one by one: i of them are written, and b is what the buffer holds

module _ (at i : ℕ) (old b : List ℕ) where
  pub put_next : (new : List ℕ) → at + length new ≤ length old → i < length new → b ≡ write_at at (take i new) old
      → set b (at + i) (get_or new i 0) ≡ write_at at (take (i + 1) new) old
  put_next new fits h e =
      let n : length (take i new) ≡ i = length-take-le i new (omega arith) in
      let m = write_more at (take i new) old (omega arith) (get_or new i 0) in
      rw (add-one, take-suc new i 0 h, e) (rw n at m)

  pub put_done : (new : List ℕ) → length new ≤ i → b ≡ write_at at (take i new) old → b ≡ write_at at new old
  put_done new h e = e ∙ ap (λ (l : List ℕ). write_at at l old) (take_all i new h)

-- ---- from the front of a buffer on

pub over_none : (old : List ℕ) → write_over [] old ≡ old
unfolding write_over
over_none old = refl

pub over_is : (new old : List ℕ) → write_over new old ≡ write_at 0 new old
unfolding write_over write_at
over_is new old = rw zero-add

pub over_length : (new old : List ℕ) → length new ≤ length old → length (write_over new old) ≡ length old
over_length new old h = ap length (over_is new old) ∙ write_length 0 new old (omega arith)

pub over_behind : (new more old : List ℕ) (at : ℕ) → length new ≡ at → at ≤ length old → write_at at more (write_over new old) ≡ write_over (new ++ more) old
over_behind new more old at e h =
    let n : at ≡ 0 + length new = omega arith in
    rw (over_is new old, over_is (new ++ more) old, n) (write_behind 0 new old (omega arith) more)

-- ---- the lines of a plan

line_alone : (bs : List Bool) → write_plan (bs ∷ []) ≡ line_text (map bit_byte bs)
unfolding write_plan
line_alone bs = refl

-- a plan's lines stand in the buffer; the next one is written behind them
pub line_behind : (plan : Plan) (bs : List Bool) (old : List ℕ) (at : ℕ) → length (write_plan plan) ≡ at → at ≤ length old
    → write_at at (line_text (map bit_byte bs)) (write_over (write_plan plan) old) ≡ write_over (write_plan (plan ++ bs ∷ [])) old
line_behind plan bs old at e h =
    over_behind (write_plan plan) (line_text (map bit_byte bs)) old at e h
    ∙ ap (λ (x : List ℕ). write_over x old) (ap (λ (x : List ℕ). write_plan plan ++ x) (sym (line_alone bs)) ∙ sym (plan_behind plan (bs ∷ [])))
