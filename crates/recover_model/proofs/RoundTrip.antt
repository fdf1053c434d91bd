-- The clocks of a plan, and the lines printed for it, give back the plan.
-- Assumes nothing.
use mathlib.Core.Path.{◌≡◌, refl, sym, ap, ◌∙◌}
use mathlib.Core.Bool.{Bool, true, false}
use Rattle.std.specs.Prelude.{Option, Some as some}
use mathlib.Core.List.{List, [], ◌∷◌, ◌++◌, append_assoc, append-nil, Memᴰ}
use Prim.Native.Nat.{ℕ, suc, ◌+◌, ◌≤◌}
use native.Mathlib.Omega.{arith}
use native.Mathlib.Nat.{add-zero}
use lib.ListN.{length}
use borrow.Author.Tests.{le-ltb}
use Rattle.model.specs.Limits.{max_operations, max_plan_bytes}
use Rattle.model.specs.Plan.{Plan}
use Rattle.model.specs.PlanText.{read_plan, write_plan}
use Rattle.model.specs.Printed.{printed, clk_lines, clock_program}
use Rattle.model.specs.Result.{Result, ok}
use Rattle.model.specs.Tap.{Tap, idle, captureDR, shiftDR, exit1DR, selectDR, updateDR, selectIR, is_in, Clock, clk, shift_clocks, op_clocks, plan_clocks}
use Rattle.model.specs.Text.{Bytes, line_end, parts, is_empty, bind}
use Rattle.model.proofs.PlanTexts.{parts_more, parts_line, length_line, length_op, text_of}
use Rattle.model.proofs.Playing.{shift_or}
use Rattle.recover_model.specs.ClockText.{clk_line, max_line_bytes}
use Rattle.recover_model.specs.Recover.{Follower, moved, follow_clock, follow_clocks, follow_line, if_followed, follow_lines, recover, recover_program}
use Rattle.recover_model.specs.Recovered.{RoundTrip}
use Rattle.recover_model.proofs.ClockLines.{clk_text, length_clk, clk_written, clk_free, printed_line}

-- a follower by its fields
abbrev fol : Tap → List Bool → Plan → ℕ → ℕ → Follower
fol t bits plan e n = record { state = t; bits = bits; plan = plan; entries = e; plan_bytes = n }

-- ---- the clocks of an operation

-- a clock that leads to this follower, within the limits
clock_followed : (f : Follower) (c : Clock) (cs : List Clock) (t : Tap) (bits : List Bool) (plan : Plan) (e n : ℕ) → moved f c ≡ fol t bits plan e n
    → is_in selectIR t ≡ false → e ≤ max_operations → n ≤ max_plan_bytes → follow_clocks f (c ∷ cs) ≡ follow_clocks (fol t bits plan e n) cs
unfolding follow_clocks follow_clock
clock_followed f c cs t bits plan e n q s l m = rw (q, s, le-ltb max_operations e l, le-ltb max_plan_bytes n m)

moved_capture : (bs : List Bool) (plan : Plan) (e n : ℕ) → moved (fol captureDR [] plan e n) (clk (is_empty bs) false) ≡ fol (shift_or bs) [] plan e n
moved_capture [] plan e n = refl
moved_capture (b ∷ bs) plan e n = refl

moved_shift : (bs : List Bool) (b : Bool) (bits : List Bool) (plan : Plan) (e n : ℕ) → moved (fol shiftDR bits plan e n) (clk (is_empty bs) b) ≡ fol (shift_or bs) (bits ++ b ∷ []) plan e (n + 1)
moved_shift [] b bits plan e n = refl
moved_shift (c ∷ bs) b bits plan e n = refl

in_dr : (bs : List Bool) → is_in selectIR (shift_or bs) ≡ false
in_dr [] = refl
in_dr (b ∷ bs) = refl

bits_followed : (bs bits : List Bool) (plan : Plan) (e n : ℕ) (rest : List Clock) → e ≤ max_operations → n + length bs ≤ max_plan_bytes
    → follow_clocks (fol (shift_or bs) bits plan e n) (shift_clocks bs ++ rest) ≡ follow_clocks (fol exit1DR (bits ++ bs) plan e (n + length bs)) rest
unfolding shift_clocks
bits_followed [] bits plan e n rest l m = rw (append-nil bits, add-zero n)
bits_followed (b ∷ bs) bits plan e n rest l m =
    let k : n + 1 + length bs ≡ n + suc (length bs) = omega arith in
    clock_followed _ _ _ (shift_or bs) (bits ++ b ∷ []) plan e (n + 1) (moved_shift bs b bits plan e n) (in_dr bs) l (omega arith)
    ∙ bits_followed bs (bits ++ b ∷ []) plan e (n + 1) rest l (omega arith)
    ∙ ap (λ (x : List Bool). follow_clocks (fol exit1DR x plan e (n + 1 + length bs)) rest) (append_assoc bits (b ∷ []) bs)
    ∙ ap (λ (x : ℕ). follow_clocks (fol exit1DR (bits ++ b ∷ bs) plan e x) rest) k

operation_followed : (bs : List Bool) (plan : Plan) (e n : ℕ) (rest : List Clock) → e + 1 ≤ max_operations → n + 5 + length bs ≤ max_plan_bytes
    → follow_clocks (fol idle [] plan e n) (op_clocks bs ++ rest) ≡ follow_clocks (fol idle [] (plan ++ bs ∷ []) (e + 1) (n + 5 + length bs)) rest
unfolding op_clocks
operation_followed bs plan e n rest l m =
    clock_followed _ _ _ selectDR [] plan e n refl refl (omega arith) (omega arith)
    ∙ clock_followed _ _ _ captureDR [] plan (e + 1) (n + 5) refl refl l (omega arith)
    ∙ clock_followed _ _ _ (shift_or bs) [] plan (e + 1) (n + 5) (moved_capture bs plan (e + 1) (n + 5)) (in_dr bs) l (omega arith)
    ∙ ap (follow_clocks (fol (shift_or bs) [] plan (e + 1) (n + 5))) (append_assoc (shift_clocks bs) (clk true false ∷ clk false false ∷ []) rest)
    ∙ bits_followed bs [] plan (e + 1) (n + 5) (clk true false ∷ clk false false ∷ rest) l m
    ∙ clock_followed _ _ _ updateDR bs plan (e + 1) (n + 5 + length bs) refl refl l m
    ∙ clock_followed _ _ _ idle [] (plan ++ bs ∷ []) (e + 1) (n + 5 + length bs) refl refl l m

-- ---- the clocks of a plan

pub plan_followed : (plan before : Plan) (e n : ℕ) → e + length plan ≤ max_operations → n + length (write_plan plan) ≤ max_plan_bytes
    → (g : Follower) × (follow_clocks (fol idle [] before e n) (plan_clocks plan) ≡ some g) × (g.state ≡ idle) × (g.plan ≡ before ++ plan)
unfolding plan_clocks follow_clocks
plan_followed [] before e n l m = (fol idle [] before e n, refl, refl, sym (append-nil before))
plan_followed (bs ∷ plan) before e n l m =
    let w = length_line bs plan in
    let r = plan_followed plan (before ++ bs ∷ []) (e + 1) (n + 5 + length bs) (omega arith) (omega arith) in
    (r.0, operation_followed bs before e n (plan_clocks plan) (omega arith) (omega arith) ∙ r.1, r.2, r.3 ∙ append_assoc before (bs ∷ []) plan)

-- ---- the lines printed for a plan

-- the line of an operation with n bits has n + 5 clocks, so 2 n + 16 bytes
abbrev LinesFit : Plan → Type 0
LinesFit plan = (bs : List Bool) → Memᴰ bs plan → 16 + (length bs + length bs) ≤ max_line_bytes

line_followed : (bs : List Bool) (plan : Plan) (e n : ℕ) → 16 + (length bs + length bs) ≤ max_line_bytes → e + 1 ≤ max_operations → n + 5 + length bs ≤ max_plan_bytes
    → follow_line (fol idle [] plan e n) (clk_text (op_clocks bs)) ≡ some (fol idle [] (plan ++ bs ∷ []) (e + 1) (n + 5 + length bs))
unfolding follow_line follow_clocks
line_followed bs plan e n h l m =
    let k = length_op bs in
    let w : clk_line (clk_text (op_clocks bs)) ≡ some (op_clocks bs) =
    clk_written (clk_text (op_clocks bs)) (op_clocks bs) record { text = refl; some_clock = omega arith; short = omega (arith, length_clk (op_clocks bs)) } in
    ap (λ (o : Option (List Clock)). bind o (follow_clocks (fol idle [] plan e n))) w
    ∙ ap (follow_clocks (fol idle [] plan e n)) (sym (append-nil (op_clocks bs)))
    ∙ operation_followed bs plan e n [] l m

first_clk_line : (bs : List Bool) (plan : Plan) → parts line_end (clk_lines (bs ∷ plan)) ≡ clk_text (op_clocks bs) ∷ parts line_end (clk_lines plan)
unfolding clk_lines
first_clk_line bs plan = ap (parts line_end) (printed_line (op_clocks bs) (clk_lines plan)) ∙ parts_line line_end (clk_text (op_clocks bs)) (clk_lines plan) (clk_free (op_clocks bs))

no_line_followed : (n : ℕ) (plan : Plan) (e k : ℕ) → follow_lines n (fol idle [] plan e k) (parts line_end (clk_lines [])) ≡ ok plan
unfolding follow_lines parts clk_lines
no_line_followed n plan e k = refl

plan_lines_followed : (plan before : Plan) (n e k : ℕ) → LinesFit plan → e + length plan ≤ max_operations → k + length (write_plan plan) ≤ max_plan_bytes
    → follow_lines n (fol idle [] before e k) (parts line_end (clk_lines plan)) ≡ ok (before ++ plan)
unfolding follow_lines
plan_lines_followed [] before n e k s l m = no_line_followed n before e k ∙ ap ok (sym (append-nil before))
plan_lines_followed (bs ∷ plan) before n e k s l m =
    go (parts line_end (clk_lines plan)) (parts_more line_end (clk_lines plan)) refl
    (plan_lines_followed plan (before ++ bs ∷ []) (suc n) (e + 1) (k + 5 + length bs) (λ x i. s x (Memᴰ.tail i)) (omega arith) (omega (arith, length_line bs plan)))
  where
    go : (ls : List Bytes) → (p : Bytes) × (ps : List Bytes) × (ls ≡ p ∷ ps) → parts line_end (clk_lines plan) ≡ ls
        → follow_lines (suc n) (fol idle [] (before ++ bs ∷ []) (e + 1) (k + 5 + length bs)) ls ≡ ok ((before ++ bs ∷ []) ++ plan)
        → follow_lines n (fol idle [] before e k) (parts line_end (clk_lines (bs ∷ plan))) ≡ ok (before ++ bs ∷ plan)
    go ls y q r =
        ap (follow_lines n (fol idle [] before e k)) (first_clk_line bs plan ∙ ap (λ (x : List Bytes). clk_text (op_clocks bs) ∷ x) (q ∙ y.2))
        ∙ ap (λ (o : Option Follower). if_followed (suc n) o (λ g. follow_lines (suc n) g (y.0 ∷ y.1)))
        (line_followed bs before e k (s bs (Memᴰ.head refl)) (omega arith) (omega (arith, length_line bs plan)))
        ∙ ap (follow_lines (suc n) (fol idle [] (before ++ bs ∷ []) (e + 1) (k + 5 + length bs))) (sym y.2) ∙ r ∙ ap ok (append_assoc before (bs ∷ []) plan)

-- ---- the theorem

lines_give_back : (plan : Plan) → LinesFit plan → length plan ≤ max_operations → length (write_plan plan) ≤ max_plan_bytes → recover (clk_lines plan) ≡ ok plan
unfolding recover
lines_give_back plan s l m = plan_lines_followed plan [] 0 0 0 s (omega arith) (omega arith)

-- the printed lines of operations with up to 16,376 bits fit
fitting_given_back : (p : Bytes) (plan : Plan) → read_plan p ≡ ok plan → LinesFit plan → recover_program (clock_program p) ≡ p
unfolding recover_program clock_program
fitting_given_back p plan e s =
    let t = text_of p plan e in
    ap (λ (r : Result Plan). printed write_plan (recover (printed clk_lines r))) e
    ∙ ap (printed write_plan) (lines_give_back plan s (omega (arith, t.few)) (omega (arith, t.short, ap length t.text)))
    ∙ sym t.text

pub text_given_back : RoundTrip
text_given_back p plan e s = fitting_given_back p plan e (λ bs i. let l = s bs i in omega arith)
