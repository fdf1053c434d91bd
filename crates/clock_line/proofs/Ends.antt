-- A line of good form ends at the first byte 10: none stands in it.
-- Assumes nothing.
use mathlib.Core.Path.{◌≡◌, sym, ap, ◌∙◌}
use mathlib.Core.List.{List, [], ◌∷◌, ◌++◌}
use Prim.Native.Nat.{ℕ, suc, ◌+◌, ◌-◌, ◌≤◌, ◌<◌}
use native.Mathlib.Omega.{arith}
use lib.ListN.{length, take, drop, get_or, take-append-drop, length-drop}
use lib.Seq.{length-take-le, drop-cons, drop-drop}
use Rattle.std.specs.Prelude.{true, Option, option_map}
use Rattle.std.specs.Option.{is_some}
use Rattle.model.specs.Text.{Bytes, line_end, parts}
use Rattle.model.proofs.PlanTexts.{Free, parts_line}
use Rattle.recover_model.specs.ClockText.{clk_line}
use Rattle.recover_model.proofs.ClockLines.{clk_text_law, clk_free}
use Rattle.text.specs.Places.{bytes_before, IsEnd}
use Rattle.clock_line.specs.Line.{IsFound}
use Rattle.clock_line.proofs.Lines.{some_clocks}

-- a part of a text without byte 10, and one behind it
free_end : (t : Bytes) (at end : ℕ) → at ≤ end → end < length t → get_or t end 0 ≡ line_end → Free line_end (take (end - at) (drop at t)) → IsEnd line_end t at end
unfolding bytes_before
free_end t at end l h e f =
    let line = take (end - at) (drop at t) in
    let n : length line ≡ end - at = length-take-le (end - at) (drop at t) (omega (arith, length-drop at t)) in
    let k : at + (end - at) ≡ end = omega arith in
    let split : drop at t ≡ line ++ line_end ∷ drop (suc end) t =
    sym (take-append-drop (end - at) (drop at t))
    ∙ ap (λ (x : Bytes). line ++ x) (drop-drop (end - at) at t ∙ ap (λ (i : ℕ). drop i t) k ∙ drop-cons t end 0 h ∙ ap (λ (b : ℕ). b ∷ drop (suc end) t) e) in
    let first : length (get_or (parts line_end (drop at t)) 0 []) ≡ length line =
    ap (λ (x : Bytes). length (get_or (parts line_end x) 0 [])) split ∙ ap (λ (x : List Bytes). length (get_or x 0 [])) (parts_line line_end line (drop (suc end) t) f) in
    record { found = omega arith; within = omega arith }

-- a line with clocks, where byte 10 stands behind it
pub found_clocks : (t : Bytes) (at end : ℕ) (clocks : Option ℕ) → at ≤ end → end < length t → get_or t end 0 ≡ line_end → true ≡ is_some clocks
    → clocks ≡ option_map length (clk_line (take (end - at) (drop at t))) → IsFound t at end clocks
found_clocks t at end clocks l h e some-clock counts =
    let k = (some_clocks (take (end - at) (drop at t)) clocks some-clock counts).1 in
    record { ends = free_end t at end l h e (rw (clk_text_law _ k.clocks k.good).text (clk_free k.clocks)); counts = counts }
