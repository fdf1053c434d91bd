-- The text of a plan given by its choices: the loop that sums its length, and the loop that writes it line by line.
-- Assumes nothing.
use mathlib.Core.Path.{◌≡◌, refl, sym, ap, ◌∙◌, subst}
use mathlib.Core.Bool.{Bool}
use mathlib.Core.List.{List, [], ◌∷◌, ◌++◌, append_assoc, append-nil}
use Prim.Native.Nat.{ℕ, suc, ◌+◌, ◌*◌, ◌^◌, ◌≤◌, ◌<◌}
use native.Mathlib.Omega.{arith}
use native.Mathlib.Numerals.{add-one}
use native.Mathlib.Nat.{zero-add}
use lib.ListN.{length, get_or, take, drop, length-append, get_or-append, drop_of_length-le}
use lib.Seq.{drop-cons}
use Rattle.model.specs.Network.{Network, steering_bits}
use Rattle.model.specs.Path.{ScanPath, path, stop, path_of, path_length}
use Rattle.model.specs.Plan.{Plan}
use Rattle.model.specs.PlanText.{write_plan}
use Rattle.model.specs.Calls.{write_over}
use Rattle.model.specs.Accepted.{Accepted}
use Rattle.model.proofs.PlanTexts.{length_line, plan_behind}
use Rattle.network_path.specs.Layout.{scan_path}
use Rattle.network_path.specs.Answers.{HoldsPath}
use Rattle.plan_text.specs.Writing.{write_at, line_text}
use Rattle.plan_text.proofs.Writing.{over_none, line_behind}
use Rattle.planner_theory.specs.Moves.{count, land, decode, StepOf, Follows}
use Rattle.planner_theory.specs.Settings.{walk_at}
use Rattle.planner_theory.specs.Choices.{places_of, choice_bits}
use Rattle.planner_theory.proofs.MoveLaws.{path_short, land_within}
use Rattle.planner_theory.proofs.Decoded.{decode_bits, bits_length}
use Rattle.planner_text.specs.Writing.{text_length}
use Rattle.planner_line.specs.Line.{HasRoom, operation_bits}

-- i choices are passed, x is the setting behind them, and the others can be made from it on
pub record Passed (net : Network) (cs : List ℕ) (i x : ℕ) : Type 0 where
  pub small : x < 3 ^ length (steering_bits net.nodes)
  pub follows : Follows net x (drop i cs)

-- the lines of the choices passed have so many bytes
pub record Counted (net : Network) (start : ℕ) (cs : List ℕ) (i x sum : ℕ) : Type 0 where
  pub passed : Passed net cs i x
  pub whole : sum + text_length net x (drop i cs) ≡ text_length net start cs
  pub bound : sum ≤ 4005 * i

-- the buffer holds the lines of the choices passed; the next line goes to a place
pub record Written (net : Network) (start : ℕ) (cs old : List ℕ) (i x place : ℕ) (buf : List ℕ) : Type 0 where
  pub passed : Passed net cs i x
  pub done : Plan
  pub whole : decode net start cs ≡ done ++ decode net x (drop i cs)
  pub long : length (write_plan done) ≡ place
  pub holds : buf ≡ write_over (write_plan done) old
  pub size : length buf ≡ length old

-- ---- before the first choice

module _ (net : Network) (start : ℕ) (cs : List ℕ) (f : Passed net cs 0 start) where
  pub count_none : Counted net start cs 0 start 0
  count_none = record { passed = f; whole = zero-add (text_length net start cs); bound = omega arith }

  pub text_none : (old : List ℕ) → Written net start cs old 0 start 0 old
  unfolding write_plan
  text_none old = record { passed = f; done = []; whole = refl; long = refl; holds = sym (over_none old); size = refl }

-- ---- behind the last one

none_left : (i : ℕ) (cs : List ℕ) → length cs ≤ i → drop i cs ≡ []
none_left i cs l = drop_of_length-le cs {i = i} l

module _ {net : Network} {start : ℕ} {cs : List ℕ} {i x : ℕ} (l : length cs ≤ i) where
  pub count_all : {sum : ℕ} → Counted net start cs i x sum → sum ≡ text_length net start cs
  unfolding decode write_plan
  count_all r = let e : text_length net x (drop i cs) ≡ 0 = ap (text_length net x) (none_left i cs l) in omega (arith, r.whole)

  all_done : {old : List ℕ} {place : ℕ} {buf : List ℕ} (r : Written net start cs old i x place buf) → decode net start cs ≡ r.done
  unfolding decode
  all_done r = r.whole ∙ ap (λ (ks : List ℕ). r.done ++ decode net x ks) (none_left i cs l) ∙ append-nil r.done

  pub text_all : {old : List ℕ} {place : ℕ} {buf : List ℕ} → Written net start cs old i x place buf → buf ≡ write_over (write_plan (decode net start cs)) old
  text_all {old} r = r.holds ∙ ap (λ (plan : Plan). write_over (write_plan plan) old) (sym (all_done r))

-- ---- one choice more: choice i is c

-- the bits of choice c in setting x along the path p
abbrev bits_along : Network → ℕ → ScanPath → ℕ → List Bool
bits_along net x p c = choice_bits net (places_of p) (count net x) c

module _ (net : Network) (a : Accepted net) (cs : List ℕ) (i c : ℕ) (l : i < length cs) (is : c ≡ get_or cs i 0) where
  module _ (x : ℕ) (f : Passed net cs i x) where
    splits : drop i cs ≡ c ∷ drop (i + 1) cs
    splits = drop-cons cs i 0 l ∙ ap (λ (k : ℕ). k ∷ drop (suc i) cs) (sym is) ∙ ap (λ (j : ℕ). c ∷ drop j cs) (sym (add-one i))

    both : StepOf net x c × Follows net (land net x c) (drop (i + 1) cs)
    both = subst (Follows net x) splits f.follows

    -- it can be made: x is a setting with a path, and c is one of its choices
    pub step_made : StepOf net x c
    step_made = both.0

    passed_more : Passed net cs (i + 1) (land net x c)
    passed_more = record { small = land_within net x c; follows = both.1 }

    module _ (p : ScanPath) (walks : walk_at net x ≡ path p) where
      -- its operation, and the others
      operation : decode net x (drop i cs) ≡ bits_along net x p c ∷ decode net (land net x c) (drop (i + 1) cs)
      operation =
          let route : step_made.route ≡ p = ap path_of (sym step_made.walks ∙ walks) in
          ap (decode net x) splits ∙ decode_bits net a x c step_made (drop (i + 1) cs)
          ∙ ap (λ (q : ScanPath). bits_along net x q c ∷ decode net (land net x c) (drop (i + 1) cs)) route

      bits_long : length (bits_along net x p c) ≡ path_length p
      bits_long =
          let route : step_made.route ≡ p = ap path_of (sym step_made.walks ∙ walks) in
          subst (λ (q : ScanPath). length (bits_along net x q c) ≡ path_length q) route (bits_length net a x c step_made)

      text_splits : text_length net x (drop i cs) ≡ 5 + path_length p + text_length net (land net x c) (drop (i + 1) cs)
      text_splits = ap (λ (plan : Plan). length (write_plan plan)) operation ∙ length_line _ _ ∙ omega (arith, bits_long)

  module _ {start x : ℕ} (p : ScanPath) (walks : walk_at net x ≡ path p) where
    pub count_more : {sum : ℕ} → Counted net start cs i x sum → (len next : ℕ) → len ≡ path_length p → next ≡ land net x c → Counted net start cs (i + 1) next (sum + (5 + len))
    count_more {sum} r len next long to = subst (λ (y : ℕ). Counted net start cs (i + 1) y (sum + (5 + len))) (sym to) record {
      passed = passed_more x r.passed;
      whole = omega (arith, r.whole, text_splits x r.passed p walks);
      bound = omega (arith, r.bound, path_short net a x p walks);
    }

    module _ {old : List ℕ} {place : ℕ} {buf : List ℕ} (r : Written net start cs old i x place buf) (fits : text_length net start cs ≤ length old) where
      -- there is room for its line
      pub text_room : place + (5 + path_length p) ≤ length old
      text_room =
          let n = ap (λ (plan : Plan). length (write_plan plan)) r.whole ∙ ap length (plan_behind r.done (decode net x (drop i cs))) in
          omega (arith, n, length-append (write_plan r.done) (write_plan (decode net x (drop i cs))), r.long, text_splits x r.passed p walks)

      pub text_more : (h next end : ℕ) (new : List ℕ) → h ≡ count net x → next ≡ land net x c → end ≡ place + (5 + path_length p) → length new ≡ length buf
          → new ≡ write_at place (line_text (operation_bits net p h c)) buf → Written net start cs old (i + 1) next end new
      unfolding write_plan
      text_more h next end new choices to behind same put =
          let bs = bits_along net x p c in
          subst (λ (y : ℕ). Written net start cs old (i + 1) y end new) (sym to) record {
            passed = passed_more x r.passed;
            done = r.done ++ bs ∷ [];
            whole = r.whole ∙ ap (λ (plan : Plan). r.done ++ plan) (operation x r.passed p walks)
                ∙ sym (append_assoc r.done (bs ∷ []) (decode net (land net x c) (drop (i + 1) cs)));
            long = ap length (plan_behind r.done (bs ∷ []))
                ∙ length-append (write_plan r.done) (write_plan (bs ∷ [])) ∙ omega (arith, r.long, length_line bs [], bits_long x r.passed p walks);
            holds = put ∙ ap (λ (k : ℕ). write_at place (line_text (operation_bits net p k c)) buf) choices ∙ ap (write_at place (line_text (operation_bits net p (count net x) c))) r.holds
                ∙ line_behind r.done bs old place r.long (omega (arith, text_room));
            size = same ∙ r.size;
          }

-- what `put_line` asks
pub line_room : (ns way : List ℕ) (n place : ℕ) (buf : List ℕ) → HoldsPath ns way n → place + (5 + path_length (scan_path ns (take n way))) ≤ length buf → HasRoom ns way n (place + 5) buf
line_room ns way n place buf h l = record { holds = h; room = omega arith }

-- where a choice can be made the walk does not stop
pub no_stop : {net : Network} {x c : ℕ} → StepOf net x c → (k : ℕ) → walk_at net x ≡ stop k → ⊥
no_stop st k e = let z : ◌≡◌ {A = ℕ} 0 1 = cc st.walks in omega arith

-- choice i as the search leaves it in its buffer
pub choice_held : (cs old : List ℕ) (i : ℕ) → i < length cs → get_or (write_over cs old) i 0 ≡ get_or cs i 0
unfolding write_over
choice_held cs old i l = get_or-append cs (drop (length cs) old) 0 i l
