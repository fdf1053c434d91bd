-- Laws of the targets: the bits that a write target holds, and the judgement target by target.
-- Assumes nothing.
use mathlib.Core.Path.{◌≡◌, refl, sym, ap, ◌∙◌}
use mathlib.Core.Bool.{Bool, true, false, cond, ◌&&◌}
use Rattle.std.specs.Prelude.{Option, None as none, Some as some, Ok, Err}
use mathlib.Core.List.{List, ◌∷◌, ◌++◌, append-nil}
use Prim.Native.Nat.{ℕ, zero, suc, ◌+◌, ◌-◌, ◌≤◌, ◌<◌}
use native.Mathlib.Omega.{arith}
use native.Mathlib.Numerals.{add-one}
use lib.ListN.{get_or, replicate}
use lib.Seq.{append_snoc}
use Rattle.model.specs.Result.{Result, ok, refused, and_then}
use Rattle.model.specs.declared.refusal.Kind.TheVariants.{Target as TargetKind}
use Rattle.model.specs.Network.{Config, Target, tabulate}
use Rattle.model.specs.Path.{ScanPath, bit_value}
use Rattle.model.specs.Mark.{Got, Pass, same_trit, holds_bits, with_got, read_at, written_at, first_on, targets_from}
use Rattle.model.proofs.Lists.{tabulate_whole, tabulate_step, tabulate_none}
use Rattle.network_words.specs.Words.{word_bit, trit_at}
use Rattle.network_path.proofs.ConfigLaws.{config_row}
use Rattle.network_draft.specs.declared.store.Summary.{Summary}
use Rattle.network_draft.specs.Represents.{target_with, stored_at, target_at, targets_of}
use Rattle.marker_operations.specs.declared.Met.{Met}
use Rattle.marker_operations.specs.Operations.{access_of, Reached, Marking, config_at}
use Rattle.marker_targets.specs.declared.Gots.{Gots}
use Rattle.marker_targets.specs.Answers.{gots_of, ZerosBehind, no_got, no_gots}
use Rattle.marker_targets.specs.Targets.{Pushed, Judgeable, segment_held, Judges}

-- ---- bits

module _ (bits known want len : ℕ) where
  -- bits from number b on are held
  abbrev pub held_from : ℕ → Bool
  held_from b = holds_bits (tabulate (trit_at bits known) b (len - b)) (tabulate (word_bit want) b (len - b))

  module _ (b : ℕ) (l : b < len) where
    by_bit : held_from b ≡ (same_trit (trit_at bits known b) (word_bit want b) && held_from (b + 1))
    by_bit = rw (tabulate_step (trit_at bits known) b len l, tabulate_step (word_bit want) b len l)

    pub bit_other : (bit_value (word_bit bits b) ≡ bit_value (word_bit want b) → ⊥) → false ≡ held_from b
    bit_other ne = go (word_bit known b) (word_bit bits b) (word_bit want b) ne ∙ sym by_bit
      where
        go : (k x y : Bool) → (bit_value x ≡ bit_value y → ⊥) → false ≡ (same_trit (cond k (some x) none) y && held_from (b + 1))
        go false x y ne = refl
        go true true true ne = absurd (ne refl)
        go true true false ne = refl
        go true false true ne = refl
        go true false false ne = absurd (ne refl)

    pub bit_same : (bit_value (word_bit known b) ≡ 0 → ⊥) → bit_value (word_bit bits b) ≡ bit_value (word_bit want b) → held_from (b + 1) ≡ held_from b
    bit_same k e = go (word_bit known b) (word_bit bits b) (word_bit want b) k e ∙ sym by_bit
      where
        go : (k x y : Bool) → (bit_value k ≡ 0 → ⊥) → bit_value x ≡ bit_value y → held_from (b + 1) ≡ (same_trit (cond k (some x) none) y && held_from (b + 1))
        go false x y ne e = absurd (ne refl)
        go true true true ne e = refl
        go true true false ne e = absurd (omega arith)
        go true false true ne e = absurd (omega arith)
        go true false false ne e = refl

-- ---- the judgement

-- what an answer says where the targets pass
abbrev passed_with : ℕ → ℕ → List Got → Result Pass
passed_with operations clocks gs = ok record { operations = operations; clocks = clocks; gots = gs }

zero_row : (n i : ℕ) → get_or (replicate n no_got) i no_got ≡ no_got
zero_row zero i = refl
zero_row (suc n) zero = refl
zero_row (suc n) (suc i) = zero_row n i

blank_none : ZerosBehind no_gots
blank_none = record { few = omega arith; size = refl; zeros = λ i l. zero_row 4 i }

-- at target i: the rows are those of the targets before it, and the targets from it on decide
pub record Judging (ns : List ℕ) (t : Summary) (m : Marking) (operations clocks : ℕ) (gots : Gots) (i : ℕ) : Type 0 where
  pub rows : gots.count ≤ i
  pub blank : ZerosBehind gots
  pub rest : (ps : List ScanPath) → Reached t m.met ps
      → and_then (targets_from 1 ps (config_at ns t m) (targets_of ns t)) (passed_with operations clocks)
      ≡ and_then (targets_from (suc i) ps (config_at ns t m) (tabulate (target_at ns t) i (t.target_count - i))) (λ gs. passed_with operations clocks (gots_of gots ++ gs))

module _ (ns : List ℕ) (t : Summary) (m : Marking) (operations clocks : ℕ) where
  abbrev conf : Config
  conf = config_at ns t m

  pub judging_first : Judging ns t m operations clocks no_gots 0
  judging_first = record {
    rows = omega arith;
    blank = blank_none;
    rest = λ ps reached. ap (λ (ts : List Target). and_then (targets_from 1 ps conf ts) (passed_with operations clocks)) (sym (tabulate_whole (target_at ns t) t.target_count));
  }

  module _ (gots : Gots) (i : ℕ) (w : Judging ns t m operations clocks gots i) where
    abbrev onward : List Got → Result Pass
    onward gs = passed_with operations clocks (gots_of gots ++ gs)

    pub judged_last : t.target_count ≤ i → Judges ns t m operations clocks (Ok record { operations = operations; clocks = clocks; gots = gots })
    unfolding targets_from
    judged_last l ps reached =
        sym (w.rest ps reached ∙ ap (λ (ts : List Target). and_then (targets_from (suc i) ps conf ts) onward) (tabulate_none (target_at ns t) i t.target_count l)
        ∙ ap (passed_with operations clocks) (append-nil (gots_of gots)))

    module _ (j : Judgeable ns t m.bits m.known) (l : i < t.target_count) where
      abbrev segment : ℕ
      segment = (stored_at t i).segment

      abbrev later : List ScanPath → Result (List Got)
      later ps = targets_from (suc (i + 1)) ps conf (tabulate (target_at ns t) (i + 1) (t.target_count - (i + 1)))

      -- the answer for target i, by the bits that it asks for and by its access
      abbrev answer : Option ℕ → Option (ℕ × ℕ) → Result (List Got) → Result Pass
      answer (some want) a rest = and_then (written_at (i + 1) a (segment_held ns m.bits m.known segment want) rest) onward
      answer none a rest = and_then (read_at (i + 1) a rest) onward

      by_target : (asked : Option ℕ) (met : Option Met) → (stored_at t i).write ≡ asked → get_or m.met i none ≡ met → (ps : List ScanPath) → Reached t m.met ps
          → and_then (targets_from 1 ps conf (targets_of ns t)) (passed_with operations clocks) ≡ answer asked (access_of met) (later ps)
      unfolding targets_from
      by_target asked met e f ps reached =
          w.rest ps reached ∙ ap (λ (ts : List Target). and_then (targets_from (suc i) ps conf ts) onward) (tabulate_step (target_at ns t) i t.target_count l)
          ∙ rw (e, add-one i) (go asked)
        where
          here : first_on 1 ps segment ≡ access_of met
          here = sym (reached i l) ∙ ap access_of f

          go : (x : Option ℕ)
              → and_then (targets_from (suc i) ps conf (target_with ns segment x ∷ tabulate (target_at ns t) (suc i) (t.target_count - suc i))) onward
              ≡ answer x (access_of met) (targets_from (suc (suc i)) ps conf (tabulate (target_at ns t) (suc i) (t.target_count - suc i)))
          go (some want) = rw (add-one i, here, config_row ns m.bits m.known t.count segment (j.least i l) (j.most i l))
          go none = rw (add-one i, here)

      -- the refusals

      pub judged_unreached : get_or m.met i none ≡ none → Judges ns t m operations clocks (Err record { kind = TargetKind; place = i + 1 })
      judged_unreached e ps reached = sym (by_target _ none refl e ps reached ∙ go (stored_at t i).write)
        where
          go : (x : Option ℕ) → answer x none (later ps) ≡ refused 17 (i + 1)
          go none = refl
          go (some want) = refl

      module _ (met : Met) (first : get_or m.met i none ≡ some met) where
        pub judged_not_held : (want : ℕ) → (stored_at t i).write ≡ some want → segment_held ns m.bits m.known segment want ≡ false
            → Judges ns t m operations clocks (Err record { kind = TargetKind; place = i + 1 })
        judged_not_held want e h ps reached = sym (by_target (some want) (some met) e first ps reached ∙ rw h)

        -- one target more

        pub judging_held : (want : ℕ) → (stored_at t i).write ≡ some want → segment_held ns m.bits m.known segment want ≡ true → Judging ns t m operations clocks gots (i + 1)
        judging_held want e h = record {
          rows = omega (arith, w.rows);
          blank = w.blank;
          rest = λ ps reached. by_target (some want) (some met) e first ps reached ∙ rw h;
        }

        pub judging_read : (new : Gots) → (stored_at t i).write ≡ none → Pushed gots record { target = i + 1; operation = met.operation; place = met.place } new
            → Judging ns t m operations clocks new (i + 1)
        judging_read new e f = record {
          rows = omega (arith, w.rows, f.counts);
          blank = f.blank;
          rest = λ ps reached. by_target none (some met) e first ps reached ∙ go (later ps);
        }
          where
            row : Got
            row = record { target_number = i + 1; operation = met.operation; at_place = met.place }

            go : (r : Result (List Got)) → and_then (and_then r (with_got row)) onward ≡ and_then r (λ gs. passed_with operations clocks (gots_of new ++ gs))
            go (ok gs) = ap (passed_with operations clocks) (sym (append_snoc (gots_of gots) row gs) ∙ ap (λ (rs : List Got). rs ++ gs) (sym f.rows))
            go (refused number place) = refl
