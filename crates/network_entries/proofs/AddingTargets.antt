-- A `read` or `write` line added.
-- Assumes nothing.
use mathlib.Core.Path.{◌≡◌, refl, sym, ap, ◌∙◌}
use mathlib.Core.Bool.{Bool, true, false}
use mathlib.Core.List.{List, [], ◌∷◌, ◌++◌}
use Rattle.std.specs.Prelude.{Option, None, Some, is_some}
use Rattle.std.specs.List.{list_any}
use Prim.Native.Nat.{ℕ, zero, suc, ◌+◌, ◌≤◌, ◌<◌}
use native.Mathlib.Omega.{arith}
use native.Mathlib.Nat.{zero-add}
use lib.ListN.{length, get_or, take, set, length-set}
use lib.Seq.{get_or-set_same, get_or-set_other}
use lib.Dec.{eqb}
use borrow.Author.Tests.{eqb-true, eqb-false, le-leb, lt-leb}
use Rattle.model.specs.Result.{ok, refused}
use Rattle.model.specs.Network.{Target, read, write, len_of, tabulate, is_steering}
use Rattle.model.specs.NetworkText.{Draft, has_out, fits_target, same_target, is_target, target_segment, add_fitting, add_target, with_target}
use Rattle.model.proofs.Lists.{and_false_right, and_true_right, tabulate_cong, tabulate_snoc}
use Rattle.model.proofs.Reading.{sound_target}
use Rattle.network_words.specs.Words.{word_bit, word_of_bits}
use Rattle.network_words.proofs.WordLaws.{word_bits}
use Rattle.network_path.specs.Layout.{node_at}
use Rattle.network_draft.specs.declared.store.Summary.{Summary}
use Rattle.network_draft.specs.declared.store.Target.{Target as StoredTarget}
use Rattle.network_draft.specs.Represents.{Arrays, Represents, target_with, target_at, targets_of, target_for, same_word}
use Rattle.network_draft.specs.Numbers.{no_target, stored_target, TargetsStored}
use Rattle.network_draft.proofs.Representing.{snoc_last, snoc_other, represented_targets}
use Rattle.network_entries.specs.Added.{IsWord}

-- ---- a repeat

module _ (s : ℕ) (w : Bool) (bs : List Bool) where
  abbrev X : Target
  X = target_for w s bs

  same_law : (ns : List ℕ) (seg : ℕ) (o : Option ℕ) → same_word record { segment = seg; write = o } s w ≡ same_target (target_with ns seg o) X
  same_law ns seg o = go o w
    where
      go : (o : Option ℕ) (w : Bool) → same_word record { segment = seg; write = o } s w ≡ same_target (target_with ns seg o) (target_for w s bs)
      go (Some word) true = and_true_right (eqb seg s)
      go (Some word) false = and_false_right (eqb seg s)
      go None true = and_false_right (eqb seg s)
      go None false = and_true_right (eqb seg s)

  -- the same of n targets from number i on, as they are stored
  any_law : (ns : List ℕ) (f : ℕ → Target) (xs : List StoredTarget) (i n : ℕ) → n ≤ length xs
      → ((k : ℕ) → k < n → f (i + k) ≡ target_with ns (get_or xs k (stored_target no_target)).segment (get_or xs k (stored_target no_target)).write)
      → list_any (λ x. same_word x s w) (take n xs) ≡ is_target (tabulate f i n) X
  unfolding is_target
  any_law ns f xs i zero l e = refl
  any_law ns f [] i (suc n) l e = absurd (omega arith)
  any_law ns f (x ∷ xs) i (suc n) l e =
      let here : f i ≡ target_with ns x.segment x.write = ap f (let z : i ≡ i + 0 = omega arith in z) ∙ e 0 (omega arith) in
      let rest = any_law ns f xs (suc i) n (omega arith) (λ k h. ap f (let z : suc i + k ≡ i + suc k = omega arith in z) ∙ e (suc k) (omega arith)) in
      rw (same_law ns x.segment x.write, rest, here)

  -- whether the draft has such a target
  pub there_law : {a : Arrays} {t : Summary} {d : Draft} {n : ℕ} → Represents a t d n → (r : Bool) → r ≡ list_any (λ x. same_word x s w) (take t.target_count t.targets) → is_target d.targets X ≡ r
  there_law {a} {t} h r e =
      ap (λ (ts : List Target). is_target ts X) (sym h.targets_are)
      ∙ sym (e ∙ any_law a.nodes (target_at a.nodes t) t.targets 0 t.target_count (omega (arith, h.in_limits)) (λ k l. ap (target_at a.nodes t) (zero-add k)))

-- ---- the refusals

module _ (d : Draft) (n : ℕ) (x : Target) where
  pub target_4 : has_out d ≡ false → add_target d n x ≡ refused 4 n
  unfolding add_target
  target_4 e = rw e

  pub target_6 : has_out d ≡ true → fits_target d.nodes x ≡ false → add_target d n x ≡ refused 6 n
  unfolding add_target
  target_6 e f = rw (e, f)

  pub target_rest : has_out d ≡ true → fits_target d.nodes x ≡ true → add_target d n x ≡ add_fitting d n x
  unfolding add_target
  target_rest e f = rw (e, f)

  pub again_6 : is_target d.targets x ≡ true → add_fitting d n x ≡ refused 6 n
  again_6 e = rw e

  module _ (e : is_target d.targets x ≡ false) where
    pub target_7 : is_steering d.nodes (target_segment x) ≡ true → add_fitting d n x ≡ refused 7 n
    target_7 f = rw (e, f)

    module _ (f : is_steering d.nodes (target_segment x) ≡ false) where
      pub target_8 : 4 ≤ length d.targets → add_fitting d n x ≡ refused 8 n
      target_8 g = rw (e, f, le-leb 4 (length d.targets) g)

      pub target_added : length d.targets < 4 → add_fitting d n x ≡ ok (with_target d x)
      target_added g = rw (e, f, lt-leb 4 (length d.targets) g)

pub segment_of_law : (w : Bool) (s : ℕ) (bs : List Bool) → target_segment (target_for w s bs) ≡ s
segment_of_law true s bs = refl
segment_of_law false s bs = refl

-- ---- one target more

module _ {a : Arrays} {t : Summary} {d : Draft} {n : ℕ} (w : Represents a t d n)
    (s : ℕ) (word : Option ℕ) (bs : List Bool) (fitting : IsWord a.nodes s word bs) (room : t.target_count < 4)
    (is : add_target d n (target_for (is_some word) s bs) ≡ ok (with_target d (target_for (is_some word) s bs))) where
  abbrev c : ℕ
  c = t.target_count

  abbrev x : StoredTarget
  x = record { segment = s; write = word }

  abbrev none : StoredTarget
  none = stored_target no_target

  abbrev new : Target
  new = target_for (is_some word) s bs

  abbrev t' : Summary
  t' = record t { target_count = c + 1; targets = set t.targets c x }

  here : get_or t'.targets c none ≡ x
  here = get_or-set_same t.targets c x none (omega (arith, w.in_limits.targets_room))

  other : (i : ℕ) → (i ≡ c → ⊥) → get_or t'.targets i none ≡ get_or t.targets i none
  other i ne = get_or-set_other t.targets c i x none ne

  old_target : (i : ℕ) → i < c → target_at a.nodes t' i ≡ target_at a.nodes t i
  old_target i l = ap (λ (y : StoredTarget). target_with a.nodes y.segment y.write) (other i (λ z. omega arith))

  new_target : target_at a.nodes t' c ≡ new
  new_target = ap (λ (y : StoredTarget). target_with a.nodes y.segment y.write) here ∙ go word fitting
    where
      go : (o : Option ℕ) → IsWord a.nodes s o bs → target_with a.nodes s o ≡ target_for (is_some o) s bs
      go None f = refl
      go (Some v) f =
          ap (write s)
          (ap (tabulate (word_bit v) 0) (sym f.1) ∙ ap (λ (y : ℕ). tabulate (word_bit y) 0 (length bs)) f.0 ∙ word_bits bs)

  targets' : targets_of a.nodes t' ≡ d.targets ++ new ∷ []
  targets' =
      let e : c + 1 ≡ suc c = omega arith in
      ap (tabulate (target_at a.nodes t') 0) e ∙ tabulate_snoc (target_at a.nodes t') 0 c
      ∙ ap (λ (l : List Target). l ++ target_at a.nodes t' (0 + c) ∷ [])
      (tabulate_cong (target_at a.nodes t') (target_at a.nodes t) 0 c (λ i l. let z : 0 + i < c = omega arith in old_target (0 + i) z) ∙ w.targets_are)
      ∙ ap (λ (y : Target). d.targets ++ y ∷ []) (ap (target_at a.nodes t') (zero-add c) ∙ new_target)

  stored' : TargetsStored t' (d.targets ++ new ∷ [])
  stored' i = go (eqb i c) refl
    where
      last : get_or (d.targets ++ new ∷ []) c no_target ≡ new
      last = rw (← (represented_targets w)) (snoc_last d.targets new no_target)

      stored_new : (o : Option ℕ) → IsWord a.nodes s o bs → ◌≡◌ {A = StoredTarget} record { segment = s; write = o } (stored_target (target_for (is_some o) s bs))
      stored_new None f = refl
      stored_new (Some v) f = ap (λ (y : ℕ). record { segment = s; write = Some y }) f.0

      go : (b : Bool) → eqb i c ≡ b → get_or t'.targets i none ≡ stored_target (get_or (d.targets ++ new ∷ []) i no_target)
      go true e = rw (eqb-true i c e, last) (here ∙ stored_new word fitting)
      go false e =
          let ne : i ≡ c → ⊥ = eqb-false i c e in
          rw (snoc_other d.targets new no_target i (λ z. ne (z ∙ represented_targets w))) (other i ne ∙ w.numbers_of_targets i)

  pub with_target_law : Represents a t' (with_target d new) (suc n)
  with_target_law = record {
    sized = w.sized;
    in_limits = record {
      nodes_fit = w.in_limits.nodes_fit;
      bits_fit = w.in_limits.bits_fit;
      targets_fit = omega arith;
      targets_room = length-set t.targets c x ∙ w.in_limits.targets_room;
    };
    nodes_are = w.nodes_are;
    numbers_are = w.numbers_are;
    total_is = w.total_is;
    out_is = w.out_is;
    targets_are = targets';
    numbers_of_targets = stored';
    steering_is = w.steering_is;
    steering_small = w.steering_small;
    flag_is = w.flag_is;
    start_is = w.start_is;
    bits_are = w.bits_are;
    known_are = w.known_are;
    sound = sound_target d (with_target d new) n new w.sound is;
  }
