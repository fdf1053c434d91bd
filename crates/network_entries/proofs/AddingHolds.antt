-- A `hold` line added.
-- Assumes nothing.
use mathlib.Core.Path.{◌≡◌, refl, sym, ap, ◌∙◌}
use mathlib.Core.Bool.{Bool, true, false, cond, ◌||◌}
use mathlib.Core.List.{List, [], ◌∷◌}
use Prim.Native.Nat.{ℕ, zero, suc, ◌≤◌, ◌<◌}
use native.Mathlib.Omega.{arith}
use native.Mathlib.Decide.{dec_lt}
use lib.ListN.{length, get_or, set, length-set, get_or-eq_default}
use lib.Dec.{eqb, leb, ltb}
use borrow.Author.Tests.{eq-eqb, ne_eqb, ltb-false}
use Rattle.model.specs.Limits.{max_len}
use Rattle.model.specs.Result.{ok, refused}
use Rattle.model.specs.Text.{Bytes, Trit, trit, bits_from}
use Rattle.model.specs.Network.{Node, segment, multiplexer, at, no_node, is_segment, len_of, held_or}
use Rattle.model.specs.NetworkText.{Draft, has_out, is_some, fits_bits, is_held, add_hold, with_hold, outside}
use Rattle.model.proofs.HeldBits.{held_append, held_one, held_other, held_free}
use Rattle.model.proofs.Lists.{or_parts, or_right, true_false, and_false_right, eqb_same}
use Rattle.model.proofs.Reading.{sound_hold}
use Rattle.network_words.specs.Words.{byte_bit, word_from, byte_known}
use Rattle.network_path.specs.Layout.{node_at}
use Rattle.network_line.specs.Line.{bits_in}
use Rattle.network_draft.specs.declared.store.Summary.{Summary}
use Rattle.network_draft.specs.Store.{by_hold, by_reset}
use Rattle.network_draft.specs.Represents.{Arrays, arrays, Represents}
use Rattle.network_draft.proofs.GivenBits.{one, held_more, held_others, Gives, flags_after, start_after, bits_after, known_after}

-- ---- segments of a draft

module _ {a : Arrays} {t : Summary} {d : Draft} {n : ℕ} (w : Represents a t d n) where
  -- a node without bits is no segment
  segment_long : (k : ℕ) (x : Node) → outside max_len k x ≡ false → len_of x ≡ 0 → is_segment x ≡ false
  segment_long k (segment from len s) e z = let a = or_parts (leb k from || ltb len 1) (ltb max_len len) e in let b = or_parts (leb k from) (ltb len 1) a.0 in absurd (let l = ltb-false len 1 b.1 in omega arith)
  segment_long k (multiplexer s b ins) e z = refl

  pub no_bits : (s : ℕ) → len_of (at d.nodes s no_node) ≡ 0 → is_segment (at d.nodes s no_node) ≡ false
  no_bits zero e = refl
  no_bits (suc k) e = go (dec_lt k (length d.nodes))
    where
      go : Dec (k < length d.nodes) → is_segment (get_or d.nodes k no_node) ≡ false
      go (yes l) = segment_long (suc k) (get_or d.nodes k no_node) (w.sound.nodes_placed k l).within e
      go (no l) = ap is_segment (get_or-eq_default d.nodes no_node (omega arith))

  is_segment_law : (x : Node) → (len_of x ≡ 0 → ⊥) → is_segment x ≡ true
  is_segment_law (segment from len s) ne = refl
  is_segment_law (multiplexer s b ins) ne = absurd (ne refl)

  pub with_bits_law : (s : ℕ) → (len_of (at d.nodes s no_node) ≡ 0 → ⊥) → is_segment (at d.nodes s no_node) ≡ true
  with_bits_law s ne = is_segment_law (at d.nodes s no_node) ne

  -- whether bits fit a segment, by its LEN
  pub unfit_none : {A : Type 0} (s : ℕ) (bs : List A) → len_of (at d.nodes s no_node) ≡ 0 → fits_bits d.nodes s bs ≡ false
  unfit_none s bs e = rw (no_bits s e)

  pub unfit_length : {A : Type 0} (s : ℕ) (bs : List A) → (length bs ≡ len_of (at d.nodes s no_node) → ⊥) → fits_bits d.nodes s bs ≡ false
  unfit_length s bs ne = rw (ne_eqb (length bs) (len_of (at d.nodes s no_node)) ne) (and_false_right (is_segment (at d.nodes s no_node)))

  pub fit : {A : Type 0} (s : ℕ) (bs : List A) → (len_of (at d.nodes s no_node) ≡ 0 → ⊥) → length bs ≡ len_of (at d.nodes s no_node) → fits_bits d.nodes s bs ≡ true
  fit s bs ne e = rw (with_bits_law s ne) (eq-eqb (length bs) (len_of (at d.nodes s no_node)) e)

-- ---- the refusals

module _ (d : Draft) (n s : ℕ) (bs : List Trit) where
  pub hold_4 : has_out d ≡ false → add_hold d n s bs ≡ refused 4 n
  unfolding add_hold
  hold_4 e = rw e

  pub hold_6 : has_out d ≡ true → fits_bits d.nodes s bs ≡ false → add_hold d n s bs ≡ refused 6 n
  unfolding add_hold
  hold_6 e f = rw (e, f)

  pub held_6 : has_out d ≡ true → fits_bits d.nodes s bs ≡ true → is_held d.holds s ≡ true → add_hold d n s bs ≡ refused 6 n
  unfolding add_hold
  held_6 e f g = rw (e, f, g)

  pub hold_added : has_out d ≡ true → fits_bits d.nodes s bs ≡ true → is_held d.holds s ≡ false → add_hold d n s bs ≡ ok (with_hold d s bs)
  unfolding add_hold
  hold_added e f g = rw (e, f, g)

-- ---- one hold more

module _ {a : Arrays} {t : Summary} {d : Draft} {n : ℕ} (w : Represents a t d n)
    (s : ℕ) (f : Bytes) (form : is_some (bits_from trit [] f) ≡ true) (in-range : s ≤ 128) (len : length f ≡ len_of (node_at a.nodes s))
    (fresh : is_held d.holds s ≡ false) (is : add_hold d n s (bits_in trit f) ≡ ok (with_hold d s (bits_in trit f))) where
  gives : Gives d (with_hold d s (bits_in trit f)) a.nodes a.nodes s f by_hold
  gives = record {
    flag_here = ap (λ (b : Bool). cond b by_hold (cond (is_held d.resets s) by_reset 0)) (held_more d.holds s (bits_in trit f) s ∙ or_right (is_held d.holds s) (eqb s s) (eqb_same s));
    flag_other = λ r ne. ap (λ (b : Bool). cond b by_hold (cond (is_held d.resets r) by_reset 0)) (held_others d.holds s (bits_in trit f) r ne);
    bits_here = λ other. held_append (held_or other d.resets s) d.holds (one s (bits_in trit f) ∷ []) s
        ∙ ap (λ (ts : List Trit). held_or ts d.holds s) (held_one _ (bits_in trit f) s) ∙ held_free (bits_in trit f) d.holds s fresh;
    bits_other = λ other r ne. held_append (held_or other d.resets r) d.holds (one s (bits_in trit f) ∷ []) r
        ∙ ap (λ (ts : List Trit). held_or ts d.holds r) (held_other _ (bits_in trit f) s r (λ z. ne (sym z)));
    len_here = λ e. len;
    len_other = λ r ne. refl;
    without = λ e. absurd (true_false (sym e));
  }

  pub with_hold_law : Represents (arrays a.nodes (set a.bits s (word_from byte_bit 0 f)) (set a.known s (word_from byte_known 0 f)) a.steering (set a.held s by_hold)) t
      (with_hold d s (bits_in trit f)) (suc n)
  with_hold_law = record {
    sized = record {
      nodes = w.sized.nodes;
      bit_words = length-set a.bits s (word_from byte_bit 0 f) ∙ w.sized.bit_words;
      known_words = length-set a.known s (word_from byte_known 0 f) ∙ w.sized.known_words;
      steering_words = w.sized.steering_words;
      held_flags = length-set a.held s by_hold ∙ w.sized.held_flags;
    };
    in_limits = w.in_limits;
    nodes_are = w.nodes_are;
    numbers_are = w.numbers_are;
    total_is = w.total_is;
    out_is = w.out_is;
    targets_are = w.targets_are;
    numbers_of_targets = w.numbers_of_targets;
    steering_is = w.steering_is;
    steering_small = w.steering_small;
    flag_is = flags_after w form in-range gives;
    start_is = start_after w form in-range gives;
    bits_are = bits_after w form in-range gives;
    known_are = known_after w form in-range gives;
    sound = sound_hold d (with_hold d s (bits_in trit f)) n s (bits_in trit f) w.sound is;
  }
