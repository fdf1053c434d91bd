-- A node line added: the refusals in order, and the arrays that then represent the longer draft.
-- Assumes nothing.
use mathlib.Core.Path.{◌≡◌, refl, sym, ap, ◌∙◌, subst}
use mathlib.Core.Bool.{Bool, true, false, cond, not, ◌||◌}
use mathlib.Core.List.{List, [], ◌∷◌, ◌++◌, Memᴰ}
use Prim.Native.Nat.{ℕ, zero, suc, ◌+◌, ◌≤◌, ◌<◌}
use native.Mathlib.Omega.{arith}
use native.Mathlib.Nat.{zero-add}
use lib.ListN.{length, get_or, set, length-set, length-take}
use lib.Dec.{eqb}
use borrow.Author.Tests.{eqb-true, eqb-false, ne_eqb, not-false, le-leb, lt-leb, lt-ltb, le-ltb}
use Rattle.model.specs.Limits.{max_len}
use Rattle.model.specs.Result.{ok, refused}
use Rattle.model.specs.Text.{Bytes, Trit, trit, bits_from}
use Rattle.model.specs.Network.{Node, at, no_node, len_of, total_bits, tabulate, steers_at, held_or, Held}
use Rattle.model.specs.NetworkText.{Reset, bad_reset, Draft, has_out, outside, add_node, with_node, is_held, is_some}
use Rattle.model.specs.Drafted.{GoodForm, Sound, Stage, no_out, behind_out}
use Rattle.model.proofs.HeldBits.{held_append, held_one, held_other, held_free, none_for}
use Rattle.model.proofs.Lists.{eqb_same, or_right, tabulate_cong, true_false, tabulate_snoc}
use Rattle.model.proofs.Reading.{sound_node, total_more}
use Rattle.network_words.specs.Words.{word_width, byte_bit, word_from, byte_known}
use Rattle.network_path.specs.Layout.{field_at, node_at, nodes_of}
use Rattle.network_line.specs.declared.NodeData.{NodeData}
use Rattle.network_line.specs.declared.NodeData.TheVariants.{Segment, Multiplexer}
use Rattle.network_line.specs.Line.{node_for, SmallNode, bits_in, reset_in}
use Rattle.network_draft.specs.declared.store.Summary.{Summary}
use Rattle.network_draft.specs.Store.{NumbersStored, unfit_reset, by_hold, by_reset, reset_flag, Marked}
use Rattle.network_draft.specs.Numbers.{numbers_for, NodesStored}
use Rattle.network_draft.specs.Represents.{given_or, Arrays, arrays, Represents, target_at, targets_of}
use Rattle.network_draft.proofs.Nodes.{node_by_fields, node_numbers_law}
use Rattle.network_draft.proofs.Representing.{snoc_last, snoc_other, steers_more, represented_count, represented_targets, kept_node, len_small}
use Rattle.network_draft.proofs.GivenBits.{bits_in_length, one, held_more, held_others, Gives, flags_after, start_after, bits_after, known_after}

-- ---- the refusals

module _ (d : Draft) (n : ℕ) (x : Node) (v : Reset) where
  pub node_4 : has_out d ≡ true → add_node max_len d n x v ≡ refused 4 n
  unfolding add_node
  node_4 e = rw e

  pub node_2 : has_out d ≡ false → outside max_len n x ≡ true → add_node max_len d n x v ≡ refused 2 n
  unfolding add_node
  node_2 e f = rw (e, f)

  module _ (e : has_out d ≡ false) (f : outside max_len n x ≡ false) where
    pub reset_18 : bad_reset x v ≡ true → add_node max_len d n x v ≡ refused 18 n
    unfolding add_node
    reset_18 b = rw (e, f, b)

    module _ (b : bad_reset x v ≡ false) where
      pub node_3 : 128 ≤ length d.nodes → add_node max_len d n x v ≡ refused 3 n
      unfolding add_node
      node_3 h = rw (e, f, b, le-leb 128 (length d.nodes) h)

      module _ (h : length d.nodes < 128) where
        pub bits_3 : 4000 < total_bits d.nodes + len_of x → add_node max_len d n x v ≡ refused 3 n
        unfolding add_node
        bits_3 k = rw (e, f, b, lt-leb 128 (length d.nodes) h, lt-ltb 4000 (total_bits d.nodes + len_of x) k)

        pub node_added : total_bits d.nodes + len_of x ≤ 4000 → add_node max_len d n x v ≡ ok (with_node d x v)
        unfolding add_node
        node_added k = rw (e, f, b, lt-leb 128 (length d.nodes) h, le-ltb 4000 (total_bits d.nodes + len_of x) k)

some_bits : (k : ℕ) → eqb (suc k) 0 ≡ false
some_bits k = ne_eqb (suc k) 0 (λ z. omega arith)

-- 18 by the lengths
pub reset_unfit : (x : Node) (f : Bytes) → is_some (bits_from trit [] f) ≡ true → bad_reset x (reset_in f) ≡ unfit_reset (length f) (len_of x)
reset_unfit x [] form = refl
reset_unfit x (b ∷ f) form = rw (some_bits (length f)) (ap (λ (k : ℕ). not (eqb k (len_of x))) (bits_in_length trit (b ∷ f) form))

-- a RESET that fits is not longer than a word
pub short_reset : (n : ℕ) (x : Node) (reset : ℕ) → outside max_len n x ≡ false → unfit_reset reset (len_of x) ≡ false → reset ≤ word_width
short_reset n x zero o e = omega arith
short_reset n x (suc k) o e = let q = eqb-true (suc k) (len_of x) (not-false _ (rw (some_bits k) at e)) in omega (arith, len_small n x o)

-- a node of small fields has good form
pub good_form : (x : NodeData) → SmallNode x → GoodForm (node_for x)
good_form (Segment from len shadow) s = tt
good_form (Multiplexer q b n inputs) s = simp length-take (omega arith)

-- ---- the draft before `out` has no holds and no targets

record Bare (d : Draft) : Type 0 where
  no_holds : d.holds ≡ []
  no_targets : d.targets ≡ []

bare : (d : Draft) (n : ℕ) → Sound d n → has_out d ≡ false → Bare d
bare d n s e = go s.stage
  where
    go : Stage d n → Bare d
    go (no_out p m hs ts) = record { no_holds = hs; no_targets = ts }
    go (behind_out k p z y hs ts) = absurd (true_false (sym (ap is_some p) ∙ e))

-- ---- the RESET of the new node

fits_len : (reset len : ℕ) → unfit_reset reset len ≡ false → eqb (reset_flag reset) 0 ≡ false → reset ≡ len
fits_len zero len e g = absurd (true_false g)
fits_len (suc k) len e g = eqb-true (suc k) len (not-false _ (rw (some_bits k) at e))

module _ (d : Draft) (x : Node) (ns ns' : List ℕ) (bare : d.holds ≡ []) (among : (h : Held) → Memᴰ h d.resets → h.segment_number ≤ length d.nodes) where
  abbrev k : ℕ
  k = suc (length d.nodes)

  no_hold : (s : ℕ) → is_held d.holds s ≡ false
  unfolding is_held
  no_hold s = ap (λ (hs : List Held). is_held hs s) bare

  fresh : is_held d.resets k ≡ false
  fresh = none_for d.resets k (λ h m q. let l = among h m in omega arith)

  by_reset_law : (other : List Trit) (s : ℕ) → given_or other d s ≡ held_or other d.resets s
  by_reset_law other s = held_free _ d.holds s (no_hold s)

  gives : (f : Bytes) → (eqb (reset_flag (length f)) 0 ≡ false → length f ≡ len_of (node_at ns' k)) → ((r : ℕ) → (r ≡ k → ⊥) → len_of (node_at ns' r) ≡ len_of (node_at ns r))
      → Gives d (with_node d x (reset_in f)) ns ns' k f (reset_flag (length f))
  gives [] here others = record {
    flag_here = rw (no_hold k, fresh);
    flag_other = λ r ne. refl;
    bits_here = λ other. by_reset_law other k ∙ held_free other d.resets k fresh;
    bits_other = λ other r ne. refl;
    len_here = here;
    len_other = others;
    without = λ e. refl;
  }
  gives (b ∷ f) here others = record {
    flag_here = rw (no_hold k, some_bits (length f)) (ap (λ (t : Bool). cond t by_reset 0) (held_more d.resets k (bits_in trit (b ∷ f)) k ∙ or_right (is_held d.resets k) (eqb k k) (eqb_same k)));
    flag_other = λ r ne. ap (λ (t : Bool). cond (is_held d.holds r) by_hold (cond t by_reset 0)) (held_others d.resets k (bits_in trit (b ∷ f)) r ne);
    bits_here = λ other. held_free _ d.holds k (no_hold k) ∙ held_append other d.resets (one k (bits_in trit (b ∷ f)) ∷ []) k
        ∙ rw (some_bits (length f)) (ap (λ (ts : List Trit). held_or ts d.resets k) (held_one other (bits_in trit (b ∷ f)) k) ∙ held_free (bits_in trit (b ∷ f)) d.resets k fresh);
    bits_other = λ other r ne. ap (λ (ts : List Trit). held_or ts d.holds r)
        (held_append other d.resets (one k (bits_in trit (b ∷ f)) ∷ []) r ∙ ap (λ (ts : List Trit). held_or ts d.resets r) (held_other other (bits_in trit (b ∷ f)) k r (λ z. ne (sym z))));
    len_here = here;
    len_other = others;
    without = λ e. absurd (true_false (sym (rw (some_bits (length f)) at e)));
  }

-- ---- the longer draft

module _ {a : Arrays} {t : Summary} {d : Draft} {n : ℕ} (w : Represents a t d n) (x : Node) (form : GoodForm x) (f : Bytes) (good : is_some (bits_from trit [] f) ≡ true)
    (ns' steering' : List ℕ) (stored : NumbersStored a.nodes (t.count + 1) (numbers_for x) ns') (marked : Marked a.steering x steering')
    (no : has_out d ≡ false) (inside : outside max_len n x ≡ false) (fits : unfit_reset (length f) (len_of x) ≡ false) (few : t.count < 128) (short : total_bits d.nodes + len_of x ≤ 4000) where
  abbrev t' : Summary
  t' = record t { count = t.count + 1; total = t.total + len_of x }

  its : Bare d
  its = bare d n w.sound no

  stored_node : node_at ns' (t.count + 1) ≡ x
  stored_node =
      let are = node_numbers_law x form in
      node_by_fields ns' (numbers_for x) (t.count + 1) 0 (λ i h. stored.here i h ∙ ap (λ (k : ℕ). get_or (numbers_for x) k 0) (sym (zero-add i))) are.kind ∙ are.is

  nodes' : nodes_of ns' (t.count + 1) ≡ d.nodes ++ x ∷ []
  nodes' =
      let e : t.count + 1 ≡ suc t.count = omega arith in
      let f : 1 + t.count ≡ t.count + 1 = omega arith in
      ap (nodes_of ns') e ∙ tabulate_snoc (node_at ns') 1 t.count
      ∙ ap (λ (l : List Node). l ++ node_at ns' (1 + t.count) ∷ [])
      (tabulate_cong (node_at ns') (node_at a.nodes) 1 t.count (λ k l. kept_node w (numbers_for x) ns' (t.count + 1) stored (1 + k) (λ z. omega arith)) ∙ w.nodes_are)
      ∙ ap (λ (y : Node). d.nodes ++ y ∷ []) (ap (node_at ns') f ∙ stored_node)

  at_new : (k : ℕ) → k ≡ suc (length d.nodes) → at (d.nodes ++ x ∷ []) k no_node ≡ x
  at_new k e = rw e (snoc_last d.nodes x no_node)

  at_old : (k : ℕ) → (k ≡ suc (length d.nodes) → ⊥) → at (d.nodes ++ x ∷ []) k no_node ≡ at d.nodes k no_node
  at_old zero ne = refl
  at_old (suc k) ne = snoc_other d.nodes x no_node k (λ z. ne (ap suc z))

  numbers' : NodesStored ns' (d.nodes ++ x ∷ [])
  numbers' k i h = go (eqb k (t.count + 1)) refl
    where
      go : (b : Bool) → eqb k (t.count + 1) ≡ b → field_at ns' k i ≡ get_or (numbers_for (at (d.nodes ++ x ∷ []) k no_node)) i 0
      go true e =
          let q : k ≡ t.count + 1 = eqb-true k (t.count + 1) e in
          ap (λ (m : ℕ). field_at ns' m i) q ∙ stored.here i h
          ∙ ap (λ (y : Node). get_or (numbers_for y) i 0) (sym (at_new k (omega (arith, represented_count w))))
      go false e =
          let ne : k ≡ t.count + 1 → ⊥ = eqb-false k (t.count + 1) e in
          stored.others k i ne h ∙ w.numbers_are k i h
          ∙ ap (λ (y : Node). get_or (numbers_for y) i 0) (sym (at_old k (λ z. ne (omega (arith, represented_count w)))))

  no_targets' : targets_of ns' t' ≡ d.targets
  no_targets' =
      let e : t.target_count ≡ 0 = sym (represented_targets w) ∙ ap length its.no_targets in
      ap (tabulate (target_at ns' t') 0) e ∙ sym its.no_targets

  new : suc (length d.nodes) ≡ t.count + 1
  new = omega (arith, represented_count w)

  given : Gives d (with_node d x (reset_in f)) a.nodes ns' (t.count + 1) f (reset_flag (length f))
  given =
      subst (λ (k : ℕ). Gives d (with_node d x (reset_in f)) a.nodes ns' k f (reset_flag (length f))) new
      (gives d x a.nodes ns' its.no_holds (λ h m. (w.sound.resets_fit h m).among) f
      (λ e. fits_len (length f) (len_of x) fits e ∙ ap len_of (sym stored_node) ∙ ap (λ (k : ℕ). len_of (node_at ns' k)) (sym new))
      (λ r ne. ap len_of (kept_node w (numbers_for x) ns' (t.count + 1) stored r (λ z. ne (z ∙ sym new)))))

  pub longer : Represents
      (arrays ns' (set a.bits (t.count + 1) (word_from byte_bit 0 f)) (set a.known (t.count + 1) (word_from byte_known 0 f)) steering' (set a.held (t.count + 1) (reset_flag (length f))))
      t' (with_node d x (reset_in f)) (suc n)
  longer = record {
    sized = record {
      nodes = stored.size ∙ w.sized.nodes;
      bit_words = length-set a.bits (t.count + 1) (word_from byte_bit 0 f) ∙ w.sized.bit_words;
      known_words = length-set a.known (t.count + 1) (word_from byte_known 0 f) ∙ w.sized.known_words;
      steering_words = marked.size ∙ w.sized.steering_words;
      held_flags = length-set a.held (t.count + 1) (reset_flag (length f)) ∙ w.sized.held_flags;
    };
    in_limits = record {
      nodes_fit = omega arith;
      bits_fit = omega (arith, w.total_is);
      targets_fit = w.in_limits.targets_fit;
      targets_room = w.in_limits.targets_room;
    };
    nodes_are = nodes';
    numbers_are = numbers';
    total_is = ap (λ (k : ℕ). k + len_of x) w.total_is ∙ sym (total_more d.nodes x);
    out_is = w.out_is;
    targets_are = no_targets';
    numbers_of_targets = w.numbers_of_targets;
    steering_is = λ s b l m. marked.marks s b l m ∙ ap (λ (q : Bool). q || steers_at x s b) (w.steering_is s b l m) ∙ sym (steers_more d.nodes x s b);
    steering_small = marked.small w.steering_small;
    flag_is = flags_after w good (omega arith) given;
    start_is = start_after w good (omega arith) given;
    bits_are = bits_after w good (omega arith) given;
    known_are = known_after w good (omega arith) given;
    sound = sound_node d (with_node d x (reset_in f)) n x (reset_in f) form w.sound (node_added d n x (reset_in f) no inside (reset_unfit x f good ∙ fits) (omega (arith, represented_count w)) short);
  }
