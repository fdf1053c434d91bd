-- Laws of the list of steering bits: the loops that write it, and that it is the model's list.
-- Assumes nothing.
use mathlib.Core.Path.{◌≡◌, refl, sym, ap, ◌∙◌}
use mathlib.Core.Bool.{Bool, true, false, cond}
use mathlib.Core.List.{List, [], ◌∷◌, ◌++◌, append_assoc, append-nil}
use Prim.Native.Nat.{ℕ, zero, suc, ◌+◌, ◌-◌, ◌≤◌, ◌<◌}
use native.Mathlib.Nat.{zero-add}
use native.Mathlib.Numerals.{add-one}
use native.Mathlib.Omega.{arith}
use lib.ListN.{length, get_or, set, length-set, length-append}
use lib.Seq.{get_or-set_same, get_or-set_other}
use Rattle.model.specs.Network.{Node, len_of, tabulate, steers, steering_in, steering_from, steering_bits}
use Rattle.model.specs.Path.{bit_value}
use Rattle.model.proofs.Lists.{length_tabulate, tabulate_cong, tabulate_snoc}
use Rattle.network_words.specs.Words.{word_width, word_bit}
use Rattle.network_path.specs.Layout.{node_at, nodes_of}
use Rattle.planner_steering.specs.declared.SteeringBit.{SteeringBit}
use Rattle.planner_steering.specs.Steering.{no_bit, pair_at, bits_of, marked_in, Behind, Steered}

pub length_bits : (listed : List SteeringBit) (k : ℕ) → length (bits_of listed k) ≡ k
length_bits listed k = length_tabulate (pair_at listed) 0 k

-- one bit more
bits_more : (listed : List SteeringBit) (m s b : ℕ) → m < length listed → bits_of (set listed m record { segment = s; bit = b }) (m + 1) ≡ bits_of listed m ++ (s, b) ∷ []
bits_more listed m s b h =
    let new = set listed m record { segment = s; bit = b } in
    let before : tabulate (pair_at new) 0 m ≡ bits_of listed m =
    tabulate_cong (pair_at new) (pair_at listed) 0 m (λ x l. ap (λ (p : SteeringBit). (p.segment, p.bit)) (get_or-set_other listed m (0 + x) record { segment = s; bit = b } no_bit (λ z. omega arith))) in
    let last : pair_at new (0 + m) ≡ (s, b) = ap (pair_at new) (zero-add m) ∙ ap (λ (p : SteeringBit). (p.segment, p.bit)) (get_or-set_same listed m record { segment = s; bit = b } no_bit h) in
    rw (add-one m) (tabulate_snoc (pair_at new) 0 m ∙ rw (before, last))

-- ---- the bits of one segment: those listed and those to come make the whole

pub record Marking (w len s : ℕ) (old : List SteeringBit) (n b : ℕ) (listed : List SteeringBit) (m : ℕ) : Type 0 where
  pub passed : b ≤ len
  pub short : len ≤ word_width
  pub whole : bits_of listed m ++ marked_in w s b (len - b) ≡ bits_of old n ++ marked_in w s 0 len
  pub sized : length listed ≡ 6
  pub room : m + length (marked_in w s b (len - b)) ≤ 6

module _ (w len s : ℕ) (old : List SteeringBit) (n : ℕ) where
  module _ (b : ℕ) (listed : List SteeringBit) (m : ℕ) (lt : b < len) (p : Marking w len s old n b listed m) where
    step : marked_in w s b (len - b) ≡ cond (word_bit w b) ((s, b) ∷ marked_in w s (b + 1) (len - (b + 1))) (marked_in w s (b + 1) (len - (b + 1)))
    unfolding marked_in
    step = let e : len - b ≡ suc (len - (b + 1)) = omega arith in rw (e, add-one b) refl

    set_is : (r : ℕ) → r ≡ bit_value (word_bit w b) → r ≡ 1 → word_bit w b ≡ true
    set_is r e f = by (word_bit w b) (sym e ∙ f)
      where
        by : (t : Bool) → bit_value t ≡ 1 → t ≡ true
        by true q = refl
        by false q = absurd (omega arith)

    clear_is : (r : ℕ) → r ≡ bit_value (word_bit w b) → (r ≡ 1 → ⊥) → word_bit w b ≡ false
    clear_is r e f = by (word_bit w b) (sym e)
      where
        by : (t : Bool) → bit_value t ≡ r → t ≡ false
        by true q = absurd (f (sym q))
        by false q = refl

    -- there is room for the bit
    pub marking_room : (r : ℕ) → r ≡ bit_value (word_bit w b) → r ≡ 1 → m < 6
    marking_room r e f =
        let here : marked_in w s b (len - b) ≡ (s, b) ∷ marked_in w s (b + 1) (len - (b + 1)) = step ∙ rw (set_is r e f) in
        omega (arith, p.room, ap length here)

    pub marking_set : (r : ℕ) → r ≡ bit_value (word_bit w b) → r ≡ 1 → Marking w len s old n (b + 1) (set listed m record { segment = s; bit = b }) (m + 1)
    marking_set r e f =
        let here : marked_in w s b (len - b) ≡ (s, b) ∷ marked_in w s (b + 1) (len - (b + 1)) = step ∙ rw (set_is r e f) in
        let small : m < 6 = marking_room r e f in
        record {
          passed = omega arith;
          short = p.short;
          whole = ap (λ (l : List (ℕ × ℕ)). l ++ marked_in w s (b + 1) (len - (b + 1))) (bits_more listed m s b (omega (arith, p.sized)))
              ∙ append_assoc (bits_of listed m) ((s, b) ∷ []) (marked_in w s (b + 1) (len - (b + 1))) ∙ ap (λ (l : List (ℕ × ℕ)). bits_of listed m ++ l) (sym here) ∙ p.whole;
          sized = length-set listed m record { segment = s; bit = b } ∙ p.sized;
          room = omega (arith, p.room, ap length here);
        }

    pub marking_clear : (r : ℕ) → r ≡ bit_value (word_bit w b) → (r ≡ 1 → ⊥) → Marking w len s old n (b + 1) listed m
    marking_clear r e f =
        let here : marked_in w s b (len - b) ≡ marked_in w s (b + 1) (len - (b + 1)) = step ∙ rw (clear_is r e f) in
        record {
          passed = omega arith;
          short = p.short;
          whole = ap (λ (l : List (ℕ × ℕ)). bits_of listed m ++ l) (sym here) ∙ p.whole;
          sized = p.sized;
          room = omega (arith, p.room, ap length here);
        }

  pub marking_all : (b : ℕ) (listed : List SteeringBit) (m : ℕ) → len ≤ b → Marking w len s old n b listed m → Behind old n (marked_in w s 0 len) listed m
  unfolding marked_in
  marking_all b listed m l p =
      let e : len - b ≡ 0 = omega arith in
      record { lists = sym (append-nil (bits_of listed m)) ∙ (rw e at p.whole); sized = p.sized }

-- ---- the segments in turn

-- the bits that are set in the words of segments s on, n nodes
unfoldable pub marked_from : List ℕ → List ℕ → ℕ → ℕ → List (ℕ × ℕ)
marked_from ns steering s zero = []
marked_from ns steering s (suc n) = marked_in (get_or steering s 0) s 0 (len_of (node_at ns s)) ++ marked_from ns steering (suc s) n

pub record Gathering (ns steering : List ℕ) (count s : ℕ) (listed : List SteeringBit) (n : ℕ) : Type 0 where
  pub first : 1 ≤ s
  pub passed : s ≤ count + 1
  pub whole : bits_of listed n ++ marked_from ns steering s (count + 1 - s) ≡ marked_from ns steering 1 count
  pub sized : length listed ≡ 6
  pub room : n + length (marked_from ns steering s (count + 1 - s)) ≤ 6

-- the words tell the model's steering bits
module _ (all : List Node) (w s : ℕ) (same : (b : ℕ) → b < word_width → word_bit w b ≡ steers all s b) where
  marked_in_law : (n b : ℕ) → b + n ≤ word_width → marked_in w s b n ≡ steering_in all s b n
  unfolding marked_in steering_in
  marked_in_law zero b l = refl
  marked_in_law (suc n) b l = rw (same b (omega arith), marked_in_law n (suc b) (omega arith))

module _ (ns steering : List ℕ) (count : ℕ) (p : Steered ns steering count) where
  marked_from_law : (n s : ℕ) → 1 ≤ s → s + n ≤ count + 1 → marked_from ns steering s n ≡ steering_from (nodes_of ns count) s (tabulate (node_at ns) s n)
  unfolding marked_from steering_from
  marked_from_law zero s a l = refl
  marked_from_law (suc n) s a l =
      let most = p.most in
      let h = marked_in_law (nodes_of ns count) (get_or steering s 0) s (λ b m. p.steering_is s b (omega arith) m) (len_of (node_at ns s)) 0 (omega (arith, p.short s a (omega arith))) in
      rw (h, marked_from_law n (suc s) (omega arith) (omega arith))

  marked_steering : marked_from ns steering 1 count ≡ steering_bits (nodes_of ns count)
  marked_steering = marked_from_law count 1 (omega arith) (omega arith)

  pub gathering_none : (listed : List SteeringBit) → length listed ≡ 6 → Gathering ns steering count 1 listed 0
  gathering_none listed sized =
      let e : count + 1 - 1 ≡ count = omega arith in
      record { first = omega arith; passed = omega arith; whole = rw e; sized = sized; room = rw e (omega (arith, ap length marked_steering, p.few)) }

  module _ (s : ℕ) (listed : List SteeringBit) (n : ℕ) (g : Gathering ns steering count s listed n) where
    from_step : s ≤ count → marked_from ns steering s (count + 1 - s) ≡ marked_in (get_or steering s 0) s 0 (len_of (node_at ns s)) ++ marked_from ns steering (s + 1) (count + 1 - (s + 1))
    unfolding marked_from
    from_step l = let e : count + 1 - s ≡ suc (count + 1 - (s + 1)) = omega arith in rw (e, add-one s) refl

    -- what `list_segment` asks
    pub gathering_room : (len : ℕ) → s ≤ count → len ≡ len_of (node_at ns s) → n + length (marked_in (get_or steering s 0) s 0 len) ≤ 6
    gathering_room len l e =
        rw e (omega (arith, g.room, ap length (from_step l), length-append (marked_in (get_or steering s 0) s 0 (len_of (node_at ns s))) (marked_from ns steering (s + 1) (count + 1 - (s + 1)))))

    pub gathering_short : (len : ℕ) → s ≤ count → len ≡ len_of (node_at ns s) → len ≤ word_width
    gathering_short len l e = omega (arith, p.short s g.first l)

    pub gathering_more : (len : ℕ) (new : List SteeringBit) (r : ℕ) → s ≤ count → len ≡ len_of (node_at ns s)
        → Behind listed n (marked_in (get_or steering s 0) s 0 len) new r → Gathering ns steering count (s + 1) new r
    gathering_more len new r l e q =
        let M = marked_in (get_or steering s 0) s 0 (len_of (node_at ns s)) in
        let F = marked_from ns steering (s + 1) (count + 1 - (s + 1)) in
        let lists : bits_of new r ≡ bits_of listed n ++ marked_in (get_or steering s 0) s 0 (len_of (node_at ns s)) = rw e at q.lists in
        let whole : bits_of new r ++ F ≡ marked_from ns steering 1 count =
        ap (λ (l : List (ℕ × ℕ)). l ++ F) lists ∙ append_assoc (bits_of listed n) M F ∙ ap (λ (l : List (ℕ × ℕ)). bits_of listed n ++ l) (sym (from_step l)) ∙ g.whole in
        record {
          first = omega arith;
          passed = omega arith;
          whole = whole;
          sized = q.sized;
          room = omega (arith, ap length whole, length-append (bits_of new r) F, length_bits new r, ap length marked_steering, p.few);
        }

    pub gathering_all : count < s → (bits_of listed n ≡ steering_bits (nodes_of ns count)) × (n ≤ 6)
    unfolding marked_from
    gathering_all l =
        let e : count + 1 - s ≡ 0 = omega arith in
        let lists : bits_of listed n ≡ steering_bits (nodes_of ns count) = sym (append-nil (bits_of listed n)) ∙ (rw e at g.whole) ∙ marked_steering in
        (lists, omega (arith, g.room))
