-- Laws of the recursive walk: what it asks and answers at the end, past a segment, past a multiplexer, and at a stop.
-- Assumes nothing.
use mathlib.Core.Path.{◌≡◌, refl, sym, ap, subst, ◌∙◌}
use Rattle.std.specs.Prelude.{Option, None as none, Some as some, Result, Ok, Err, option_map}
use mathlib.Core.List.{List, [], ◌∷◌}
use Prim.Native.Nat.{ℕ, zero, suc, ◌+◌, ◌-◌, ◌<◌, ◌≤◌, suc-le-suc}
use native.Mathlib.Nat.{le_refl, sub_self}
use native.Mathlib.Numerals.{add-one}
use native.Mathlib.Omega.{arith}
use lib.ListN.{length, get_or, take, drop, set, length-set}
use Rattle.std.proofs.lemmas.Result.{IfErr-weaker}
use Rattle.std.specs.Prelude.{slice_get}
use lib.Seq.{drop-cons, get_or-take, get_or-set_same, take-take, take-set-le}
use Rattle.model.specs.Network.{Node, segment, multiplexer, len_of}
use Rattle.model.specs.Path.{Walk, path, stop, pick, address, on_way, enter, visit, walk_from}
use Rattle.model.specs.PathSum.{sum_visit, sum_from}
use Rattle.model.specs.Text.{Trit, bind}
use Rattle.network_words.specs.Words.{word_width}
use Rattle.network_path.specs.Layout.{node_at, look_in, segment_at, scan_path, Way, SafeNode, Safe}
use Rattle.network_path.specs.Answers.{step_of, EndsWithin, Walked, Walkable, walked, added, told_from, FallsFrom, sum_told, Walks}
use Rattle.network_path.specs.declared.walk.Step.{Step}
use Rattle.network_path.specs.declared.walk.Step.TheVariants.{Segment, Input}

-- ---- a step and the model's visit

-- what follows a step from node k, a node of this LEN
abbrev pub followed : ℕ → ℕ → Option Step → (ℕ → Walk) → Walk
followed k len (some (Segment m)) go = on_way record { number = k; len = len } (go m)
followed k len (some (Input m)) go = go m
followed k len none go = stop k

enter_step : (k len : ℕ) (o : Option ℕ) (go : ℕ → Walk) → enter k o go ≡ followed k len (option_map Input o) go
enter_step k len none go = refl
enter_step k len (some m) go = refl

pub visit_step : (look : ℕ → ℕ → Trit) (k : ℕ) (nd : Node) (go : ℕ → Walk) → visit look k nd go ≡ followed k (len_of nd) (step_of look nd) go
visit_step look k (segment from len sh) go = refl
visit_step look k (multiplexer s b ins) go = enter_step k 0 (pick ins (address look s b ins)) go

-- the same of the sum
abbrev pub sum_followed : ℕ → Option Step → (ℕ → Option ℕ) → Option ℕ
sum_followed len (some (Segment m)) go = bind (go m) (λ back. some (len + back))
sum_followed len (some (Input m)) go = go m
sum_followed len none go = none

sum_enter : (len : ℕ) (o : Option ℕ) (go : ℕ → Option ℕ) → bind o go ≡ sum_followed len (option_map Input o) go
sum_enter len none go = refl
sum_enter len (some m) go = refl

pub sum_visit_law : (look : ℕ → ℕ → Trit) (nd : Node) (go : ℕ → Option ℕ) → sum_visit look nd go ≡ sum_followed (len_of nd) (step_of look nd) go
sum_visit_law look (segment from len sh) go = refl
sum_visit_law look (multiplexer s b ins) go = sum_enter 0 (pick ins (address look s b ins)) go

-- the step goes to a smaller number
abbrev pub Below : ℕ → Option Step → Type 0
Below k (some (Segment m)) = m < k
Below k (some (Input m)) = m < k
Below k none = Unit {0}

elem_below : (k : ℕ) (ins : List ℕ) → ((i : ℕ) → i < length ins → get_or ins i 0 < k) → (i : ℕ) → Below k (option_map Input (slice_get ins i))
elem_below k [] h i = tt
elem_below k (m ∷ ins) h zero = h 0 (omega arith)
elem_below k (m ∷ ins) h (suc i) = elem_below k ins (λ j l. h (suc j) (suc-le-suc l)) i

pick_below : (k : ℕ) (ins : List ℕ) → ((i : ℕ) → i < length ins → get_or ins i 0 < k) → (o : Option ℕ) → Below k (option_map Input (pick ins o))
pick_below k ins h none = tt
pick_below k ins h (some i) = elem_below k ins h i

pub step_below : (look : ℕ → ℕ → Trit) (k : ℕ) (nd : Node) → SafeNode k nd → Below k (step_of look nd)
step_below look k (segment from len sh) s = s.0
step_below look k (multiplexer t b ins) s = pick_below k ins s.0 (address look t b ins)

-- only a segment steps to its FROM
not_from : (o : Option ℕ) (m : ℕ) → option_map Input o ≡ some (Segment m) → ⊥
not_from none m e = let z : ◌≡◌ {A = ℕ} 0 1 = cc in omega arith
not_from (some n) m e = let z : ◌≡◌ {A = ℕ} 0 1 = cc in omega arith

from_length : (look : ℕ → ℕ → Trit) (k : ℕ) (nd : Node) (m : ℕ) → SafeNode k nd → step_of look nd ≡ some (Segment m) → (1 ≤ len_of nd) × (len_of nd ≤ word_width)
from_length look k (segment from len sh) m s e = (s.1, s.2)
from_length look k (multiplexer t b ins) m s e = absurd (not_from (pick ins (address look t b ins)) m e)

-- ---- lists of segments met

pub way_up : (ns : List ℕ) (m m' : ℕ) (ks : List ℕ) → m ≤ m' → Way ns m ks → Way ns m' ks
way_up ns m m' [] l w = tt
way_up ns m m' (k ∷ ks) l w = (w.0, let a : k < m = w.1 in omega arith, w.2, w.3, w.4)

-- the segment written at `met` is the first one added
added_more : (way old : List ℕ) (met at n : ℕ) → length way ≡ length old → met < length old → take (met + 1) way ≡ take (met + 1) (set old met at) → met + 1 ≤ n
    → added way met n ≡ at ∷ added way (met + 1) n
added_more way old met at n size room kept h =
    let first : get_or way met 0 ≡ at =
    sym (get_or-take (met + 1) way met 0 (omega arith)) ∙ ap (λ (l : List ℕ). get_or l met 0) kept ∙ get_or-take (met + 1) (set old met at) met 0 (omega arith)
    ∙ get_or-set_same old met at 0 room in
    let rest : drop met way ≡ at ∷ drop (met + 1) way = drop-cons way met 0 (omega arith) ∙ ap (λ (m : ℕ). m ∷ drop (suc met) way) first ∙ rw (add-one met) in
    let count : n - met ≡ suc (n - (met + 1)) = omega arith in
    ap (λ (l : List ℕ). take (n - met) l) rest ∙ ap (λ (m : ℕ). take m (at ∷ drop (met + 1) way)) count

-- ---- the walk

-- an answer with so many bits more
abbrev pub with_bits : ℕ → Walked → Walked
with_bits len (Ok size) = Ok record { segments = size.segments; bits = len + size.bits }
with_bits len (Err m) = Err m

with_bits_law : (len : ℕ) (r : Walked) → bind (sum_told r) (λ back. some (len + back)) ≡ sum_told (with_bits len r)
with_bits_law len (Ok size) = refl
with_bits_law len (Err m) = refl

pub bits_added : (len sum : ℕ) (end : Result ℕ ℕ) → with_bits len (walked sum end) ≡ walked (len + sum) end
bits_added len sum (Ok n) = refl
bits_added len sum (Err m) = refl

-- the end of the walk from a smaller number on
pub ends_more : (m at sum : ℕ) (end : Result ℕ ℕ) → m < at → EndsWithin m sum end → EndsWithin at sum end
ends_more m at sum end l w = record { bits = omega (arith, w.bits); stop = IfErr-weaker end (λ x. x ≤ m) (λ x. x ≤ at) (λ x h. omega arith) w.stop }

-- the walk from `at` goes on from m, with this lent memory: what it asks there, and what its answer makes
pub record Onward (ns bits known : List ℕ) (at : ℕ) (way : List ℕ) (met m : ℕ) (next : List ℕ) (met' : ℕ) (back : Walked → Walked) : Type 0 where
  pub below : m < at
  pub asks : Walkable ns m next met'
  pub then : (r : Walked) (way' : List ℕ) → Walks ns bits known m next met' r way' → Walks ns bits known at way met (back r) way'

module _ (ns bits known : List ℕ) (at : ℕ) (way : List ℕ) (met : ℕ) where
  pub walks_end : at ≡ 0 → Walks ns bits known at way met (Ok record { segments = met; bits = 0 }) way
  unfolding walk_from sum_from
  walks_end e = record {
    tells = λ k h. rw (e, none_added) (ended k);
    sums = λ k h. rw e (summed k);
    falls = (le_refl met, omega arith, rw none_added tt);
    size = refl;
    kept = refl;
  }
    where
      none_added : added way met met ≡ []
      none_added = ap (λ (m : ℕ). take m (drop met way)) (sub_self met)

      ended : (k : ℕ) → walk_from (node_at ns) (look_in bits known) k 0 ≡ path []
      ended zero = refl
      ended (suc k) = refl

      summed : (k : ℕ) → sum_from (node_at ns) (look_in bits known) k 0 ≡ some 0
      summed zero = refl
      summed (suc k) = refl

  module _ (asked : Walkable ns at way met) (more : at ≡ 0 → ⊥) where
    node : SafeNode at (node_at ns at)
    node = asked.safe at (omega (arith, more)) (le_refl at)

    -- the walk by the step from its first node
    walk_step : (f : ℕ) → walk_from (node_at ns) (look_in bits known) (suc f) at
        ≡ followed at (len_of (node_at ns at)) (step_of (look_in bits known) (node_at ns at)) (λ m. walk_from (node_at ns) (look_in bits known) f m)
    unfolding walk_from
    walk_step f = first at more ∙ visit_step (look_in bits known) at (node_at ns at) (λ m. walk_from (node_at ns) (look_in bits known) f m)
      where
        first : (n : ℕ) → (n ≡ 0 → ⊥) → walk_from (node_at ns) (look_in bits known) (suc f) n
            ≡ visit (look_in bits known) n (node_at ns n) (λ m. walk_from (node_at ns) (look_in bits known) f m)
        first zero q = absurd (q refl)
        first (suc n) q = refl

    sum_step : (f : ℕ) → sum_from (node_at ns) (look_in bits known) (suc f) at
        ≡ sum_followed (len_of (node_at ns at)) (step_of (look_in bits known) (node_at ns at)) (λ m. sum_from (node_at ns) (look_in bits known) f m)
    unfolding sum_from
    sum_step f = first at more ∙ sum_visit_law (look_in bits known) (node_at ns at) (λ m. sum_from (node_at ns) (look_in bits known) f m)
      where
        first : (n : ℕ) → (n ≡ 0 → ⊥) → sum_from (node_at ns) (look_in bits known) (suc f) n
            ≡ sum_visit (look_in bits known) (node_at ns n) (λ m. sum_from (node_at ns) (look_in bits known) f m)
        first zero q = absurd (q refl)
        first (suc n) q = refl

    pub walks_stop : step_of (look_in bits known) (node_at ns at) ≡ none → Walks ns bits known at way met (Err at) way
    walks_stop e = record { tells = tells; sums = sums; falls = tt; size = refl; kept = refl }
      where
        sums : (k : ℕ) → at ≤ k → sum_from (node_at ns) (look_in bits known) k at ≡ none
        sums zero h = absurd (more (omega arith))
        sums (suc f) h = sum_step f ∙ rw e

        tells : (k : ℕ) → at ≤ k → walk_from (node_at ns) (look_in bits known) k at ≡ stop at
        tells zero h = absurd (more (omega arith))
        tells (suc f) h = walk_step f ∙ rw e

    safe_to : (m : ℕ) → m < at → Safe ns m
    safe_to m l k a b = asked.safe k a (omega arith)

    step_under : Below at (step_of (look_in bits known) (node_at ns at))
    step_under = step_below (look_in bits known) at (node_at ns at) node

    -- on to a multiplexer's input
    pub onward_input : (m : ℕ) → step_of (look_in bits known) (node_at ns at) ≡ some (Input m) → Onward ns bits known at way met m way met (λ r. r)
    onward_input m e = record {
      below = under;
      asks = record { safe = safe_to m under; size = asked.size; room = omega (arith, under, asked.room) };
      then = λ r way' w. record { tells = tells r way' w; sums = sums r way' w; falls = falls way' r w.falls; size = w.size; kept = w.kept };
    }
      where
        under : m < at
        under = subst (Below at) e step_under

        tells : (r : Walked) (way' : List ℕ) → Walks ns bits known m way met r way' → (k : ℕ) → at ≤ k → walk_from (node_at ns) (look_in bits known) k at ≡ told_from ns way' met r
        tells r way' w zero h = absurd (more (omega arith))
        tells r way' w (suc f) h = walk_step f ∙ rw e (w.tells f (omega (arith, under)))

        sums : (r : Walked) (way' : List ℕ) → Walks ns bits known m way met r way' → (k : ℕ) → at ≤ k → sum_from (node_at ns) (look_in bits known) k at ≡ sum_told r
        sums r way' w zero h = absurd (more (omega arith))
        sums r way' w (suc f) h = sum_step f ∙ rw e (w.sums f (omega (arith, under)))

        falls : (way' : List ℕ) (r : Walked) → FallsFrom ns way' m met r → FallsFrom ns way' at met r
        falls way' (Ok size) g = (g.0, omega (arith, g.1, under), way_up ns (suc m) (suc at) (added way' met size.segments) (omega (arith, under)) g.2)
        falls way' (Err x) g = tt

    -- on to a segment's FROM, with the segment written down; its LEN is added to what comes back
    pub onward_from : (m : ℕ) → step_of (look_in bits known) (node_at ns at) ≡ some (Segment m)
        → Onward ns bits known at way met m (set way met at) (met + 1) (with_bits (len_of (node_at ns at)))
    onward_from m e = record {
      below = under;
      asks = record { safe = safe_to m under; size = length-set way met at ∙ asked.size; room = omega (arith, under, asked.room) };
      then = λ r way' w. record {
        tells = tells r way' w;
        sums = sums r way' w;
        falls = falls r way' w w.falls;
        size = w.size ∙ length-set way met at;
        kept = sym (take-take met (met + 1) way' (omega arith)) ∙ ap (take met) w.kept ∙ take-take met (met + 1) (set way met at) (omega arith)
            ∙ take-set-le met way met at (le_refl met);
      };
    }
      where
        under : m < at
        under = subst (Below at) e step_under

        first : (r : Walked) (way' : List ℕ) → Walks ns bits known m (set way met at) (met + 1) r way' → (n : ℕ) → met + 1 ≤ n → added way' met n ≡ at ∷ added way' (met + 1) n
        first r way' w n h = added_more way' way met at n (w.size ∙ length-set way met at) (omega (arith, more, asked.size, asked.room)) w.kept h

        onto : (r : Walked) (way' : List ℕ) → Walks ns bits known m (set way met at) (met + 1) r way'
            → on_way (segment_at ns at) (told_from ns way' (met + 1) r) ≡ told_from ns way' met (with_bits (len_of (node_at ns at)) r)
        onto (Ok size) way' w = ap (λ (l : List ℕ). path (scan_path ns l)) (sym (first (Ok size) way' w size.segments w.falls.0))
        onto (Err x) way' w = refl

        tells : (r : Walked) (way' : List ℕ) → Walks ns bits known m (set way met at) (met + 1) r way'
            → (k : ℕ) → at ≤ k → walk_from (node_at ns) (look_in bits known) k at ≡ told_from ns way' met (with_bits (len_of (node_at ns at)) r)
        tells r way' w zero h = absurd (more (omega arith))
        tells r way' w (suc f) h = walk_step f ∙ rw e (ap (on_way (segment_at ns at)) (w.tells f (omega (arith, under))) ∙ onto r way' w)

        sums : (r : Walked) (way' : List ℕ) → Walks ns bits known m (set way met at) (met + 1) r way'
            → (k : ℕ) → at ≤ k → sum_from (node_at ns) (look_in bits known) k at ≡ sum_told (with_bits (len_of (node_at ns at)) r)
        sums r way' w zero h = absurd (more (omega arith))
        sums r way' w (suc f) h =
            sum_step f ∙ rw e (ap (λ (o : Option ℕ). bind o (λ back. some (len_of (node_at ns at) + back))) (w.sums f (omega (arith, under))) ∙ with_bits_law (len_of (node_at ns at)) r)

        falls : (r : Walked) (way' : List ℕ) → Walks ns bits known m (set way met at) (met + 1) r way' → FallsFrom ns way' m (met + 1) r
            → FallsFrom ns way' at met (with_bits (len_of (node_at ns at)) r)
        falls (Ok size) way' w g =
            let l = from_length (look_in bits known) at (node_at ns at) m node e in
            let rest : Way ns at (added way' (met + 1) size.segments) = way_up ns (suc m) at (added way' (met + 1) size.segments) under g.2 in
            (omega (arith, g.0), omega (arith, g.1, under), rw (first (Ok size) way' w size.segments g.0) (omega (arith, more), le_refl (suc at), l.0, l.1, rest))
        falls (Err x) way' w g = tt
