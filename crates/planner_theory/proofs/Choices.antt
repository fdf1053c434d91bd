-- The model's fillings by number, place by place.
-- Assumes nothing.
use mathlib.Core.Path.{◌≡◌, refl, sym, ap, ◌∙◌, subst}
use mathlib.Core.Bool.{Bool, true, false, cond}
use mathlib.Core.List.{List, [], ◌∷◌, ◌++◌, map}
use Prim.Native.Nat.{ℕ, zero, suc, ◌≤◌, ◌<◌, ◌+◌, ◌*◌, ◌-◌, ◌/◌, ◌%◌, ◌^◌}
use native.Mathlib.Nat.{mul-add, add-mul, two-pow-succ, div-eq_of_lt, mul-add-div_right}
use native.Mathlib.Omega.{arith}
use native.Mathlib.Decide.{dec_lt}
use lib.Dec.{eqb, ltb}
use lib.ListN.{length, get_or, length-append, length-map, get_or-append}
use lib.Seq.{get_or-append-add}
use borrow.Author.Tests.{lt-ltb, le-ltb, eq-eqb, ne_eqb}
use Rattle.model.specs.Network.{Node, Network, steers, tabulate}
use Rattle.model.specs.Path.{ScanPath, bit_value}
use Rattle.model.specs.Plan.{wanted}
use Rattle.model.specs.Planner.{choices, seg_fillings, fillings}
use Rattle.planner_theory.specs.Settings.{choice_of}
use Rattle.planner_theory.specs.Choices.{places_of, bit_at, left_at, choice_bits, left_after}

-- how many of the places steer
unfoldable pub steering_count : List Node → List (ℕ × ℕ) → ℕ
steering_count ns [] = 0
steering_count ns (q ∷ qs) = bit_value (steers ns q.0 q.1) + steering_count ns qs

-- the fillings of a list of places
unfoldable fillings_at : Network → List (ℕ × ℕ) → List (List Bool)
fillings_at net [] = [] ∷ []
fillings_at net (q ∷ qs) = choices (steers net.nodes q.0 q.1) (wanted net.targets q.0 q.1) (fillings_at net qs)

-- the bits of choice c, where a digit that was taken is taken off c
unfoldable pub bits_at : Network → List (ℕ × ℕ) → ℕ → List Bool
bits_at net [] c = []
bits_at net (q ∷ qs) c =
    let low = false ∷ bits_at net qs c in
    let high = true ∷ bits_at net qs (c - 2 ^ steering_count net.nodes qs) in
    let fixed = wanted net.targets q.0 q.1 ∷ bits_at net qs c in
    cond (steers net.nodes q.0 q.1) (cond (ltb c (2 ^ steering_count net.nodes qs)) low high) fixed

module _ (net : Network) where
  seg_places : (s b n : ℕ) (qs : List (ℕ × ℕ)) → seg_fillings net s b n (fillings_at net qs) ≡ fillings_at net (tabulate (λ i. (s, i)) b n ++ qs)
  unfolding seg_fillings fillings_at
  seg_places s b zero qs = refl
  seg_places s b (suc n) qs = ap (choices (steers net.nodes s b) (wanted net.targets s b)) (seg_places s (suc b) n qs)

  path_places : (p : ScanPath) → fillings net p ≡ fillings_at net (places_of p)
  unfolding fillings fillings_at places_of
  path_places [] = refl
  path_places (h ∷ p) = ap (seg_fillings net h.number 0 h.len) (path_places p) ∙ seg_places h.number 0 h.len (places_of p)

  -- how many
  length_choices : (t w : Bool) (l : List (List Bool)) (n : ℕ) → length l ≡ 2 ^ n → length (choices t w l) ≡ 2 ^ (bit_value t + n)
  length_choices false w l n e = length-map l (λ r. w ∷ r) ∙ e ∙ ap (λ (k : ℕ). 2 ^ k) (omega arith)
  length_choices true w l n e =
      length-append (map (λ r. false ∷ r) l) (map (λ r. true ∷ r) l)
      ∙ (let a : length (map (λ r. false ∷ r) l) ≡ length l = length-map l (λ r. false ∷ r) in
      let b : length (map (λ r. true ∷ r) l) ≡ length l = length-map l (λ r. true ∷ r) in
      let z : 1 + n ≡ suc n = omega arith in
      rw (a, b, e, z) (sym (two-pow-succ n)))

  length_at : (qs : List (ℕ × ℕ)) → length (fillings_at net qs) ≡ 2 ^ steering_count net.nodes qs
  unfolding fillings_at steering_count
  length_at [] = refl
  length_at (q ∷ qs) = length_choices (steers net.nodes q.0 q.1) (wanted net.targets q.0 q.1) (fillings_at net qs) (steering_count net.nodes qs) (length_at qs)

  -- the bits of one
  get_d_cons : (v : Bool) (l : List (List Bool)) (c : ℕ) → c < length l → get_or (map (λ r. v ∷ r) l) c [] ≡ v ∷ get_or l c []
  get_d_cons v [] c lt = absurd (omega arith)
  get_d_cons v (r ∷ l) zero lt = refl
  get_d_cons v (r ∷ l) (suc c) lt = get_d_cons v l c (let z : suc c < suc (length l) = lt in omega arith)

  get_d_choices : (w : Bool) (l : List (List Bool)) (c : ℕ) → c < length l + length l
      → get_or (choices true w l) c [] ≡ cond (ltb c (length l)) (false ∷ get_or l c []) (true ∷ get_or l (c - length l) [])
  get_d_choices w l c lt = by (dec_lt c (length l))
    where
      low : length (map (λ r. false ∷ r) l) ≡ length l
      low = length-map l (λ r. false ∷ r)

      by : Dec (c < length l) → get_or (choices true w l) c [] ≡ cond (ltb c (length l)) (false ∷ get_or l c []) (true ∷ get_or l (c - length l) [])
      by (yes h) = rw (lt-ltb c (length l) h) (get_or-append (map (λ r. false ∷ r) l) (map (λ r. true ∷ r) l) [] c (omega (arith, low)) ∙ get_d_cons false l c h)
      by (no h) =
          let z : c ≡ length (map (λ r. false ∷ r) l) + (c - length l) = omega (arith, low) in
          rw (le-ltb c (length l) (omega arith))
          (ap (λ (k : ℕ). get_or (choices true w l) k []) z ∙ get_or-append-add (map (λ r. false ∷ r) l) (map (λ r. true ∷ r) l) (c - length l) [] ∙ get_d_cons true l (c - length l) (omega arith))

  bits_at_law : (qs : List (ℕ × ℕ)) (c : ℕ) → c < 2 ^ steering_count net.nodes qs → get_or (fillings_at net qs) c [] ≡ bits_at net qs c
  unfolding fillings_at steering_count bits_at
  bits_at_law [] zero lt = refl
  bits_at_law [] (suc c) lt = absurd (omega arith)
  bits_at_law (q ∷ qs) c lt = by (steers net.nodes q.0 q.1) lt (λ k h. bits_at_law qs k h)
    where
      n : ℕ
      n = steering_count net.nodes qs

      w : Bool
      w = wanted net.targets q.0 q.1

      l : List (List Bool)
      l = fillings_at net qs

      by : (t : Bool) → c < 2 ^ (bit_value t + n) → ((k : ℕ) → k < 2 ^ n → get_or l k [] ≡ bits_at net qs k)
          → get_or (choices t w l) c [] ≡ cond t (cond (ltb c (2 ^ n)) (false ∷ bits_at net qs c) (true ∷ bits_at net qs (c - 2 ^ n))) (w ∷ bits_at net qs c)
      by false h f =
          let less : c < 2 ^ n = subst (λ (k : ℕ). c < 2 ^ k) (let z : 0 + n ≡ n = omega arith in z) h in
          get_d_cons w l c (omega (arith, length_at qs)) ∙ ap (λ (r : List Bool). w ∷ r) (f c less)
      by true h f =
          let less : c < 2 ^ n + 2 ^ n = subst (λ (k : ℕ). c < k) (ap (λ (k : ℕ). 2 ^ k) (let z : 1 + n ≡ suc n = omega arith in z) ∙ two-pow-succ n) h in
          get_d_choices w l c (omega (arith, length_at qs)) ∙ rw (length_at qs) (half less (dec_lt c (2 ^ n)))
        where
          half : c < 2 ^ n + 2 ^ n → Dec (c < 2 ^ n)
              → cond (ltb c (2 ^ n)) (false ∷ get_or l c []) (true ∷ get_or l (c - 2 ^ n) []) ≡ cond (ltb c (2 ^ n)) (false ∷ bits_at net qs c) (true ∷ bits_at net qs (c - 2 ^ n))
          half less (yes k) = rw (lt-ltb c (2 ^ n) k) (ap (λ (r : List Bool). false ∷ r) (f c k))
          half less (no k) = rw (le-ltb c (2 ^ n) (omega arith)) (ap (λ (r : List Bool). true ∷ r) (f (c - 2 ^ n) (omega arith)))

  -- ---- the same bits with c kept

  block_div : (a w r : ℕ) → r < w → (a * w + r) / w ≡ a
  block_div a w r lt = mul-add-div_right (let z : 0 < w = omega arith in z) a r ∙ rw (div-eq_of_lt lt) (omega arith)

  double : (a w : ℕ) → a * (w + w) ≡ (a + a) * w
  double a w = mul-add a w w ∙ sym (add-mul a a w)

  double_more : (a w r : ℕ) → w ≤ r → a * (w + w) + r ≡ (a + a + 1) * w + (r - w)
  double_more a w r le = omega (arith, double a w, add-mul (a + a) 1 w)

  bits_kept : (qs : List (ℕ × ℕ)) (a r : ℕ) → r < 2 ^ steering_count net.nodes qs
      → choice_bits net qs (2 ^ steering_count net.nodes qs) (a * 2 ^ steering_count net.nodes qs + r) ≡ bits_at net qs r
  unfolding choice_bits bits_at steering_count
  bits_kept [] a r lt = refl
  bits_kept (q ∷ qs) a r lt = by (steers net.nodes q.0 q.1) lt (λ b k h. bits_kept qs b k h)
    where
      n : ℕ
      n = steering_count net.nodes qs

      w : Bool
      w = wanted net.targets q.0 q.1

      by : (t : Bool) → r < 2 ^ (bit_value t + n) → ((b k : ℕ) → k < 2 ^ n → choice_bits net qs (2 ^ n) (b * 2 ^ n + k) ≡ bits_at net qs k)
          → cond t (eqb ((a * 2 ^ (bit_value t + n) + r) / (2 ^ (bit_value t + n) / 2) % 2) 1) w ∷ choice_bits net qs (cond t (2 ^ (bit_value t + n) / 2) (2 ^ (bit_value t + n))) (a * 2 ^ (bit_value t + n) + r)
          ≡ cond t (cond (ltb r (2 ^ n)) (false ∷ bits_at net qs r) (true ∷ bits_at net qs (r - 2 ^ n))) (w ∷ bits_at net qs r)
      by false h ih = let z : 0 + n ≡ n = omega arith in rw z (ap (λ (l : List Bool). w ∷ l) (ih a r (rw z at h)))
      by true h ih =
          let z : 2 ^ (1 + n) ≡ 2 ^ n + 2 ^ n = ap (λ (k : ℕ). 2 ^ k) (let y : 1 + n ≡ suc n = omega arith in y) ∙ two-pow-succ n in
          let half : (2 ^ n + 2 ^ n) / 2 ≡ 2 ^ n = omega arith in
          let less : r < 2 ^ n + 2 ^ n = omega arith in
          rw (z, half) (turn less (dec_lt r (2 ^ n)))
        where
          turn : r < 2 ^ n + 2 ^ n → Dec (r < 2 ^ n) → eqb ((a * (2 ^ n + 2 ^ n) + r) / 2 ^ n % 2) 1 ∷ choice_bits net qs (2 ^ n) (a * (2 ^ n + 2 ^ n) + r)
              ≡ cond (ltb r (2 ^ n)) (false ∷ bits_at net qs r) (true ∷ bits_at net qs (r - 2 ^ n))
          turn less (yes l) =
              let e : a * (2 ^ n + 2 ^ n) + r ≡ (a + a) * 2 ^ n + r = ap (λ (k : ℕ). k + r) (double a (2 ^ n)) in
              rw (e, lt-ltb r (2 ^ n) l, block_div (a + a) (2 ^ n) r l, ih (a + a) r l)
              (ap (λ (b : Bool). b ∷ bits_at net qs r) (ne_eqb ((a + a) % 2) 1 (λ y. omega arith)))
          turn less (no l) =
              let e : a * (2 ^ n + 2 ^ n) + r ≡ (a + a + 1) * 2 ^ n + (r - 2 ^ n) = double_more a (2 ^ n) r (omega arith) in
              let k : r - 2 ^ n < 2 ^ n = omega arith in
              rw (e, le-ltb r (2 ^ n) (omega arith), block_div (a + a + 1) (2 ^ n) (r - 2 ^ n) k, ih (a + a + 1) (r - 2 ^ n) k)
              (ap (λ (b : Bool). b ∷ bits_at net qs (r - 2 ^ n)) (eq-eqb ((a + a + 1) % 2) 1 (omega arith)))

  pub bits_from_law : (qs : List (ℕ × ℕ)) (c : ℕ) → c < 2 ^ steering_count net.nodes qs → bits_at net qs c ≡ choice_bits net qs (2 ^ steering_count net.nodes qs) c
  bits_from_law qs c lt = sym (ap (choice_bits net qs (2 ^ steering_count net.nodes qs)) (let z : c ≡ 0 * 2 ^ steering_count net.nodes qs + c = omega arith in z) ∙ bits_kept qs 0 c lt)

  -- the bits of some places, then those of the others
  pub bits_append : (ps qs : List (ℕ × ℕ)) (h c : ℕ) → choice_bits net (ps ++ qs) h c ≡ choice_bits net ps h c ++ choice_bits net qs (left_after net ps h) c
  unfolding choice_bits left_after
  bits_append [] qs h c = refl
  bits_append (q ∷ ps) qs h c = ap (λ (l : List Bool). bit_at net q h c ∷ l) (bits_append ps qs (left_at net q h) c)

  pub left_append : (ps qs : List (ℕ × ℕ)) (h : ℕ) → left_after net (ps ++ qs) h ≡ left_after net qs (left_after net ps h)
  unfolding left_after
  left_append [] qs h = refl
  left_append (q ∷ ps) qs h = left_append ps qs (left_at net q h)

  -- one place more
  pub bits_more : (ps : List (ℕ × ℕ)) (q : ℕ × ℕ) (h c : ℕ) → choice_bits net (ps ++ q ∷ []) h c ≡ choice_bits net ps h c ++ bit_at net q (left_after net ps h) c ∷ []
  unfolding choice_bits
  bits_more ps q h c = bits_append ps (q ∷ []) h c

  pub left_more : (ps : List (ℕ × ℕ)) (q : ℕ × ℕ) (h : ℕ) → left_after net (ps ++ q ∷ []) h ≡ left_at net q (left_after net ps h)
  unfolding left_after
  left_more ps q h = left_append ps (q ∷ []) h

  -- ---- the choices on a path

  pub count_choices : (p : ScanPath) → length (fillings net p) ≡ 2 ^ steering_count net.nodes (places_of p)
  count_choices p = ap length (path_places p) ∙ length_at (places_of p)

  pub choice_bits_law : (p : ScanPath) (c : ℕ) → c < 2 ^ steering_count net.nodes (places_of p) → choice_of net p c ≡ bits_at net (places_of p) c
  choice_bits_law p c lt = ap (λ (l : List (List Bool)). get_or l c []) (path_places p) ∙ bits_at_law (places_of p) c lt
