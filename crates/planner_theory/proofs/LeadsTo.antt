-- The number of the setting that a choice leads to, from the steering bits on the path.
-- Assumes nothing.
use mathlib.Core.Path.{◌≡◌, refl, sym, ap, ◌∙◌}
use mathlib.Core.Bool.{Bool, true, false, cond, ◌&&◌, ◌||◌}
use Rattle.std.specs.Prelude.{None as none, Some as some}
use mathlib.Core.Logic.{◌⊎◌, inl, inr}
use mathlib.Core.List.Memᴰ
use mathlib.Core.List.{List, [], ◌∷◌, ◌++◌, map, Memᴰ}
use Prim.Native.Nat.{ℕ, zero, suc, ◌≤◌, ◌<◌, ◌+◌, ◌-◌, ◌^◌}
use native.Mathlib.Nat.{pow-suc}
use native.Mathlib.Omega.{arith}
use native.Mathlib.Decide.{dec_lt}
use lib.Dec.{eqb, ltb}
use lib.ListN.{length, get_or, take, drop, length-drop}
use borrow.Author.Tests.{eq-eqb}
use Rattle.model.specs.Network.{Node, Network, at, no_node, len_of, steers, tabulate}
use Rattle.model.specs.Path.{ScanPath, path_length, on, share}
use Rattle.model.specs.Plan.{wanted}
use Rattle.model.proofs.Lists.{eqb_is, true_false, or_left, or_right, drop_map}
use Rattle.model.proofs.Walking.{Falls}
use Rattle.planner_theory.proofs.Landing.{land_num}
use Rattle.planner_theory.specs.Settings.{Distinct, distinct_nil, distinct_cons, Look, setting_of, loaded}
use Rattle.planner_theory.specs.Choices.{places_of}
use Rattle.planner_theory.proofs.Steering.{distinct_append}
use Rattle.planner_theory.proofs.SettingNumbers.{same_place, place_same, place_other, setting_same}
use Rattle.planner_theory.proofs.Choices.{steering_count, bits_at}
use Rattle.planner_theory.proofs.Order.{index_of, cons_if, order_at, length_order_at}

-- ---- an operation, place by place

unfoldable pub load_at : List (ℕ × ℕ) → List Bool → Look → Look
load_at [] bs look s b = look s b
load_at (q ∷ qs) [] look s b = look s b
load_at (q ∷ qs) (v ∷ bs) look s b = let later = load_at qs bs look s b in cond (eqb q.0 s && eqb q.1 b) (some v) later

module _ (look : Look) (qs : List (ℕ × ℕ)) where
  load_hit : (t i n : ℕ) (bs : List Bool) (b : ℕ) → n ≤ length bs → i ≤ b → b < i + n → load_at (tabulate (λ j. (t, j)) i n ++ qs) bs look t b ≡ get_or (take n (map some bs)) (b - i) none
  unfolding load_at
  load_hit t i zero bs b l a h = absurd (omega arith)
  load_hit t i (suc n) [] b l a h = absurd (let z : suc n ≤ 0 = l in omega arith)
  load_hit t i (suc n) (v ∷ bs) b l a h =
      elim (dec_lt i b) [
        | yes k ↦
            let z : b - i ≡ suc (b - suc i) = omega arith in
            rw (place_other (t, i) t b (λ e. let y : i ≡ b = ap (λ (q : ℕ × ℕ). q.1) e in omega arith), z)
            (load_hit t (suc i) n bs b (let y : suc n ≤ suc (length bs) = l in omega arith) k (omega arith))
        | no k ↦ let y : b ≡ i = omega arith in let z : b - i ≡ 0 = omega arith in rw (z, y, place_same (t, i))
      ]

  load_miss : (t s i n : ℕ) (bs : List Bool) (b : ℕ) → n ≤ length bs → (t ≡ s → ⊥) → load_at (tabulate (λ j. (t, j)) i n ++ qs) bs look s b ≡ load_at qs (drop n bs) look s b
  unfolding load_at
  load_miss t s i zero bs b l ne = refl
  load_miss t s i (suc n) [] b l ne = absurd (let z : suc n ≤ 0 = l in omega arith)
  load_miss t s i (suc n) (v ∷ bs) b l ne =
      rw (place_other (t, i) s b (λ e. ne (ap (λ (q : ℕ × ℕ). q.0) e))) (load_miss t s (suc i) n bs b (let y : suc n ≤ suc (length bs) = l in omega arith) ne)

pub loaded_places : (ns : List Node) (m : ℕ) (p : ScanPath) (bs : List Bool) (look : Look) (s b : ℕ) → Falls ns m p → length bs ≡ path_length p → b < len_of (at ns s no_node)
    → loaded p bs look s b ≡ load_at (places_of p) bs look s b
unfolding load_at places_of
loaded_places ns m [] bs look s b f e lt = refl
loaded_places ns m (h ∷ p) bs look s b f e lt =
    by (eqb h.number s) refl (loaded_places ns h.number p (drop h.len bs) look s b f.3 (length-drop h.len bs ∙ omega (arith, long)) lt)
  where
    long : length bs ≡ h.len + path_length p
    long = e

    by : (t : Bool) → eqb h.number s ≡ t → cond (on p s) (get_or (share p (map some (drop h.len bs)) s) b none) (look s b) ≡ load_at (places_of p) (drop h.len bs) look s b
        → cond (t || on p s) (get_or (cond t (take h.len (map some bs)) (share p (drop h.len (map some bs)) s)) b none) (look s b)
        ≡ load_at (tabulate (λ i. (h.number, i)) 0 h.len ++ places_of p) bs look s b
    by true q ih =
        let z : h.number ≡ s = eqb_is h.number s q in
        let inside : b < 0 + h.len = omega (arith, f.2, ap (λ (k : ℕ). len_of (at ns k no_node)) z) in
        let hit : load_at (tabulate (λ i. (h.number, i)) 0 h.len ++ places_of p) bs look h.number b ≡ get_or (take h.len (map some bs)) (b - 0) none
        = load_hit look (places_of p) h.number 0 h.len bs b (omega (arith, long)) (omega arith) inside in
        let y : b - 0 ≡ b = omega arith in
        sym (ap (λ (k : ℕ). load_at (tabulate (λ i. (h.number, i)) 0 h.len ++ places_of p) bs look k b) (sym z) ∙ hit ∙ rw y)
    by false q ih =
        rw (drop_map some h.len bs)
        (ih ∙ sym (load_miss look (places_of p) h.number s 0 h.len bs b (omega (arith, long)) (λ z. true_false (sym (eq-eqb h.number s z) ∙ q))))

-- ---- the places of a path are distinct

segment_places_law : (t i n : ℕ) (q : ℕ × ℕ) → Memᴰ q (tabulate (λ j. (t, j)) i n) → (q.0 ≡ t) × (i ≤ q.1)
segment_places_law t i zero q m = absurd (Memᴰ.not-nil m)
segment_places_law t i (suc n) q (Memᴰ.head e) = (ap (λ (r : ℕ × ℕ). r.0) e, let z : q.1 ≡ i = ap (λ (r : ℕ × ℕ). r.1) e in omega arith)
segment_places_law t i (suc n) q (Memᴰ.tail m) = let r = segment_places_law t (suc i) n q m in (r.0, omega (arith, r.1))

segment_apart : (t i n : ℕ) → Distinct {A = ℕ × ℕ} (tabulate (λ j. (t, j)) i n)
segment_apart t i zero = distinct_nil
segment_apart t i (suc n) = distinct_cons fresh (segment_apart t (suc i) n)
  where
    fresh : Memᴰ {A = ℕ × ℕ} (t, i) (tabulate (λ j. (t, j)) (suc i) n) → ⊥
    fresh m = omega (arith, (segment_places_law t (suc i) n (t, i) m).1)

pub below_places : (ns : List Node) (m : ℕ) (p : ScanPath) (q : ℕ × ℕ) → Falls ns m p → Memᴰ q (places_of p) → (q.0 < m) × (on p q.0 ≡ true)
unfolding places_of
below_places ns m [] q f n = absurd (Memᴰ.not-nil n)
below_places ns m (h ∷ p) q f n = by (Memᴰ.append_cases (tabulate (λ b. (h.number, b)) 0 h.len) n) (λ k. below_places ns h.number p q f.3 k)
  where
    l : h.number < m
    l = f.1

    by : Memᴰ q (tabulate (λ b. (h.number, b)) 0 h.len) ⊎ Memᴰ q (places_of p) → (Memᴰ q (places_of p) → (q.0 < h.number) × (on p q.0 ≡ true))
        → (q.0 < m) × ((eqb h.number q.0 || on p q.0) ≡ true)
    by (inl k) g = let r = segment_places_law h.number 0 h.len q k in (omega (arith, r.0), or_left (eqb h.number q.0) (on p q.0) (eq-eqb h.number q.0 (sym r.0)))
    by (inr k) g = let r = g k in (omega (arith, r.0), or_right (eqb h.number q.0) (on p q.0) r.1)

pub places_apart : (ns : List Node) (m : ℕ) (p : ScanPath) → Falls ns m p → Distinct (places_of p)
unfolding places_of
places_apart ns m [] f = distinct_nil
places_apart ns m (h ∷ p) f =
    distinct_append (segment_apart h.number 0 h.len) (places_apart ns h.number p f.3)
    (λ q a b. omega (arith, (segment_places_law h.number 0 h.len q a).0, (below_places ns h.number p q f.3 b).0))

-- ---- one steering bit set

unfoldable put : ℕ × ℕ → Bool → Look → Look
put q v look s b = cond (eqb q.0 s && eqb q.1 b) (some v) (look s b)

put_on : (q r : ℕ × ℕ) (v : Bool) (look : Look) → q ≡ r → put q v look r.0 r.1 ≡ some v
unfolding put
put_on q r v look e = rw (ap (λ (x : ℕ × ℕ). eqb x.0 r.0 && eqb x.1 r.1) e ∙ place_same r)

put_off : (q : ℕ × ℕ) (v : Bool) (look : Look) (s b : ℕ) → (q ≡ (s, b) → ⊥) → put q v look s b ≡ look s b
unfolding put
put_off q v look s b ne = rw (place_other q s b ne)

setting_put : (sb : List (ℕ × ℕ)) → Distinct sb → (q : ℕ × ℕ) (look : Look) → Memᴰ q sb → look q.0 q.1 ≡ some false → setting_of sb (put q true look) ≡ setting_of sb look + 3 ^ index_of q sb
unfolding setting_of index_of
setting_put _ distinct_nil q look m z = elim m [ ]
setting_put _ (distinct_cons {a = r} {l = sb} fresh d) q look (Memᴰ.head e) z =
    let rest : setting_of sb (put q true look) ≡ setting_of sb look = setting_same sb (put q true look) look (λ k m. put_off q true look k.0 k.1 (λ y. fresh (Memᴰ.cast (sym e ∙ y) m))) in
    let here : put q true look r.0 r.1 ≡ some true = put_on q r true look e in
    let old : look r.0 r.1 ≡ some false = ap (λ (x : ℕ × ℕ). look x.0 x.1) (sym e) ∙ z in
    let index : (eqb r.0 q.0 && eqb r.1 q.1) ≡ true = ap (λ (x : ℕ × ℕ). eqb r.0 x.0 && eqb r.1 x.1) e ∙ place_same r in
    rw (rest, here, old, index) (omega arith)
setting_put _ (distinct_cons {a = r} {l = sb} fresh d) q look (Memᴰ.tail m) z =
    let ne : r ≡ q → ⊥ = λ e. fresh (Memᴰ.cast e m) in
    let here : put q true look r.0 r.1 ≡ look r.0 r.1 = put_off q true look r.0 r.1 (λ e. ne (sym e)) in
    let ih = setting_put sb d q look m z in
    rw (here, ih, place_other r q.0 q.1 ne, pow-suc 3 (index_of q sb)) (omega arith)

-- ---- the landing

module _ (net : Network) (sb : List (ℕ × ℕ)) (apart : Distinct sb)
    (listed : (s b : ℕ) → steers net.nodes s b ≡ true → Memᴰ (s, b) sb) (only : (q : ℕ × ℕ) → Memᴰ q sb → steers net.nodes q.0 q.1 ≡ true) where
  abbrev Zeros : List (ℕ × ℕ) → Look → Type 0
  Zeros qs look = (q : ℕ × ℕ) → Memᴰ q qs → steers net.nodes q.0 q.1 ≡ true → look q.0 q.1 ≡ some false

  -- a place that does not steer changes no digit
  skip : (q : ℕ × ℕ) (v : Bool) (qs : List (ℕ × ℕ)) (bs : List Bool) (look : Look) → steers net.nodes q.0 q.1 ≡ false
      → setting_of sb (load_at (q ∷ qs) (v ∷ bs) look) ≡ setting_of sb (load_at qs bs look)
  unfolding load_at
  skip q v qs bs look e =
      setting_same sb (load_at (q ∷ qs) (v ∷ bs) look) (load_at qs bs look)
      (λ r m. rw (place_other q r.0 r.1 (λ z. true_false (sym (only r m) ∙ ap (λ (x : ℕ × ℕ). steers net.nodes x.0 x.1) (sym z) ∙ e))))

  -- a place that takes v, with v put there first
  load_off : (qs : List (ℕ × ℕ)) (bs : List Bool) (look : Look) (s b : ℕ) → (Memᴰ (s, b) qs → ⊥) → load_at qs bs look s b ≡ look s b
  unfolding load_at
  load_off [] bs look s b ne = refl
  load_off (q ∷ qs) [] look s b ne = refl
  load_off (q ∷ qs) (v ∷ bs) look s b ne = rw (place_other q s b (λ e. ne (Memᴰ.head (sym e)))) (load_off qs bs look s b (λ m. ne (Memᴰ.tail m)))

  load_same : (qs : List (ℕ × ℕ)) (bs : List Bool) (look look' : Look) (s b : ℕ) → look s b ≡ look' s b → load_at qs bs look s b ≡ load_at qs bs look' s b
  unfolding load_at
  load_same [] bs look look' s b e = e
  load_same (q ∷ qs) [] look look' s b e = e
  load_same (q ∷ qs) (v ∷ bs) look look' s b e = rw (load_same qs bs look look' s b e)

  take_in : (q : ℕ × ℕ) (v : Bool) (qs : List (ℕ × ℕ)) (bs : List Bool) (look : Look) → (Memᴰ q qs → ⊥) → setting_of sb (load_at (q ∷ qs) (v ∷ bs) look) ≡ setting_of sb (load_at qs bs (put q v look))
  unfolding load_at put
  take_in q v qs bs look fresh = setting_same sb (load_at (q ∷ qs) (v ∷ bs) look) (load_at qs bs (put q v look)) (λ r m. one r.0 r.1 (eqb q.0 r.0 && eqb q.1 r.1) refl)
    where
      one : (s b : ℕ) (t : Bool) → (eqb q.0 s && eqb q.1 b) ≡ t → cond t (some v) (load_at qs bs look s b) ≡ load_at qs bs (put q v look) s b
      one s b true e = let z : q ≡ (s, b) = same_place q s b e in sym (load_off qs bs (put q v look) s b (λ m. fresh (Memᴰ.cast z m)) ∙ rw e)
      one s b false e = load_same qs bs look (put q v look) s b (rw e)

  put_zero : (q : ℕ × ℕ) (look : Look) → look q.0 q.1 ≡ some false → setting_of sb (put q false look) ≡ setting_of sb look
  unfolding put
  put_zero q look z = setting_same sb (put q false look) look (λ r m. one r.0 r.1 (eqb q.0 r.0 && eqb q.1 r.1) refl)
    where
      one : (s b : ℕ) (t : Bool) → (eqb q.0 s && eqb q.1 b) ≡ t → cond t (some false) (look s b) ≡ look s b
      one s b true e = let y : q ≡ (s, b) = same_place q s b e in sym (ap (λ (x : ℕ × ℕ). look x.0 x.1) (sym y) ∙ z)
      one s b false e = refl

  -- from values in which the steering places are 0
  pub places_landing : (qs : List (ℕ × ℕ)) → Distinct qs → (c : ℕ) (look : Look) → Zeros qs look
      → setting_of sb (load_at qs (bits_at net qs c) look) ≡ land_num (order_at net.nodes sb qs) c (setting_of sb look)
  unfolding bits_at order_at land_num
  places_landing _ distinct_nil c look zeros = setting_same sb (load_at [] [] look) look (λ r m. load_off [] [] look r.0 r.1 Memᴰ.not-nil)
  places_landing _ (distinct_cons {a = q} {l = qs} fresh rest) c look zeros = by (steers net.nodes q.0 q.1) refl (λ k l z. places_landing qs rest k l z)
    where
      n : ℕ
      n = steering_count net.nodes qs

      js : List ℕ
      js = order_at net.nodes sb qs

      still : (v : Bool) → Zeros qs (put q v look)
      still v r m e = put_off q v look r.0 r.1 (λ z. fresh (Memᴰ.cast z m)) ∙ zeros r (Memᴰ.tail m) e

      turn : steers net.nodes q.0 q.1 ≡ true → (t : Bool)
          → ((k : ℕ) (l : Look) → Zeros qs l → setting_of sb (load_at qs (bits_at net qs k) l) ≡ land_num js k (setting_of sb l))
          → setting_of sb (load_at (q ∷ qs) (cond t (false ∷ bits_at net qs c) (true ∷ bits_at net qs (c - 2 ^ n))) look)
          ≡ cond t (land_num js c (setting_of sb look)) (land_num js (c - 2 ^ n) (setting_of sb look + 3 ^ index_of q sb))
      turn s true ih = take_in q false qs (bits_at net qs c) look fresh ∙ ih c (put q false look) (still false) ∙ ap (land_num js c) (put_zero q look (zeros q (Memᴰ.head refl) s))
      turn s false ih =
          take_in q true qs (bits_at net qs (c - 2 ^ n)) look fresh ∙ ih (c - 2 ^ n) (put q true look) (still true)
          ∙ ap (land_num js (c - 2 ^ n)) (setting_put sb apart q look (listed q.0 q.1 s) (zeros q (Memᴰ.head refl) s))

      by : (t : Bool) → steers net.nodes q.0 q.1 ≡ t
          → ((k : ℕ) (l : Look) → Zeros qs l → setting_of sb (load_at qs (bits_at net qs k) l) ≡ land_num js k (setting_of sb l))
          → setting_of sb (load_at (q ∷ qs) (cond t (cond (ltb c (2 ^ n)) (false ∷ bits_at net qs c) (true ∷ bits_at net qs (c - 2 ^ n))) (wanted net.targets q.0 q.1 ∷ bits_at net qs c)) look)
          ≡ land_num (cons_if t (index_of q sb) js) c (setting_of sb look)
      by false s ih = skip q (wanted net.targets q.0 q.1) qs (bits_at net qs c) look s ∙ ih c look (λ r m e. zeros r (Memᴰ.tail m) e)
      by true s ih = rw (length_order_at net.nodes sb qs) (turn s (ltb c (2 ^ n)) ih)
