-- Laws of the list of the settings that the choices lead to: it is doubled for each steering bit on the path, the last place first.
-- Assumes nothing.
use mathlib.Core.Path.{◌≡◌, refl, sym, ap, ◌∙◌}
use mathlib.Core.List.{List}
use Prim.Native.Nat.{ℕ, suc, ◌+◌, ◌*◌, ◌-◌, ◌^◌, ◌≤◌, ◌<◌}
use native.Mathlib.Nat.{two-pow-succ, pow-le-pow_right, le_of_suc-le-suc}
use native.Mathlib.Numerals.{add-one}
use native.Mathlib.Omega.{arith}
use native.Mathlib.Decide.{dec_lt}
use lib.ListN.{length, get_or, set, length-set}
use lib.Seq.{get_or-set_same, get_or-set_other}
use Rattle.model.specs.Network.{Network, steering_bits}
use Rattle.model.specs.Path.{ScanPath, Walk, path, stop}
use Rattle.planner_theory.specs.Settings.{look_up, walk_at, order, base_of}
use Rattle.planner_theory.specs.Moves.{count, land}
use Rattle.planner_theory.proofs.Order.{order_within}
use Rattle.planner_theory.proofs.Landing.{power_up, land_high, land_zero}
use Rattle.planner_theory.proofs.MoveLaws.{count_path, count_stop, path_falls, few_choices, land_num_law, count_within, land_within, settings_within}
use Rattle.planner_rows.specs.Rows.{row_number, Doubled, Lands, Landing, LandsIn}

-- ---- one doubling

pub record Doubling (old : List ℕ) (h w c : ℕ) (new : List ℕ) : Type 0 where
  pub passed : c ≤ h
  pub low : (i : ℕ) → i < h → get_or new i 0 ≡ get_or old i 0
  pub high : (i : ℕ) → i < c → get_or new (h + i) 0 ≡ get_or old i 0 + w
  pub size : length new ≡ 64

-- ---- row x of a network

-- number i of the order: what it adds to the choices that the list has, with 1 for 0 in its place
record NextPlace (net : Network) (rows : List ℕ) (x i : ℕ) : Type 0 where
  few : i < 6
  within : row_number rows x (5 + i) < 6
  doubles : (c : ℕ) → c < 2 ^ i → 2 ^ i + c < count net x → land net x (2 ^ i + c) ≡ land net x c + 3 ^ row_number rows x (5 + i)

module _ (net : Network) (rows : List ℕ) (x : ℕ) (l : Lands net rows x) where
  abbrev sb : List (ℕ × ℕ)
  sb = steering_bits net.nodes

  next_place : (i : ℕ) → 2 ^ i < count net x → NextPlace net rows x i
  next_place i lt = by (walk_at net x) refl
    where
      by : (w : Walk) → walk_at net x ≡ w → NextPlace net rows x i
      by (stop k) e = absurd (omega (arith, count_stop net x k e))
      by (path p) e =
          let many : count net x ≡ 2 ^ length (order sb p) = count_path net x p e in
          let inside : i < length (order sb p) = here p many (dec_lt i (length (order sb p))) in
          let is : row_number rows x (5 + i) ≡ get_or (order sb p) (length (order sb p) - suc i) 0 = (l.row.routed p e).order_is i inside in
          record {
            few = omega (arith, (few_choices net l.accepted.wf p (path_falls net l.accepted.wf (look_up sb x) p e) l.few).0);
            within = omega (arith, is, order_within sb p (length (order sb p) - suc i) (omega arith), l.few);
            doubles = λ c less fits.
                land_num_law net l.accepted.wf x p e (2 ^ i + c) fits ∙ land_high (order sb p) i c (base_of sb p x) inside less
                ∙ rw (land_num_law net l.accepted.wf x p e c (omega arith), is);
          }
        where
          here : (p : ScanPath) → count net x ≡ 2 ^ length (order sb p) → Dec (i < length (order sb p)) → i < length (order sb p)
          here p many (yes g) = g
          here p many (no g) = absurd (omega (arith, power_up (length (order sb p)) i (omega arith)))

  first_land : 0 < count net x → row_number rows x 3 ≡ land net x 0
  first_land lt = by (walk_at net x) refl
    where
      by : (w : Walk) → walk_at net x ≡ w → row_number rows x 3 ≡ land net x 0
      by (stop k) e = absurd (omega (arith, count_stop net x k e))
      by (path p) e = (l.row.routed p e).base_is ∙ sym (land_num_law net l.accepted.wf x p e 0 lt ∙ land_zero (order sb p) (base_of sb p x))

pub weight_small : (j : ℕ) → j < 6 → 3 ^ j ≤ 243
weight_small j l = pow-le-pow_right {n = 3} (omega arith) {j = 5} (le_of_suc-le-suc l)

-- ---- the loop: the first h choices are listed

pub record Landed (rows : List ℕ) (x n i h : ℕ) (lands : List ℕ) : Type 0 where
  pub least : 1 ≤ h
  pub power : h ≡ 2 ^ i
  pub lands_are : (net : Network) → Lands net rows x → (c : ℕ) → c < h → c < n → get_or lands c 0 ≡ land net x c
  pub size : length lands ≡ 64

-- what a round asks
pub record Round (rows : List ℕ) (x i h : ℕ) (lands : List ℕ) : Type 0 where
  pub few : i < 6
  pub within : row_number rows x (5 + i) < 6
  pub half : h ≤ 32
  pub small : (c : ℕ) → c < h → get_or lands c 0 < 729

module _ (rows : List ℕ) (x n : ℕ) (is : n ≡ row_number rows x 1) (asked : Landing rows x) where
  -- the count of choices is that of each network whose row it is
  count_of : (net : Network) → Lands net rows x → n ≡ count net x
  count_of net l = is ∙ l.row.count_is

  pub landed_none : (lands : List ℕ) (v : ℕ) → length lands ≡ 64 → v ≡ row_number rows x 3 → Landed rows x n 0 1 (set lands 0 v)
  landed_none lands v size e = record {
    least = omega arith;
    power = refl;
    lands_are = λ net l c lt fits.
        let z : c ≡ 0 = omega arith in
        rw z (get_or-set_same lands 0 v 0 (omega arith) ∙ e ∙ first_land net rows x l (omega (arith, count_of net l)));
    size = length-set lands 0 v ∙ size;
  }

  module _ (i h : ℕ) (lands : List ℕ) (lt : h < n) (d : Landed rows x n i h lands) where
    place_in : (net : Network) → Lands net rows x → NextPlace net rows x i
    place_in net l = next_place net rows x l i (omega (arith, count_of net l, d.power))

    pub landed_round : Round rows x i h lands
    landed_round =
        let q = place_in asked.0 asked.1 in
        record {
          few = q.few;
          within = q.within;
          half = omega (arith, d.power, power_up i 5 (omega (arith, q.few)));
          small = λ c less.
              omega (arith, d.lands_are asked.0 asked.1 c less (omega arith), land_within asked.0 x c, settings_within (length (steering_bits asked.0.nodes)) asked.1.few);
        }

    pub landed_more : (j w : ℕ) (new : List ℕ) → j ≡ row_number rows x (5 + i) → w ≡ 3 ^ j → Doubled lands h w new → Landed rows x n (i + 1) (h * 2) new
    landed_more j w new e f q = record {
      least = omega (arith, d.least);
      power = omega (arith, d.power, two-pow-succ i, ap (λ (k : ℕ). 2 ^ k) (add-one i));
      lands_are = λ net l c less fits. by net l c (dec_lt c h) less fits;
      size = q.size;
    }
      where
        by : (net : Network) → Lands net rows x → (c : ℕ) → Dec (c < h) → c < h * 2 → c < n → get_or new c 0 ≡ land net x c
        by net l c (yes g) less fits = q.low c g ∙ d.lands_are net l c g fits
        by net l c (no g) less fits =
            let b : c - h < h = omega arith in
            let z : c ≡ 2 ^ i + (c - h) = omega (arith, d.power) in
            let y : c ≡ h + (c - h) = omega arith in
            let high : land net x (2 ^ i + (c - h)) ≡ land net x (c - h) + 3 ^ row_number rows x (5 + i) =
            (place_in net l).doubles (c - h) (omega (arith, d.power)) (omega (arith, count_of net l)) in
            ap (λ (k : ℕ). get_or new k 0) y ∙ q.high (c - h) b ∙ rw (d.lands_are net l (c - h) b (omega arith), f, e) (sym high) ∙ ap (land net x) (sym z)

  pub landed_all : (i h : ℕ) (lands : List ℕ) → n ≤ h → Landed rows x n i h lands → LandsIn rows x n lands
  landed_all i h lands le d = record {
    of = λ net l. record { count_is = count_of net l; lands_are = λ c lt. d.lands_are net l c (omega arith) lt };
    most = omega (arith, count_of asked.0 asked.1, count_within asked.0 asked.1.accepted asked.1.few x);
    size = d.size;
  }
