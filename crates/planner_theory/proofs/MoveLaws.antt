-- Laws of the moves of a network: what they are where the setting has a path and where its walk stops, and their bounds.
-- Assumes nothing.
use mathlib.Core.Path.{◌≡◌, refl, sym, ap, ◌∙◌, subst}
use mathlib.Core.Bool.{Bool, true, false, cond}
use Rattle.std.specs.Prelude.{Some as some}
use mathlib.Core.List.{List, [], Memᴰ}
use Prim.Native.Nat.{ℕ, suc, ◌≤◌, ◌<◌, ◌^◌}
use native.Mathlib.Nat.{pow-le-pow_right}
use native.Mathlib.Omega.{arith}
use lib.ListN.{length}
use Rattle.model.specs.Text.{Trit}
use Rattle.model.specs.Network.{Network, steering_bits}
use Rattle.model.specs.Path.{ScanPath, Walk, path, stop, walk_from, node_of, path_length, path_of, on}
use Rattle.model.specs.Planner.{fillings}
use Rattle.model.specs.Accepted.{Accepted, WellFormed}
use Rattle.model.proofs.PathBound.{falls_bound}
use Rattle.model.proofs.FillingList.{fill_out}
use Rattle.model.proofs.Walking.{Falls, walk_falls}
use Rattle.planner_theory.specs.Moves.{mask_of, on_path, choices_on, targets_on, count, gain, land}
use Rattle.planner_theory.proofs.Landing.{land_num}
use Rattle.planner_theory.specs.Settings.{Look, setting_of, look_up, walk_at, order, base_of, choice_of, loaded, setting_after}
use Rattle.planner_theory.specs.Choices.{places_of, choice_bits}
use Rattle.planner_theory.proofs.Steering.{get_d_in, distinct_bits, steering_bit, bit_listed}
use Rattle.planner_theory.proofs.SettingNumbers.{setting_same, setting_small, base_is}
use Rattle.planner_theory.proofs.Choices.{steering_count, bits_at, bits_from_law, count_choices, choice_bits_law}
use Rattle.planner_theory.proofs.Order.{order_at, length_order_at, order_places, order_short}
use Rattle.planner_theory.proofs.LeadsTo.{load_at, loaded_places, below_places, places_apart, places_landing}
use Rattle.planner_theory.proofs.TargetMasks.{mask_small}

-- ---- a setting whose walk has a path, and one whose walk stops

pub count_path : (net : Network) (x : ℕ) (p : ScanPath) → walk_at net x ≡ path p → count net x ≡ 2 ^ length (order (steering_bits net.nodes) p)
unfolding count
count_path net x p e = ap (choices_on net) e

pub gain_path : (net : Network) (x : ℕ) (p : ScanPath) → walk_at net x ≡ path p → gain net x ≡ mask_of (on_path p) net.targets
unfolding gain
gain_path net x p e = ap (targets_on net) e

pub land_path : (net : Network) (x : ℕ) (p : ScanPath) → walk_at net x ≡ path p → (c : ℕ) → land net x c ≡ setting_after net p x c
unfolding land
land_path net x p e c = ap (λ (w : Walk). setting_after net (path_of w) x c) e

pub count_stop : (net : Network) (x k : ℕ) → walk_at net x ≡ stop k → count net x ≡ 0
unfolding count
count_stop net x k e = ap (choices_on net) e

pub gain_stop : (net : Network) (x k : ℕ) → walk_at net x ≡ stop k → gain net x ≡ 0
unfolding gain
gain_stop net x k e = ap (targets_on net) e

module _ (net : Network) (wf : WellFormed net) where
  abbrev sb : List (ℕ × ℕ)
  sb = steering_bits net.nodes

  pub path_falls : (look : Look) (p : ScanPath) → walk_from (node_of net.nodes) look net.out net.out ≡ path p → Falls net.nodes (suc net.out) p
  path_falls look p e = let w = walk_falls net.nodes wf.backwards look net.out net.out wf.ends in rw e at w

  -- ---- facts of a path

  module _ (p : ScanPath) (falls : Falls net.nodes (suc net.out) p) where
    order_is : order_at net.nodes sb (places_of p) ≡ order sb p
    order_is = order_places net.nodes (suc net.out) p (let l : net.out ≤ length net.nodes = wf.ends in omega arith) falls

    pub steering_places : steering_count net.nodes (places_of p) ≡ length (order sb p)
    steering_places = sym (length_order_at net.nodes sb (places_of p)) ∙ ap length order_is

    -- the choices are the model's fillings, and their bits go place by place
    pub choices_count : length (fillings net p) ≡ 2 ^ length (order sb p)
    choices_count = count_choices net p ∙ ap (λ (k : ℕ). 2 ^ k) steering_places

    bits_are : (c : ℕ) → c < 2 ^ length (order sb p) → choice_of net p c ≡ bits_at net (places_of p) c
    bits_are c lt = choice_bits_law net p c (subst (λ (k : ℕ). c < 2 ^ k) (sym steering_places) lt)

    pub bits_of : (c : ℕ) → c < 2 ^ length (order sb p) → choice_of net p c ≡ choice_bits net (places_of p) (2 ^ length (order sb p)) c
    bits_of c lt =
        bits_are c lt ∙ bits_from_law net (places_of p) c (subst (λ (k : ℕ). c < 2 ^ k) (sym steering_places) lt)
        ∙ ap (λ (k : ℕ). choice_bits net (places_of p) (2 ^ k) c) steering_places

    pub choice_in : (c : ℕ) → c < 2 ^ length (order sb p) → Memᴰ (choice_of net p c) (fillings net p)
    choice_in c lt = get_d_in (fillings net p) c [] (omega (arith, choices_count))

    pub choice_length : (c : ℕ) → c < 2 ^ length (order sb p) → length (choice_of net p c) ≡ path_length p
    choice_length c lt = (fill_out net p (choice_of net p c) (choice_in c lt)).0

    -- where a choice leads
    pub leads_to_law : (x c : ℕ) → c < 2 ^ length (order sb p) → setting_after net p x c ≡ land_num (order sb p) c (base_of sb p x)
    leads_to_law x c lt =
        setting_same sb (loaded p bs look) (load_at (places_of p) bs zeroed)
        (λ q m. same (on p q.0) _ (look q.0 q.1) ∙ loaded_places net.nodes (suc net.out) p bs zeroed q.0 q.1 falls (choice_length c lt) (steering_bit net.nodes q m).inside)
        ∙ ap (λ (v : List Bool). setting_of sb (load_at (places_of p) v zeroed)) (bits_are c lt)
        ∙ places_landing net sb (distinct_bits net.nodes) (bit_listed net.nodes wf.backwards) (λ q m. (steering_bit net.nodes q m).steering)
        (places_of p) (places_apart net.nodes (suc net.out) p falls) c zeroed (λ q m e. rw (below_places net.nodes (suc net.out) p q falls m).1)
        ∙ rw (order_is, base_is sb (distinct_bits net.nodes) p x)
      where
        bs : List Bool
        bs = choice_of net p c

        look : Look
        look = look_up sb x

        zeroed : Look
        zeroed s b = cond (on p s) (some false) (look s b)

        same : (t : Bool) (a v : Trit) → cond t a v ≡ cond t a (cond t (some false) v)
        same true a v = refl
        same false a v = refl

    pub leads_within : (x c : ℕ) → c < 2 ^ length (order sb p) → land_num (order sb p) c (base_of sb p x) < 3 ^ length sb
    leads_within x c lt = subst (λ (n : ℕ). n < 3 ^ length sb) (leads_to_law x c lt) (setting_small sb (loaded p (choice_of net p c) (look_up sb x)))

    pub base_within : (x : ℕ) → base_of sb p x < 3 ^ length sb
    base_within x = subst (λ (n : ℕ). n < 3 ^ length sb) (base_is sb (distinct_bits net.nodes) p x) (setting_small sb (λ s b. cond (on p s) (some false) (look_up sb x s b)))

    pub few_choices : length sb ≤ 6 → (length (order sb p) ≤ 6) × (2 ^ length (order sb p) ≤ 64)
    few_choices few =
        let short : length (order sb p) ≤ 6 = omega (arith, order_short net.nodes sb (suc net.out) p falls) in
        (short, pow-le-pow_right {n = 2} (omega arith) {j = 6} short)

  -- the setting that a choice leads to, by the steering bits on the path
  pub land_num_law : (x : ℕ) (p : ScanPath) → walk_at net x ≡ path p → (c : ℕ) → c < count net x → land net x c ≡ land_num (order sb p) c (base_of sb p x)
  land_num_law x p e c lt = land_path net x p e c ∙ leads_to_law p (path_falls (look_up sb x) p e) x c (omega (arith, count_path net x p e))

-- ---- bounds

-- a setting's path has no more bits than the network
pub path_short : (net : Network) → Accepted net → (x : ℕ) (p : ScanPath) → walk_at net x ≡ path p → path_length p ≤ 4000
path_short net a x p e = omega (arith, falls_bound net a.wf p (path_falls net a.wf (look_up (steering_bits net.nodes) x) p e), a.few_bits)

pub settings_within : (k : ℕ) → k ≤ 6 → 3 ^ k ≤ 729
settings_within k few = pow-le-pow_right {n = 3} (omega arith) {j = 6} few

pub targets_within : (net : Network) → Accepted net → 2 ^ length net.targets ≤ 16
targets_within net a = pow-le-pow_right {n = 2} (omega arith) {j = 4} a.targets_fit.most

pub count_within : (net : Network) → Accepted net → length (steering_bits net.nodes) ≤ 6 → (x : ℕ) → count net x ≤ 64
count_within net a few x = by (walk_at net x) refl
  where
    by : (w : Walk) → walk_at net x ≡ w → count net x ≤ 64
    by (path p) e = omega (arith, count_path net x p e, (few_choices net a.wf p (path_falls net a.wf (look_up (steering_bits net.nodes) x) p e) few).1)
    by (stop k) e = omega (arith, count_stop net x k e)

pub gain_within : (net : Network) → Accepted net → (x : ℕ) → gain net x < 16
gain_within net a x = by (walk_at net x) refl
  where
    by : (w : Walk) → walk_at net x ≡ w → gain net x < 16
    by (path p) e = omega (arith, gain_path net x p e, mask_small (on_path p) net.targets, targets_within net a)
    by (stop k) e = omega (arith, gain_stop net x k e)

pub land_within : (net : Network) (x c : ℕ) → land net x c < 3 ^ length (steering_bits net.nodes)
unfolding land
land_within net x c =
    let p = path_of (walk_at net x) in
    setting_small (steering_bits net.nodes) (loaded p (choice_of net p c) (look_up (steering_bits net.nodes) x))
