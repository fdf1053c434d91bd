-- The model's search is the search by numbers over the moves of the network.
-- Assumes nothing.
use mathlib.Core.Path.{◌≡◌, refl, sym, ap, ◌∙◌}
use mathlib.Core.Bool.{Bool, true, false, cond, ◌&&◌}
use Rattle.std.specs.Prelude.{Option, None as none, Some as some, option_map}
use mathlib.Core.List.Memᴰ
use mathlib.Core.List.{List, [], ◌∷◌, ◌++◌, map, Memᴰ}
use Prim.Native.Nat.{ℕ, zero, suc, ◌≤◌, ◌<◌, ◌+◌, ◌*◌, ◌/◌, ◌%◌}
use native.Mathlib.Nat.{one-le-pow}
use native.Mathlib.Omega.{arith}
use lib.Dec.{ltb}
use lib.ListN.{length, get_or, length-map}
use lib.Bits.{bit_or}
use borrow.Author.Tests.{lt-ltb}
use Rattle.model.specs.Text.{Trit}
use Rattle.model.specs.Result.{Result, ok, refused}
use Rattle.model.specs.Network.{Target, read, write, Config, Network, at, len_of, steers, steering_bits}
use Rattle.model.specs.NetworkText.{target_segment}
use Rattle.model.specs.Path.{ScanPath, Walk, path, stop, bit_of, walk, path_of, on, share, loads, csu}
use Rattle.model.specs.Plan.{Plan, OnSome, Done}
use Rattle.model.specs.Mark.{Got, targets_from}
use Rattle.model.specs.Planner.{fillings, or_next, first_of, starting_with, if_done, if_valid, search_from, least_from, plan_for}
use Rattle.model.specs.Accepted.{Accepted}
use Rattle.model.proofs.Filling.{length_csu}
use Rattle.model.proofs.Lists.{true_false, at_map_from, not_ok}
use Rattle.model.proofs.FillingList.{fill_out}
use Rattle.model.proofs.SearchKey.{Kept, kept_op}
use Rattle.model.proofs.Validity.{targets_done, done_targets}
use Rattle.planner_theory.specs.Search.{Sys, first_from, if_goal, plan_in, plan_from, plan_up_to}
use Rattle.planner_theory.specs.Moves.{mask_of, on_path, count, gain, land, reached, goes, sys_of, decode}
use Rattle.planner_theory.specs.Settings.{setting_of, look_up, number_of, walk_at, order, choice_of, loaded}
use Rattle.planner_theory.proofs.Steering.{get_d_in, steering_bit, bit_listed}
use Rattle.planner_theory.proofs.SettingNumbers.{setting_same, look_setting}
use Rattle.planner_theory.proofs.SameWalk.{walk_same}
use Rattle.planner_theory.proofs.TargetMasks.{mask_small, mask_or, all, mask_all, all_each, each_all, met, met_none, met_more, met_on, on_met}
use Rattle.planner_theory.proofs.MoveLaws.{count_path, gain_path, land_path, count_stop, path_falls, choices_count, targets_within}

-- ---- the first choice from which the rest can be done, in both searches

module _ (go : List Bool → Option Plan) (later : ℕ → Option (List ℕ)) (bits : ℕ → List Bool) (rest : ℕ → List ℕ → Plan) (dec : List ℕ → Plan)
    (dec-is : (c : ℕ) (cs : List ℕ) → dec (c ∷ cs) ≡ bits c ∷ rest c cs) where
  first_same : (l : List (List Bool)) (i : ℕ) → ((j : ℕ) → j < length l → get_or l j [] ≡ bits (i + j)) → ((j : ℕ) → j < length l → go (bits (i + j)) ≡ option_map (rest (i + j)) (later (i + j)))
      → first_of l go ≡ option_map dec (first_from later i (length l))
  unfolding first_from
  first_same [] i b e = refl
  first_same (bs ∷ l) i b e =
      by (later i) (let z : i + 0 ≡ i = omega arith in rw z at (e 0 (omega arith))) (let z : i + 0 ≡ i = omega arith in rw z at (b 0 (omega arith)))
      (first_same l (suc i) (λ j h. b (suc j) (omega arith) ∙ ap bits (let z : i + suc j ≡ suc i + j = omega arith in z))
      (λ j h. let z : i + suc j ≡ suc i + j = omega arith in rw z at (e (suc j) (omega arith))))
    where
      by : (o : Option (List ℕ)) → go (bits i) ≡ option_map (rest i) o → bs ≡ bits i → first_of l go ≡ option_map dec (first_from later (suc i) (length l))
          → or_next (starting_with bs (go bs)) (first_of l go) ≡ option_map dec (or_next (starting_with i o) (first_from later (suc i) (length l)))
      by none f z ih = rw (z, f) ih
      by (some cs) f z ih = rw (z, f) (ap some (sym (dec-is i cs)))

-- ---- an operation

-- bits after an operation
cond_get_d : (t : Bool) (l k : List Trit) (b : ℕ) → get_or (cond t l k) b none ≡ cond t (get_or l b none) (get_or k b none)
cond_get_d true l k b = refl
cond_get_d false l k b = refl

bit_after : (p : ScanPath) (bs : List Bool) (c : Config) (s b : ℕ) → 1 ≤ s → s ≤ length c → bit_of (csu p bs c) s b ≡ loaded p bs (bit_of c) s b
unfolding csu
bit_after p bs c s b l u =
    ap (λ (r : List Trit). get_or r b none) (at_map_from (λ s old. cond (loads p s) (share p (map some bs) s) old) c s [] [] l u) ∙ cond_get_d (on p s) (share p (map some bs) s) (at c s []) b

module _ (net : Network) (a : Accepted net) where
  abbrev sb : List (ℕ × ℕ)
  sb = steering_bits net.nodes

  -- the walk in a configuration is that in its setting
  look_is : (c : Config) (s b : ℕ) → steers net.nodes s b ≡ true → bit_of c s b ≡ look_up sb (number_of net c) s b
  look_is c s b e = sym (look_setting sb (bit_of c) s b (bit_listed net.nodes a.wf.backwards s b e))

  pub walk_is : (c : Config) → walk net c ≡ walk_at net (number_of net c)
  walk_is c = walk_same (bit_of c) (look_up sb (number_of net c)) net.nodes (look_is c) net.out net.out

  number_after : (c : Config) (p : ScanPath) (bs : List Bool) → length c ≡ length net.nodes → number_of net (csu p bs c) ≡ setting_of sb (loaded p bs (look_up sb (number_of net c)))
  number_after c p bs size =
      setting_same sb (bit_of (csu p bs c)) (loaded p bs (look_up sb (number_of net c)))
      (λ q m. let r = steering_bit net.nodes q m in
      bit_after p bs c q.0 q.1 r.least (omega (arith, r.most)) ∙ ap (λ (v : Trit). cond (on p q.0) (get_or (share p (map some bs) q.0) q.1 none) v) (look_is c q.0 q.1 r.steering))

  -- ---- the goal

  -- the targets are done where all have been on a path
  done_if : (ps : List ScanPath) (c : Config) → Kept net ps c → all (met ps) net.targets ≡ true → (gs : List Got) × (targets_from 1 ps c net.targets ≡ ok gs)
  done_if ps c k e = done_targets 1 ps c net.targets (λ t m. one t m (met_on ps t (all_each (met ps) net.targets e t m)))
    where
      one : (t : Target) → Memᴰ t net.targets → OnSome ps (target_segment t) → Done ps c t
      one (read s) m o = o
      one (write s w) m o = (o, k s w m o)

  if_done_law : (ps : List ScanPath) (c : Config) (gs : List Got) → targets_from 1 ps c net.targets ≡ ok gs → all (met ps) net.targets ≡ true
  if_done_law ps c gs e = each_all (met ps) net.targets (λ t m. on_met ps t (one t (targets_done 1 ps c net.targets gs e t m)))
    where
      one : (t : Target) → Done ps c t → OnSome ps (target_segment t)
      one (read s) d = d
      one (write s w) d = d.0

  -- ---- the two searches

  abbrev M : Sys
  M = sys_of net

  -- the state of a configuration after these paths
  state_of : List ScanPath → Config → ℕ
  state_of ps c = number_of net c * 16 + mask_of (met ps) net.targets

  state_setting : (ps : List ScanPath) (c : Config) → state_of ps c / 16 ≡ number_of net c
  unfolding state_of
  state_setting ps c = omega (arith, mask_small (met ps) net.targets, targets_within net a)

  state_targets : (ps : List ScanPath) (c : Config) → state_of ps c % 16 ≡ mask_of (met ps) net.targets
  unfolding state_of
  state_targets ps c = omega (arith, mask_small (met ps) net.targets, targets_within net a)

  same_end : (ps : List ScanPath) (c : Config) → Kept net ps c
      → if_done (walk net c) (targets_from 1 ps c net.targets) ≡ option_map (decode net (number_of net c)) (if_goal (M.goal (state_of ps c)))
  unfolding decode
  same_end ps c k =
      rw (walk_is c, state_setting ps c, state_targets ps c, mask_all (met ps) net.targets)
      (by (walk_at net (number_of net c)) refl (all (met ps) net.targets) refl (targets_from 1 ps c net.targets) refl)
    where
      x : ℕ
      x = number_of net c

      by : (w : Walk) → walk_at net x ≡ w → (t : Bool) → all (met ps) net.targets ≡ t → (r : Result (List Got)) → targets_from 1 ps c net.targets ≡ r
          → if_done w r ≡ option_map (decode net x) (if_goal (ltb 0 (count net x) && t))
      by (stop j) e t f r g = rw (count_stop net x j e)
      by (path p) e t f r g = rw (lt-ltb 0 (count net x) (omega (arith, count_path net x p e, one-le-pow (length (order sb p)) 2 (omega arith)))) (done t f r g)
        where
          done : (t : Bool) → all (met ps) net.targets ≡ t → (r : Result (List Got)) → targets_from 1 ps c net.targets ≡ r → if_done (path p) r ≡ option_map (decode net x) (if_goal t)
          done true f (ok gs) g = refl
          done false f (refused n q) g = refl
          done false f (ok gs) g = absurd (true_false (sym (if_done_law ps c gs g) ∙ f))
          done true f (refused n q) g = let d = done_if ps c k f in absurd (not_ok (sym g ∙ d.1))

  choices_are : (x : ℕ) (p : ScanPath) → walk_at net x ≡ path p → length (fillings net p) ≡ count net x
  choices_are x p e = choices_count net a.wf p (path_falls net a.wf (look_up sb x) p e) ∙ sym (count_path net x p e)

  pub decode_step : (x : ℕ) (p : ScanPath) → walk_at net x ≡ path p → (c : ℕ) (cs : List ℕ) → decode net x (c ∷ cs) ≡ choice_of net p c ∷ decode net (land net x c) cs
  unfolding decode
  decode_step x p e c cs = ap (λ (w : Walk). choice_of net (path_of w) c ∷ decode net (land net x c) cs) e

  state_after_law : (ps : List ScanPath) (c : Config) (p : ScanPath) (j : ℕ) → length c ≡ length net.nodes → walk_at net (number_of net c) ≡ path p
      → state_of (ps ++ p ∷ []) (csu p (choice_of net p j) c) ≡ goes net (number_of net c) (reached net (number_of net c) (state_of ps c % 16)) j
  unfolding state_of
  state_after_law ps c p j size e =
      ap (λ (n : ℕ). n * 16 + mask_of (met (ps ++ p ∷ [])) net.targets) (number_after c p (choice_of net p j) size ∙ sym (land_path net (number_of net c) p e j))
      ∙ ap (λ (n : ℕ). land net (number_of net c) j * 16 + n)
      (mask_or (met ps) (on_path p) (met (ps ++ p ∷ [])) (met_more ps p) net.targets
      ∙ ap (λ (n : ℕ). bit_or (mask_of (met ps) net.targets) n) (sym (gain_path net (number_of net c) p e))
      ∙ ap (λ (n : ℕ). bit_or n (gain net (number_of net c))) (sym (state_targets ps c)))

  same_search : (d : ℕ) (ps : List ScanPath) (c : Config) → length c ≡ length net.nodes → Kept net ps c
      → search_from net d ps c ≡ option_map (decode net (number_of net c)) (plan_in M d (state_of ps c))
  unfolding search_from plan_in first_from
  same_search zero ps c size k = same_end ps c k
  same_search (suc d) ps c size k =
      rw (walk_is c, state_setting ps c) (by (walk_at net x) refl (λ p bs l g. same_search d (ps ++ p ∷ []) (csu p bs c) l g))
    where
      x : ℕ
      x = number_of net c

      next : ScanPath → List Bool → Option Plan
      next p bs = search_from net d (ps ++ p ∷ []) (csu p bs c)

      to : ℕ → ℕ
      to j = goes net x (reached net x (state_of ps c % 16)) j

      by : (w : Walk) → walk_at net x ≡ w
          → ((p : ScanPath) (bs : List Bool) → length (csu p bs c) ≡ length net.nodes → Kept net (ps ++ p ∷ []) (csu p bs c)
          → next p bs ≡ option_map (decode net (number_of net (csu p bs c))) (plan_in M d (state_of (ps ++ p ∷ []) (csu p bs c))))
          → if_valid w (λ p. first_of (fillings net p) (next p)) ≡ option_map (decode net x) (first_from (λ j. plan_in M d (to j)) 0 (count net x))
      by (stop j) e ih = rw (count_stop net x j e)
      by (path p) e ih =
          first_same (next p) (λ j. plan_in M d (to j)) (choice_of net p) (λ j. decode net (land net x j)) (decode net x) (λ j cs. decode_step x p e j cs)
          (fillings net p) 0 (λ j h. ap (choice_of net p) (let z : j ≡ 0 + j = omega arith in z)) (λ j h. one (0 + j) (omega arith))
          ∙ ap (λ (n : ℕ). option_map (decode net x) (first_from (λ j. plan_in M d (to j)) 0 n)) (choices_are x p e)
        where
          one : (j : ℕ) → j < length (fillings net p) → next p (choice_of net p j) ≡ option_map (decode net (land net x j)) (plan_in M d (to j))
          one j h =
              let bs = choice_of net p j in
              let filled = fill_out net p bs (get_d_in (fillings net p) j [] h) in
              ih p bs (length_csu p bs c ∙ size) (kept_op net a.wf a.good ps c p bs (walk_is c ∙ e) size filled.0 filled.1 k)
              ∙ ap (λ (n : ℕ). option_map (decode net n) (plan_in M d (state_of (ps ++ p ∷ []) (csu p bs c)))) (number_after c p bs size ∙ sym (land_path net x p e j))
              ∙ ap (λ (s : ℕ). option_map (decode net (land net x j)) (plan_in M d s)) (state_after_law ps c p j size e)

  -- ---- the plan

  abbrev start : ℕ
  start = number_of net net.start

  from_start_law : (d : ℕ) → search_from net d [] net.start ≡ option_map (decode net start) (plan_in M d (start * 16))
  unfolding state_of
  from_start_law d =
      let size : length net.start ≡ length net.nodes = sym (length-map net.start length) ∙ ap length a.wf.starts ∙ length-map net.nodes len_of in
      let s : start * 16 + mask_of (met []) net.targets ≡ start * 16 = omega (arith, met_none net.targets) in
      same_search d [] net.start size (λ t w n x. absurd (Memᴰ.not-nil x.1)) ∙ ap (λ (n : ℕ). option_map (decode net start) (plan_in M d n)) s

  least_same : (d n : ℕ) → least_from net d n ≡ option_map (decode net start) (plan_from M d n (start * 16))
  unfolding least_from plan_from
  least_same d zero = from_start_law d
  least_same d (suc n) = rw (from_start_law d, least_same (suc d) n) (by (plan_in M d (start * 16)) (plan_from M (suc d) n (start * 16)))
    where
      by : (o r : Option (List ℕ)) → or_next (option_map (decode net start) o) (option_map (decode net start) r) ≡ option_map (decode net start) (or_next o r)
      by none r = refl
      by (some cs) r = refl

  -- The planner's plan is that of the search by numbers.
  pub plan_is : plan_for net ≡ option_map (decode net start) (plan_up_to M 16 (start * 16))
  unfolding plan_for
  plan_is = least_same 0 16
