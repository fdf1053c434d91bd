-- Document 02, Change 3: a plan that goes on from the configuration that another left, and the two joined.
-- Assumes nothing.
use mathlib.Core.Path.{◌≡◌, refl, sym, ap, ◌∙◌, subst}
use mathlib.Core.Logic.{◌⊎◌, inl, inr}
use mathlib.Core.List.Memᴰ
use mathlib.Core.List.{List, [], ◌∷◌, ◌++◌, Memᴰ}
use Prim.Native.Nat.{ℕ}
use Rattle.model.specs.Network.{Target, read, write, Config, Network, at}
use Rattle.model.specs.Path.{ScanPath}
use Rattle.model.specs.Plan.{Plan, config_after, paths_from, ValidFrom, OnSome, Done, ValidPlan}
use Rattle.carry_model.specs.Carry.{left_by}
use Rattle.carry_model.specs.Continued.{StartsThere, reads_of, JoinedValid, JoinedPlans}
use Rattle.carry_model.specs.Restart.{restarted}
use Rattle.carry_model.proofs.LeftConfig.{config_joined, paths_joined, valid_joined}
use Rattle.carry_model.proofs.Restarting.{valid_before, done_before, valid_for}

-- a target is done where its segment is on some path and the last configuration is the same
done_by : (ps ps' : List ScanPath) (c c' : Config) (t : Target) → ((s : ℕ) → OnSome ps s → OnSome ps' s) → c ≡ c' → Done ps c t → Done ps' c' t
done_by ps ps' c c' (read s) f e d = f s d
done_by ps ps' c c' (write s bs) f e d = (f s d.0, ap (λ (x : Config). at x s []) (sym e) ∙ d.1)

-- one of the reads is a read target
reads_in : (ts : List Target) (t : Target) → Memᴰ t (reads_of ts) → (s : ℕ) × (t ≡ read s) × Memᴰ (read s) ts
unfolding reads_of
reads_in [] t m = elim m [ ]
reads_in (read s ∷ ts) t (Memᴰ.head e) = (s, e, Memᴰ.head refl)
reads_in (read s ∷ ts) t (Memᴰ.tail m) = let r = reads_in ts t m in (r.0, r.1, Memᴰ.tail r.2)
reads_in (write s bs ∷ ts) t m = let r = reads_in ts t m in (r.0, r.1, Memᴰ.tail r.2)

module _ (net net' : Network) (plan plan' : Plan) (there : StartsThere net net' plan) (first : ValidPlan net plan) (second : ValidPlan net' plan') where
  -- the second plan, put as one of the first network
  second_again : ValidPlan (restarted net (left_by net plan) net'.targets) plan'
  second_again = subst (λ (w : Network). ValidPlan w plan') (sym (ap (λ (c : Config). restarted net c net'.targets) (sym there.start) ∙ there.wiring)) second

  pub joined_runs : ValidFrom net net.start (plan ++ plan')
  joined_runs = valid_joined net plan plan' net.start first.valid (valid_before net (left_by net plan) net'.targets (left_by net plan) plan' second_again.valid)

  abbrev early : List ScanPath
  early = paths_from net net.start plan

  abbrev late : List ScanPath
  late = paths_from net (left_by net plan) plan'

  abbrev all : List ScanPath
  all = paths_from net net.start (plan ++ plan')

  both_paths : early ++ late ≡ all
  both_paths = sym (paths_joined net plan plan' net.start)

  -- segments on a path of either plan
  pub on_early : (s : ℕ) → OnSome early s → OnSome all s
  on_early s x = subst (λ (ps : List ScanPath). OnSome ps s) both_paths (x.0, Memᴰ.append_left late x.1, x.2)

  on_late : (s : ℕ) → OnSome late s → OnSome all s
  on_late s x = subst (λ (ps : List ScanPath). OnSome ps s) both_paths (x.0, Memᴰ.append_right early x.1, x.2)

  pub second_done : (t : Target) → Memᴰ t net'.targets → Done all (left_by net (plan ++ plan')) t
  second_done t m =
      done_by late all (config_after net (left_by net plan) plan') (left_by net (plan ++ plan')) t on_late (sym (config_joined net plan plan' net.start))
      (done_before net (left_by net plan) net'.targets (left_by net plan) plan' t (second_again.done t m))

  asked_done : (t : Target) → Memᴰ t (net'.targets ++ reads_of net.targets) → Done all (left_by net (plan ++ plan')) t
  asked_done t m = go (Memᴰ.append_cases net'.targets m)
    where
      go : Memᴰ t net'.targets ⊎ Memᴰ t (reads_of net.targets) → Done all (left_by net (plan ++ plan')) t
      go (inl i) = second_done t i
      go (inr i) =
          let r = reads_in net.targets t i in
          subst (Done all (left_by net (plan ++ plan'))) (sym r.1) (on_early r.0 (first.done (read r.0) r.2))

  joined_valid : JoinedValid net net' plan plan'
  joined_valid = record {
    both = valid_for net (net'.targets ++ reads_of net.targets) (plan ++ plan') joined_runs asked_done;
    writes = λ s bs m. (λ d. d.1, λ h. (on_early s (first.done (write s bs) m).0, h));
  }

pub plans_joined : JoinedPlans
plans_joined = joined_valid
