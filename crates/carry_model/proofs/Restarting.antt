-- The operations in turn do not look at a network's start or targets.
-- Assumes nothing.
use mathlib.Core.Path.{◌≡◌, refl, sym, ap, subst}
use mathlib.Core.List.{List, [], ◌∷◌, Memᴰ}
use Rattle.model.specs.Network.{Target, Config, Network}
use Rattle.model.specs.Path.{ScanPath, path_in, csu}
use Rattle.model.specs.Plan.{Plan, config_after, paths_from, ValidFrom, Done, ValidPlan}
use Rattle.carry_model.specs.Carry.{left_by}
use Rattle.carry_model.specs.Restart.{restarted}

module _ (net : Network) (start : Config) (ts : List Target) where
  pub config_again : (c : Config) (plan : Plan) → config_after (restarted net start ts) c plan ≡ config_after net c plan
  unfolding config_after
  config_again c [] = refl
  config_again c (bs ∷ plan) = config_again (csu (path_in net c) bs c) plan

  paths_again : (c : Config) (plan : Plan) → paths_from (restarted net start ts) c plan ≡ paths_from net c plan
  unfolding paths_from
  paths_again c [] = refl
  paths_again c (bs ∷ plan) = ap (λ (l : List ScanPath). path_in net c ∷ l) (paths_again (csu (path_in net c) bs c) plan)

  valid_again : (c : Config) (plan : Plan) → ValidFrom net c plan → ValidFrom (restarted net start ts) c plan
  valid_again c [] v = v
  valid_again c (bs ∷ plan) v = (v.0, v.1, valid_again (csu (path_in net c) bs c) plan v.2)

  pub valid_before : (c : Config) (plan : Plan) → ValidFrom (restarted net start ts) c plan → ValidFrom net c plan
  valid_before c [] v = v
  valid_before c (bs ∷ plan) v = (v.0, v.1, valid_before (csu (path_in net c) bs c) plan v.2)

  pub done_before : (c : Config) (plan : Plan) (t : Target) → Done (paths_from (restarted net start ts) c plan) (config_after (restarted net start ts) c plan) t
      → Done (paths_from net c plan) (config_after net c plan) t
  done_before c plan t d =
      subst (λ (x : Config). Done (paths_from net c plan) x t) (config_again c plan)
      (subst (λ (ps : List ScanPath). Done ps (config_after (restarted net start ts) c plan) t) (paths_again c plan) d)

-- a plan that runs and does what is asked is valid for that, from the same start
pub valid_for : (net : Network) (ts : List Target) (plan : Plan) → ValidFrom net net.start plan
    → ((t : Target) → Memᴰ t ts → Done (paths_from net net.start plan) (left_by net plan) t) → ValidPlan (restarted net net.start ts) plan
valid_for net ts plan v f = record {
  valid = valid_again net net.start ts net.start plan v;
  done = λ t m. subst (λ (c : Config). Done (paths_from (restarted net net.start ts) net.start plan) c t) (sym (config_again net net.start ts net.start plan))
      (subst (λ (ps : List ScanPath). Done ps (left_by net plan) t) (sym (paths_again net net.start ts net.start plan)) (f t m));
}
