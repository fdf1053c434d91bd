-- The configuration that a plan leaves: its rows have their segments' lengths, and it is valid; a plan that goes on from there.
-- Assumes nothing.
use mathlib.Core.Path.{◌≡◌, refl, sym, ap, ◌∙◌}
use mathlib.Core.Bool.{Bool, true, false, cond, ◌||◌}
use Rattle.std.specs.Prelude.{Some as some}
use mathlib.Core.List.{List, [], ◌∷◌, ◌++◌, map}
use Prim.Native.Nat.{ℕ, zero, suc, ◌≤◌}
use native.Mathlib.Omega.{arith}
use lib.ListN.{length, get_or, take, drop, length-map, length-drop}
use lib.Seq.{length-take-le}
use lib.Dec.{eqb}
use Rattle.model.specs.Accepted.{WellFormed}
use Rattle.model.specs.Mark.{Run, run_from}
use Rattle.model.specs.Network.{Node, Config, Network, at, no_node, len_of}
use Rattle.model.specs.Path.{ScanPath, path, walk, path_in, ValidConfig, path_length, on, share, csu}
use Rattle.model.specs.Plan.{Plan, config_after, paths_from, ValidFrom}
use Rattle.model.specs.Result.{ok}
use Rattle.model.proofs.Filling.{length_csu, csu_on, csu_off, on_range, falls_in}
use Rattle.model.proofs.Lists.{eqb_is}
use Rattle.model.proofs.Validity.{through}
use Rattle.model.proofs.Walking.{Falls}
use Rattle.carry_model.specs.Carry.{left_by}

-- the last configuration of the marker's run
pub left_last : (net : Network) (plan : Plan) (p : ScanPath) (r : Run) → walk net net.start ≡ path p → run_from net 1 p net.start plan ≡ ok r → r.last ≡ left_by net plan
left_last net plan p r w e = (through net plan 1 p net.start r.paths r.last w e).config

-- ---- lengths

-- a row of bits for each node, as long as the node's LEN
pub record RowsFit (ns : List Node) (c : Config) : Type 0 where
  pub rows : length c ≡ length ns
  pub each : (s : ℕ) → length (at c s []) ≡ len_of (at ns s no_node)

row_lengths : (ns : List Node) (c : Config) → map length c ≡ map len_of ns → (n : ℕ) → length (get_or c n []) ≡ len_of (get_or ns n no_node)
row_lengths [] [] e n = refl
row_lengths [] (t ∷ c) e n = let z : length (map length (t ∷ c)) ≡ 0 = ap length e in absurd (omega arith)
row_lengths (x ∷ ns) [] e n = let z : 0 ≡ length (map len_of (x ∷ ns)) = ap length e in absurd (omega arith)
row_lengths (x ∷ ns) (t ∷ c) e zero = cc
row_lengths (x ∷ ns) (t ∷ c) e (suc n) = row_lengths ns c (cc) n

pub start_sized : (net : Network) → WellFormed net → RowsFit net.nodes net.start
start_sized net wf = record { rows = sym (length-map net.start length) ∙ ap length wf.starts ∙ length-map net.nodes len_of; each = each }
  where
    each : (s : ℕ) → length (at net.start s []) ≡ len_of (at net.nodes s no_node)
    each zero = refl
    each (suc n) = row_lengths net.nodes net.start wf.starts n

share_length : {A : Type 0} (ns : List Node) (m : ℕ) (p : ScanPath) (vs : List A) (s : ℕ) → Falls ns m p → length vs ≡ path_length p → on p s ≡ true
    → length (share p vs s) ≡ len_of (at ns s no_node)
share_length ns m [] vs s f l o = let z : ◌≡◌ {A = ℕ} 0 1 = cc in absurd (omega arith)
share_length ns m (h ∷ p) vs s f l o = go (eqb h.number s) refl o (λ y. share_length ns h.number p (drop h.len vs) s f.3 (length-drop h.len vs ∙ omega arith) y)
  where
    go : (t : Bool) → eqb h.number s ≡ t → (t || on p s) ≡ true → (on p s ≡ true → length (share p (drop h.len vs) s) ≡ len_of (at ns s no_node))
        → length (cond t (take h.len vs) (share p (drop h.len vs) s)) ≡ len_of (at ns s no_node)
    go true q y r = length-take-le h.len vs (omega arith) ∙ f.2 ∙ ap (λ (k : ℕ). len_of (at ns k no_node)) (eqb_is h.number s q)
    go false q y r = r y

module _ (net : Network) (wf : WellFormed net) where
  sized_op : (c : Config) (bs : List Bool) → ValidConfig net c → length bs ≡ path_length (path_in net c) → RowsFit net.nodes c → RowsFit net.nodes (csu (path_in net c) bs c)
  sized_op c bs v l z = record { rows = length_csu (path_in net c) bs c ∙ z.rows; each = λ s. go s (on (path_in net c) s) refl }
    where
      go : (s : ℕ) (t : Bool) → on (path_in net c) s ≡ t → length (at (csu (path_in net c) bs c) s []) ≡ len_of (at net.nodes s no_node)
      go s false o = ap length (csu_off (path_in net c) bs c s o) ∙ z.each s
      go s true o =
          let f = falls_in net wf c v in
          let r = on_range net.nodes (suc net.out) (path_in net c) s f o in
          let e : net.out ≤ length net.nodes = wf.ends in
          ap length (csu_on (path_in net c) bs c s (share (path_in net c) (map some bs) s) r.0 (omega (arith, r.1, z.rows)) o refl)
          ∙ share_length net.nodes (suc net.out) (path_in net c) (map some bs) s f (length-map bs some ∙ l) o

  sized_after : (plan : Plan) (c : Config) → ValidFrom net c plan → RowsFit net.nodes c → RowsFit net.nodes (config_after net c plan)
  unfolding config_after
  sized_after [] c v z = z
  sized_after (bs ∷ plan) c v z = sized_after plan (csu (path_in net c) bs c) v.2 (sized_op c bs v.0 v.1 z)

  pub left_sized : (plan : Plan) → ValidFrom net net.start plan → RowsFit net.nodes (left_by net plan)
  left_sized plan v = sized_after plan net.start v (start_sized net wf)

-- ---- going on from there

module _ (net : Network) where
  -- "the last included"
  pub valid_last : (plan : Plan) (c : Config) → ValidFrom net c plan → ValidConfig net (config_after net c plan)
  unfolding config_after
  valid_last [] c v = v
  valid_last (bs ∷ plan) c v = valid_last plan (csu (path_in net c) bs c) v.2

  pub config_joined : (plan plan' : Plan) (c : Config) → config_after net c (plan ++ plan') ≡ config_after net (config_after net c plan) plan'
  unfolding config_after
  config_joined [] plan' c = refl
  config_joined (bs ∷ plan) plan' c = config_joined plan plan' (csu (path_in net c) bs c)

  pub paths_joined : (plan plan' : Plan) (c : Config) → paths_from net c (plan ++ plan') ≡ paths_from net c plan ++ paths_from net (config_after net c plan) plan'
  unfolding config_after paths_from
  paths_joined [] plan' c = refl
  paths_joined (bs ∷ plan) plan' c = ap (λ (l : List ScanPath). path_in net c ∷ l) (paths_joined plan plan' (csu (path_in net c) bs c))

  pub valid_joined : (plan plan' : Plan) (c : Config) → ValidFrom net c plan → ValidFrom net (config_after net c plan) plan' → ValidFrom net c (plan ++ plan')
  unfolding config_after
  valid_joined [] plan' c v w = w
  valid_joined (bs ∷ plan) plan' c v w = (v.0, v.1, valid_joined plan plan' (csu (path_in net c) bs c) v.2 w)
