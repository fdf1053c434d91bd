-- What a reading says for its callers: the record of an accepted text holds the network, and its targets are segments of it.
-- Assumes nothing.
use mathlib.Core.Path.{◌≡◌, refl, sym, ap, ◌∙◌, subst}
use mathlib.Core.Bool.{true}
use mathlib.Core.List.{List, Memᴰ}
use Rattle.std.specs.Prelude.{Ok, Err}
use Prim.Native.Nat.{ℕ, zero, suc, ◌+◌, ◌≤◌, ◌<◌}
use native.Mathlib.Omega.{arith}
use native.Mathlib.Decide.{dec_lt}
use native.Mathlib.Nat.{not-suc-le-zero}
use Rattle.model.specs.Result.{ok, refused}
use Rattle.model.specs.Answers.{number_of}
use Rattle.model.specs.Text.{Bytes}
use Rattle.model.specs.Network.{Node, at, no_node, is_segment, len_of, tabulate}
use Rattle.model.specs.NetworkText.{read_network}
use Rattle.model.specs.Accepted.{Accepted}
use Rattle.model.specs.declared.refusal.Refusal.{Refusal}
use Rattle.model.proofs.Lists.{true_false}
use Rattle.model.proofs.Accepted.{accepted}
use Rattle.network_words.specs.Words.{word_width}
use Rattle.network_path.specs.Layout.{node_at, nodes_of}
use Rattle.network_path.proofs.StoredLaws.{stored_short}
use Rattle.network_path.specs.Stored.{Stored}
use Rattle.network_reader.specs.declared.reader.Filled.{Filled}
use Rattle.network_reader.specs.declared.reader.Network.{Network}
use Rattle.network_draft.specs.Represents.{stored_at, target_at}
use Rattle.network_reader.specs.Reads.{recorded_network, filled_record, RecordComplete, EndsAs, IsReading}
use Rattle.network_path.proofs.NodeLaws.{node_zero, node_beyond}
use Rattle.network_draft.proofs.TargetLaws.{fits_segment, target_names}

pub record Recorded (t : Bytes) (r : Network) : Type 0 where
  pub reads : read_network t ≡ ok (recorded_network r)
  pub filled : RecordComplete r
  pub net : Accepted (recorded_network r)
  pub stored : Stored (recorded_network r) r.nodes r.summary.count r.summary.out

pub reading_rejected : (t : Bytes) (r : Refusal) → IsReading t (Err r) → read_network t ≡ refused (number_of r.kind) r.place
reading_rejected t r is = sym is.reads

pub reading_recorded : (t : Bytes) (r : Network) → IsReading t (Ok r) → Recorded t r
reading_recorded t r is =
    let a = accepted t (recorded_network r) (sym is.reads) in
    record { reads = sym is.reads; filled = is.filled; net = a; stored = record { nodes = refl; feeds = refl; most = is.filled.in_limits.nodes_fit; formed = a.wf } }

-- the same of the arrays that a text was read into
pub filled_recorded : (t : Bytes) (ns bits known steering : List ℕ) (f : Filled) → EndsAs ns bits known steering (read_network t) (Ok f) → Recorded t (filled_record ns bits known steering f)
filled_recorded t ns bits known steering f ends = reading_recorded t _ record { reads = ends.reads; filled = ends.filled }

-- ---- targets

tabulate_in : {A : Type 0} (f : ℕ → A) (i n j : ℕ) → j < n → Memᴰ (f (i + j)) (tabulate f i n)
tabulate_in f i zero j l = absurd (not-suc-le-zero l)
tabulate_in f i (suc n) zero l = Memᴰ.head (ap f (let z : i + 0 ≡ i = omega arith in z))
tabulate_in f i (suc n) (suc j) l =
    let z : suc i + j ≡ i + suc j = omega arith in
    Memᴰ.tail (subst (λ (k : ℕ). Memᴰ (f k) (tabulate f (suc i) n)) z (tabulate_in f (suc i) n j (omega arith)))

pub record TargetSegment (ns : List ℕ) (count s : ℕ) : Type 0 where
  pub least : 1 ≤ s
  pub most : s ≤ count
  pub short : len_of (node_at ns s) ≤ word_width

module _ (t : Bytes) (r : Network) (c : Recorded t r) where
  abbrev ns : List Node
  ns = nodes_of r.nodes r.summary.count

  target_is : (i : ℕ) → i < r.summary.target_count → is_segment (at ns (stored_at r.summary i).segment no_node) ≡ true
  target_is i lt =
      let m = tabulate_in (target_at r.nodes r.summary) 0 r.summary.target_count i lt in
      let z : 0 + i ≡ i = omega arith in
      let f = fits_segment ns (target_at r.nodes r.summary (0 + i)) (c.net.targets_fit.fits _ m) in
      ap (λ (k : ℕ). is_segment (at ns k no_node)) (ap (λ (k : ℕ). (stored_at r.summary k).segment) (sym z) ∙ sym (target_names r.nodes r.summary (0 + i))) ∙ f

  pub target_segment_law : (i : ℕ) → i < r.summary.target_count → TargetSegment r.nodes r.summary.count (stored_at r.summary i).segment
  target_segment_law i lt = by (stored_at r.summary i).segment (target_is i lt)
    where
      by : (s : ℕ) → is_segment (at ns s no_node) ≡ true → TargetSegment r.nodes r.summary.count s
      by s e = go (dec_lt s 1) (dec_lt r.summary.count s)
        where
          go : Dec (s < 1) → Dec (r.summary.count < s) → TargetSegment r.nodes r.summary.count s
          go (yes h) d = absurd (true_false (sym e ∙ ap is_segment (node_zero r.nodes r.summary.count s h)))
          go (no h) (yes l) = absurd (true_false (sym e ∙ ap is_segment (node_beyond r.nodes r.summary.count s l)))
          go (no h) (no l) = record { least = omega arith; most = omega arith; short = stored_short _ _ _ _ c.stored s (omega arith) (omega arith) }
