-- The targets after the operations.
-- Assumes nothing.
use Rattle.std.specs.Prelude.{◌≡◌, Bool, List, [], ◌∷◌, ◌++◌, ℕ, suc, ◌≤◌, ◌<◌, get_or}
use Rattle.std.specs.Prelude.{Result as Answer}
use Rattle.model.specs.declared.refusal.Refusal.{Refusal}
use Rattle.model.specs.Result.{ok, and_then}
use Rattle.model.specs.Network.{len_of, tabulate}
use Rattle.model.specs.Path.{ScanPath}
use Rattle.model.specs.Mark.{holds_bits, targets_from}
use Rattle.network_words.specs.Words.{word_width, word_bit, trits_of}
use Rattle.network_path.specs.Layout.{node_at}
use Rattle.network_path.specs.Answers.{ConfigSized}
use Rattle.network_draft.specs.declared.store.Summary.{Summary}
use Rattle.network_draft.specs.Represents.{InLimits, targets_of}
use Rattle.marker_operations.specs.Operations.{Reached, Marking, config_at, segment_at}
use Rattle.marker_targets.specs.declared.Got.{Got}
use Rattle.marker_targets.specs.declared.Gots.{Gots}
use Rattle.marker_targets.specs.declared.Pass.{Pass}
use Rattle.marker_targets.specs.Answers.{got_of, gots_of, ZerosBehind, mark_of}

-- ---- rows

pub record Pushed (old : Gots) (row : Got) (new : Gots) : Type 0 where
  pub rows : gots_of new ≡ gots_of old ++ got_of row ∷ []
  pub counts : new.count ≡ suc old.count
  pub blank : ZerosBehind new

-- ---- the judgement

-- what it asks: targets are segments of the network, no longer than a word
pub record Judgeable (ns : List ℕ) (t : Summary) (bits known : List ℕ) : Type 0 where
  pub in_limits : InLimits t
  pub sized : ConfigSized bits known
  pub least : (i : ℕ) → i < t.target_count → 1 ≤ segment_at t.targets i
  pub most : (i : ℕ) → i < t.target_count → segment_at t.targets i ≤ t.count
  pub short : (i : ℕ) → i < t.target_count → len_of (node_at ns (segment_at t.targets i)) ≤ word_width

-- segment s holds the bits of a word
abbrev pub segment_held : List ℕ → List ℕ → List ℕ → ℕ → ℕ → Bool
segment_held ns bits known s want =
    let len = len_of (node_at ns s) in
    holds_bits (trits_of len (get_or bits s 0) (get_or known s 0)) (tabulate (word_bit want) 0 len)

-- what it answers: the pass or the refusal for the targets after operations with any paths that its first operations tell of
abbrev pub Judges : List ℕ → Summary → Marking → ℕ → ℕ → Answer Pass Refusal → Type 0
Judges ns t m operations clocks r =
    (ps : List ScanPath) → Reached t m.met ps
    → mark_of r ≡ and_then (targets_from 1 ps (config_at ns t m) (targets_of ns t)) (λ gs. ok record { operations = operations; clocks = clocks; gots = gs })
