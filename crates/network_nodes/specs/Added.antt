-- What adding a node line or the `out` line answers.
-- Assumes nothing.
use Rattle.std.specs.Prelude.{◌≡◌, true, List, [], ℕ, suc, Result as Answer}
use Rattle.model.specs.Limits.{max_len}
use Rattle.model.specs.Text.{Bytes, trit, bits_from}
use Rattle.model.specs.NetworkText.{Draft, is_some, add_node, add_out}
use Rattle.model.specs.declared.refusal.Refusal.{Refusal}
use Rattle.network_line.specs.declared.NodeData.{NodeData}
use Rattle.network_line.specs.Line.{node_for, reset_in}
use Rattle.network_draft.specs.declared.store.Summary.{Summary}
use Rattle.network_draft.specs.Represents.{Arrays, arrays, Represents, Agrees}

abbrev pub NodeAdded : Arrays → Summary → ℕ → NodeData → Bytes → Answer Summary Refusal → Arrays → Type 0
NodeAdded a t n x f r b =
    (d : Draft) → is_some (bits_from trit [] f) ≡ true → Represents a t d n
    → Agrees (λ t' e. Represents b t' e (suc n)) (add_node max_len d n (node_for x) (reset_in f)) r

abbrev pub OutAdded : List ℕ → Summary → ℕ → ℕ → Answer Summary Refusal → Type 0
OutAdded ns t n k r =
    (bits known steering held : List ℕ) (d : Draft) → Represents (arrays ns bits known steering held) t d n
    → Agrees (λ t' e. Represents (arrays ns bits known steering held) t' e (suc n)) (add_out d n k) r
