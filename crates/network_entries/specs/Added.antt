-- What adding a `hold`, `write` or `read` line answers.
-- Assumes nothing.
use Rattle.std.specs.Prelude.{◌≡◌, Bool, true, List, [], ℕ, suc, length, Option, Some, None, Result as Answer, is_some as has}
use Rattle.std.specs.Result.{result_map_both}
use Rattle.model.specs.Network.{read, write, len_of}
use Rattle.model.specs.Text.{Bytes, trit, bit, bits_from}
use Rattle.model.specs.NetworkText.{Draft, is_some, has_out, add_hold, fits_target, add_fitting, add_target}
use Rattle.model.specs.declared.refusal.Refusal.{Refusal}
use Rattle.network_words.specs.Words.{word_of_bits}
use Rattle.network_path.specs.Layout.{node_at}
use Rattle.network_line.specs.Line.{bits_in}
use Rattle.network_draft.specs.declared.store.Summary.{Summary}
use Rattle.network_draft.specs.Represents.{arrays, Represents, Agrees, target_for}

abbrev pub HoldAdded : List ℕ → List ℕ → List ℕ → List ℕ → Summary → ℕ → ℕ → Bytes → Answer (Unit {0}) Refusal → List ℕ → List ℕ → List ℕ → Type 0
HoldAdded ns bits known held t n s f r bits' known' held' =
    (steering : List ℕ) (d : Draft) → is_some (bits_from trit [] f) ≡ true → Represents (arrays ns bits known steering held) t d n
    → Agrees (λ t' e. Represents (arrays ns bits' known' steering held') t' e (suc n)) (add_hold d n s (bits_in trit f)) (result_map_both (λ z. t) (λ e. e) r)

-- the word of a target's bits: none for `read`, and for `write` of as many bits as its segment has
abbrev pub IsWord : List ℕ → ℕ → Option ℕ → List Bool → Type 0
IsWord ns s None bs = Unit {0}
IsWord ns s (Some word) bs = (word ≡ word_of_bits bs) × (length bs ≡ len_of (node_at ns s))

abbrev pub TargetAdded : List ℕ → Summary → ℕ → ℕ → Option ℕ → Answer Summary Refusal → Type 0
TargetAdded steering t n s word r =
    (ns bits known held : List ℕ) (bs : List Bool) (d : Draft) → has_out d ≡ true → fits_target d.nodes (target_for (has word) s bs) ≡ true → IsWord ns s word bs
    → Represents (arrays ns bits known steering held) t d n
    → Agrees (λ t' e. Represents (arrays ns bits known steering held) t' e (suc n)) (add_fitting d n (target_for (has word) s bs)) r

abbrev pub ReadAdded : List ℕ → List ℕ → Summary → ℕ → ℕ → Answer Summary Refusal → Type 0
ReadAdded ns steering t n s r =
    (bits known held : List ℕ) (d : Draft) → Represents (arrays ns bits known steering held) t d n
    → Agrees (λ t' e. Represents (arrays ns bits known steering held) t' e (suc n)) (add_target d n (read s)) r

abbrev pub WriteAdded : List ℕ → List ℕ → Summary → ℕ → ℕ → Bytes → Answer Summary Refusal → Type 0
WriteAdded ns steering t n s f r =
    (bits known held : List ℕ) (d : Draft) → is_some (bits_from bit [] f) ≡ true → Represents (arrays ns bits known steering held) t d n
    → Agrees (λ t' e. Represents (arrays ns bits known steering held) t' e (suc n)) (add_target d n (write s (bits_in bit f))) r
