-- What the reader answers.
-- Assumes nothing.
use Rattle.std.specs.Prelude.{◌≡◌, true, List, [], ℕ, suc, ◌≤◌, ◌<◌, length, get_or, replicate, Result as Answer, Ok, Err, IfOk}
use Rattle.model.specs.Limits.{max_nodes, max_len}
use Rattle.model.specs.Result.{Result, ok, refused, and_then}
use Rattle.model.specs.Answers.{number_of, answer}
use Rattle.model.specs.Text.{Bytes, parts, line_end}
use Rattle.model.specs.Network.{Network as ModelNetwork, at, total_bits, steers, steering_bits}
use Rattle.model.specs.Path.{path_in, path_length}
use Rattle.model.specs.NetworkText.{Draft, no_lines, line_of, add_line, read_lines, finish, read_network}
use Rattle.model.specs.declared.refusal.Refusal.{Refusal}
use Rattle.network_words.specs.Words.{word_width, word_bit, bits_word, known_word}
use Rattle.network_path.specs.Layout.{nodes_of, config_of, node_fields, node_numbers}
use Rattle.network_draft.specs.declared.store.Summary.{Summary}
use Rattle.network_reader.specs.declared.reader.Filled.{Filled}
use Rattle.network_reader.specs.declared.reader.Network.{Network}
use Rattle.network_draft.specs.Store.{Small}
use Rattle.network_draft.specs.Numbers.{NodesStored, TargetsStored}
use Rattle.network_draft.specs.Represents.{Arrays, arrays, Represents, Agrees, InLimits, targets_of}
use Rattle.network_reader.specs.Start.{StartFilled}

-- ---- one line, and the lines in turn

-- line n leaves the arrays b
abbrev pub LineAdded : Arrays → Summary → Bytes → ℕ → Answer Summary Refusal → Arrays → Type 0
LineAdded a t line n r b = (d : Draft) → Represents a t d n → Agrees (λ t' e. Represents b t' e (suc n)) (add_line max_len d n (line_of line)) r

-- what the model makes of the lines
abbrev pub finish_of : Result (ℕ × Draft) → Result ModelNetwork
finish_of a = and_then a (λ r. finish r.0 r.1 r.1.feeds)

-- the lines, an `out` line among them, leave this draft in the arrays
pub record Lined (t : Bytes) (a : Arrays) (y : Summary) : Type 0 where
  pub draft : Draft
  pub next : ℕ
  pub lines : read_lines max_len no_lines 1 (parts line_end t) ≡ ok (next, draft)
  pub represented : Represents a y draft next
  pub fed : y.has_out ≡ true

abbrev pub LinesRead : Bytes → Answer Summary Refusal → Arrays → Type 0
LinesRead t (Ok y) a = Lined t a y
LinesRead t (Err r) a = finish_of (read_lines max_len no_lines 1 (parts line_end t)) ≡ refused (number_of r.kind) r.place

-- ---- the record

-- the network that a record is
abbrev pub recorded_network : Network → ModelNetwork
recorded_network r = record {
  nodes = nodes_of r.nodes r.summary.count;
  out = r.summary.out;
  start = config_of r.nodes r.bits r.known r.summary.count;
  targets = targets_of r.nodes r.summary;
}

-- what an accepted record has besides: the sizes of the arrays, each number of a node, each word and each number of a target by
-- the network, and three counts. Nothing of the record is free.
pub record RecordComplete (r : Network) : Type 0 where
  pub nodes_size : length r.nodes ≡ node_fields
  pub bits_size : length r.bits ≡ node_numbers
  pub known_size : length r.known ≡ node_numbers
  pub steering_size : length r.steering ≡ node_numbers
  pub in_limits : InLimits r.summary
  pub has_out_law : r.summary.has_out ≡ true
  pub numbers_are : NodesStored r.nodes (recorded_network r).nodes
  pub bits_are : (s : ℕ) → get_or r.bits s 0 ≡ bits_word (at (recorded_network r).start s [])
  pub known_are : (s : ℕ) → get_or r.known s 0 ≡ known_word (at (recorded_network r).start s [])
  pub numbers_of_targets : TargetsStored r.summary (recorded_network r).targets
  pub steering_is : (s b : ℕ) → s ≤ max_nodes → b < word_width → word_bit (get_or r.steering s 0) b ≡ steers (nodes_of r.nodes r.summary.count) s b
  pub steering_small : Small r.steering
  pub totals : r.summary.total ≡ total_bits (recorded_network r).nodes
  pub counted : r.steering_count ≡ length (steering_bits (recorded_network r).nodes)
  pub start_long : r.start_length ≡ path_length (path_in (recorded_network r) (recorded_network r).start)

-- ---- what follows the lines

-- the record but for its last two counts
pub record Uncounted : Type 0 where
  pub nodes : List ℕ
  pub bits : List ℕ
  pub known : List ℕ
  pub steering : List ℕ
  pub summary : Summary

abbrev pub uncounted : List ℕ → List ℕ → List ℕ → List ℕ → Summary → Uncounted
uncounted ns bits known steering t = record { nodes = ns; bits = bits; known = known; steering = steering; summary = t }

abbrev pub record_of : Uncounted → ℕ → ℕ → Network
record_of u count len = record { nodes = u.nodes; bits = u.bits; known = u.known; steering = u.steering; summary = u.summary; steering_count = count; start_length = len }

-- the record of the arrays and of what a text leaves beside them
abbrev pub filled_record : List ℕ → List ℕ → List ℕ → List ℕ → Filled → Network
filled_record ns bits known steering f = record_of (uncounted ns bits known steering f.summary) f.steering_count f.start_length

-- an answer that agrees with the model's: the refusal, or the record's other parts
pub record EndsAs (ns bits known steering : List ℕ) (x : Result ModelNetwork) (r : Answer Filled Refusal) : Type 0 where
  pub reads : answer (λ f. recorded_network (filled_record ns bits known steering f)) r ≡ x
  pub filled : IfOk r (λ f. RecordComplete (filled_record ns bits known steering f))

-- behind the lines, which have an `out` line, the start bits are filled
pub record Begun (u : Uncounted) (d : Draft) (n : ℕ) : Type 0 where
  pub bits₀ : List ℕ
  pub known₀ : List ℕ
  pub held : List ℕ
  pub represented : Represents (arrays u.nodes bits₀ known₀ u.steering held) u.summary d n
  pub fed : u.summary.has_out ≡ true
  pub filled : StartFilled (arrays u.nodes bits₀ known₀ u.steering held) u.summary.count u.bits u.known

abbrev pub StartWalked : Uncounted → Answer Filled Refusal → Type 0
StartWalked u r = (d : Draft) (n : ℕ) → Begun u d n → EndsAs u.nodes u.bits u.known u.steering (finish n d d.feeds) r

-- ---- the whole text

-- the arrays that a text is read into
pub record AllZero (ns bits known steering : List ℕ) : Type 0 where
  pub nodes_are : ns ≡ replicate node_fields 0
  pub bits_are : bits ≡ replicate node_numbers 0
  pub known_are : known ≡ replicate node_numbers 0
  pub steering_are : steering ≡ replicate node_numbers 0

-- the record, or number and place of the refusal
pub record IsReading (t : Bytes) (r : Answer Network Refusal) : Type 0 where
  pub reads : answer recorded_network r ≡ read_network t
  pub filled : IfOk r RecordComplete
