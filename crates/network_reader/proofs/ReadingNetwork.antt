-- Laws of the whole text: the empty arrays represent no lines, and what each ending says of `read_network`.
-- Assumes nothing.
use mathlib.Core.Path.{◌≡◌, refl, sym, ap, ◌∙◌, subst}
use mathlib.Core.Bool.{Bool, true, false}
use Rattle.std.specs.Prelude.{Some as some, Result as Answer, Ok, Err}
use mathlib.Core.List.{List, []}
use Prim.Native.Nat.{ℕ, zero, suc, ◌+◌, ◌*◌, ◌≤◌, ◌<◌}
use native.Mathlib.Omega.{arith}
use lib.ListN.{length, get_or, replicate, length-replicate}
use borrow.Author.Tests.{lt-ltb, le-ltb}
use Rattle.model.specs.Limits.{max_len}
use Rattle.model.specs.Result.{Result, ok, refused, refuse_if}
use Rattle.model.specs.Answers.{number_of}
use Rattle.model.specs.Text.{Bytes, parts, line_end}
use Rattle.model.specs.Network.{Node, Config, Target, at, no_node, Network as ModelNetwork, total_bits, steers, held_or, start_of}
use Rattle.model.specs.Path.{Walk, walk, path_of, path_in, path_length}
use Rattle.model.specs.NetworkText.{Draft, has_out, no_lines, is_held, network_of, if_starts, finish, read_lines, read_network}
use Rattle.model.specs.declared.refusal.Refusal.{Refusal}
use Rattle.model.proofs.Accepted.{draft_formed}
use Rattle.model.proofs.Reading.{sound_start}
use Rattle.network_words.specs.Words.{word_width, word_bit, word_of_bits}
use Rattle.network_path.specs.Layout.{nodes_of, config_of}
use Rattle.network_path.specs.Answers.{Walked, FindsPath, Walkable, told, WalkHeld}
use Rattle.network_path.specs.declared.walk.PathSize.{PathSize}
use Rattle.network_words.proofs.WordLaws.{zero_bit}
use Rattle.network_path.specs.Stored.{Stored}
use Rattle.network_path.proofs.StoredLaws.{stored_walkable, found_walk}
use Rattle.network_draft.specs.declared.store.Summary.{Summary}
use Rattle.network_draft.specs.declared.store.Target.{Target as StoredTarget}
use Rattle.network_reader.specs.declared.reader.Filled.{Filled}
use Rattle.network_reader.specs.declared.reader.Network.{Network}
use Rattle.network_draft.specs.Numbers.{numbers_for, no_target, stored_target, TargetsStored}
use Rattle.network_draft.specs.Represents.{feeds_of, Short, Arrays, arrays, Represents, empty_summary}
use Rattle.network_reader.specs.Start.{StartFilled}
use Rattle.network_reader.specs.Counts.{count_from}
use Rattle.network_reader.specs.Reads.{Lined, finish_of, LinesRead, recorded_network as recorded, record_of, Uncounted, uncounted, EndsAs, Begun, StartWalked, AllZero}
use Rattle.model.proofs.Lists.{zero_at}
use Rattle.network_draft.proofs.Representing.{represented_out, represented_words}
use Rattle.network_reader.proofs.Counting.{counts_steering}
use Rattle.network_reader.proofs.Starting.{start_config}
use Rattle.network_reader.proofs.StartWords.{start_bits_law, start_known}

-- ---- no lines

no_numbers : (k i : ℕ) → 0 ≡ get_or (numbers_for (at [] k no_node)) i 0
no_numbers zero i = sym (zero_at 8 i)
no_numbers (suc k) i = sym (zero_at 8 i)

-- no target is stored
no_stored : (n i : ℕ) → get_or (replicate n (stored_target no_target)) i (stored_target no_target) ≡ stored_target no_target
no_stored zero i = refl
no_stored (suc n) zero = refl
no_stored (suc n) (suc i) = no_stored n i

represents_none : Represents (arrays (replicate 1032 0) (replicate 129 0) (replicate 129 0) (replicate 129 0) (replicate 129 0)) empty_summary no_lines 1
unfolding total_bits steers is_held held_or word_of_bits
represents_none = record {
  sized = record {
    nodes = length-replicate {A = ℕ} 1032 0;
    bit_words = length-replicate {A = ℕ} 129 0;
    known_words = length-replicate {A = ℕ} 129 0;
    steering_words = length-replicate {A = ℕ} 129 0;
    held_flags = length-replicate {A = ℕ} 129 0;
  };
  in_limits = record { nodes_fit = omega arith; bits_fit = omega arith; targets_fit = omega arith; targets_room = refl };
  nodes_are = refl;
  numbers_are = λ k i h. zero_at 1032 (k * 8 + i) ∙ no_numbers k i;
  total_is = refl;
  out_is = refl;
  targets_are = refl;
  numbers_of_targets = no_stored 4;
  steering_is = λ s b l m. ap (λ (x : ℕ). word_bit x b) (zero_at 129 s) ∙ zero_bit b;
  steering_small = λ r. rw (zero_at 129 r) (omega arith);
  flag_is = λ s l. zero_at 129 s;
  start_is = λ s l other. rw (zero_at 129 s) refl;
  bits_are = λ s. zero_at 129 s;
  known_are = λ s. zero_at 129 s;
  sound = sound_start;
}

pub represents_zero : (ns bits known steering : List ℕ) → AllZero ns bits known steering → Represents (arrays ns bits known steering (replicate 129 0)) empty_summary no_lines 1
represents_zero ns bits known steering z = rw (z.nodes_are, z.bits_are, z.known_are, z.steering_are) represents_none

-- ---- the endings

-- a refusal
pub ends_refused : (ns bits known steering : List ℕ) (x : Result ModelNetwork) (r : Refusal) → x ≡ refused (number_of r.kind) r.place → EndsAs ns bits known steering x (Err r)
ends_refused ns bits known steering x r e = record { reads = sym e; filled = tt }

module _ (t : Bytes) where
  pub too_long : 16384 < length t → read_network t ≡ refused 3 0
  unfolding read_network
  too_long l = ap (λ (b : Bool). refuse_if b 3 0 (finish_of (read_lines max_len no_lines 1 (parts line_end t)))) (lt-ltb 16384 (length t) l)

  pub of_lines : length t ≤ 16384 → read_network t ≡ finish_of (read_lines max_len no_lines 1 (parts line_end t))
  unfolding read_network
  of_lines l = ap (λ (b : Bool). refuse_if b 3 0 (finish_of (read_lines max_len no_lines 1 (parts line_end t)))) (le-ltb 16384 (length t) l)

  -- ---- behind the lines, an `out` line among them

  module _ (short : length t ≤ 16384) (a : Arrays) (y : Summary) (w : Lined t a y) (bits' known' : List ℕ) (f : StartFilled a y.count bits' known') where
    pub begun : Begun (uncounted a.nodes bits' known' a.steering y) w.draft w.next
    begun = record { bits₀ = a.bits; known₀ = a.known; held = a.held; represented = w.represented; fed = w.fed; filled = f }

    pub start_ends : (r : Answer Filled Refusal) → StartWalked (uncounted a.nodes bits' known' a.steering y) r → EndsAs a.nodes bits' known' a.steering (read_network t) r
    start_ends r s =
        subst (λ (x : Result ModelNetwork). EndsAs a.nodes bits' known' a.steering x r)
        (sym (of_lines short ∙ ap finish_of w.lines)) (s w.draft w.next begun)

-- ---- the start, for a text with an `out` line

module _ {u : Uncounted} {d : Draft} {n : ℕ} (b : Begun u d n) where
  abbrev ns : List ℕ
  ns = u.nodes

  abbrev y : Summary
  y = u.summary

  abbrev w : Represents (arrays ns b.bits₀ b.known₀ u.steering b.held) y d n
  w = b.represented

  fed : d.feeds ≡ some y.out
  fed = sym w.out_is ∙ ap (λ (x : Bool). feeds_of x y.out) b.fed

  -- the arrays hold the network of the draft
  stored : Stored (network_of d y.out) ns y.count y.out
  stored = record { nodes = sym w.nodes_are; feeds = refl; most = w.in_limits.nodes_fit; formed = draft_formed d n y.out w.sound fed }

  -- what the calls for the start ask
  pub start_walkable : (way : List ℕ) → length way ≡ 128 → Walkable ns y.out way 0
  start_walkable = stored_walkable (network_of d y.out) ns y.count y.out stored

  pub start_short : (y.count ≤ 128) × Short ns y.count
  start_short = (w.in_limits.nodes_fit, represented_words w)

  its_out : has_out d ≡ true
  its_out = represented_out w ∙ b.fed

  start_is : config_of ns u.bits u.known y.count ≡ start_of d.nodes d.resets d.holds
  start_is = start_config w its_out b.filled

  module _ (r : Walked) (way : List ℕ) (found : FindsPath ns u.bits u.known y.out r way) where
    start_walk : walk (network_of d y.out) (network_of d y.out).start ≡ told ns way r
    start_walk =
        ap (walk (network_of d y.out)) (sym start_is)
        ∙ found_walk (network_of d y.out) ns y.count y.out stored u.bits u.known r way found

    pub finished : finish n d d.feeds ≡ if_starts (network_of d y.out) (told ns way r)
    finished = ap (finish n d) fed ∙ ap (if_starts (network_of d y.out)) start_walk

  -- "start setting is not valid"
  pub start_stops : (way : List ℕ) (m : ℕ) → FindsPath ns u.bits u.known y.out (Err m) way → finish n d d.feeds ≡ refused 9 m
  start_stops way m found = finished (Err m) way found

  module _ (way : List ℕ) (size : PathSize) (found : FindsPath ns u.bits u.known y.out (Ok size) way) (count : ℕ) where
    abbrev Written : Network
    Written = record_of u count size.bits

    recorded_is : network_of d y.out ≡ recorded Written
    recorded_is =
        ap (λ (c : Config). record { nodes = d.nodes; out = y.out; start = c; targets = d.targets }) (sym start_is)
        ∙ ap (λ (l : List Node). record { nodes = l; out = y.out; start = config_of ns u.bits u.known y.count; targets = d.targets }) (sym w.nodes_are)
        ∙ ap (λ (l : List Target). record { nodes = nodes_of ns y.count; out = y.out; start = config_of ns u.bits u.known y.count; targets = l }) (sym w.targets_are)

    same_steering : (s b : ℕ) → s ≤ 128 → b < word_width → word_bit (get_or u.steering s 0) b ≡ steers (nodes_of ns y.count) s b
    same_steering s b l m = w.steering_is s b l m ∙ ap (λ (x : List Node). steers x s b) (sym w.nodes_are)

    pub start_recorded : count ≡ count_from ns u.steering 1 y.count
        → EndsAs ns u.bits u.known u.steering (finish n d d.feeds) (Ok record { summary = y; steering_count = count; start_length = size.bits })
    start_recorded a = record {
      reads = sym (finished (Ok size) way found ∙ ap ok recorded_is);
      filled = record {
        nodes_size = w.sized.nodes;
        bits_size = b.filled.bits_size ∙ w.sized.bit_words;
        known_size = b.filled.known_size ∙ w.sized.known_words;
        steering_size = w.sized.steering_words;
        in_limits = w.in_limits;
        has_out_law = b.fed;
        numbers_are = λ k i h. w.numbers_are k i h ∙ ap (λ (x : List Node). get_or (numbers_for (at x k no_node)) i 0) (sym w.nodes_are);
        bits_are = start_bits_law w its_out b.filled;
        known_are = start_known w its_out b.filled;
        numbers_of_targets = subst (TargetsStored y) (sym w.targets_are) w.numbers_of_targets;
        steering_is = same_steering;
        steering_small = w.steering_small;
        totals = w.total_is ∙ ap total_bits (sym w.nodes_are);
        counted = a ∙ counts_steering ns u.steering y.count start_short.0 start_short.1 same_steering;
        start_long = found.holds.1 ∙ ap (λ (x : Walk). path_length (path_of x)) (sym (start_walk (Ok size) way found)) ∙ ap (λ (net : ModelNetwork). path_length (path_in net net.start)) recorded_is;
      };
    }
