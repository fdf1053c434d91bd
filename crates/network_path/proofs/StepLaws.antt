-- Laws of one step of the walk: the node that a node leads to.
-- Assumes nothing.
use mathlib.Core.Path.{◌≡◌, sym, ap, ◌∙◌}
use Rattle.std.specs.Prelude.{Option, None as none, Some as some, option_map}
use mathlib.Core.List.{List}
use Prim.Native.Nat.{ℕ, ◌+◌, ◌<◌, ◌≤◌}
use native.Mathlib.Nat.{zero-add}
use native.Mathlib.Omega.{arith}
use lib.ListN.{length, get_or}
use Rattle.std.specs.Prelude.{slice_get}
use Rattle.model.specs.Path.{pick}
use Rattle.model.proofs.Lists.{length_tabulate}
use Rattle.network_path.specs.Layout.{field_at, inputs_at, node_at, look_in}
use Rattle.network_path.specs.Answers.{address_of_words, step_of}
use Rattle.network_path.specs.declared.walk.Step.{Step}
use Rattle.network_path.specs.declared.walk.Step.TheVariants.{Segment, Input}
use Rattle.network_path.proofs.NodeLaws.{get_elem_tabulate, get_elem_beyond, segment_at_law, mux_at}

-- ---- the step

pub step_segment : (ns bits known : List ℕ) (k kind : ℕ) → kind ≡ field_at ns k 0 → kind < 2 → (r : ℕ) → r ≡ field_at ns k 1 → some (Segment r) ≡ step_of (look_in bits known) (node_at ns k)
step_segment ns bits known k kind is h r e = ap (λ (m : ℕ). some (Segment m)) e ∙ ap (step_of (look_in bits known)) (sym (segment_at_law ns k kind is h))

-- x is the step from the multiplexer k, which has the address o
pub record MuxStep (ns : List ℕ) (k kind : ℕ) (o : Option ℕ) (x : Option Step) : Type 0 where
  pub as_many : field_at ns k 0 ≡ kind
  pub step : option_map Input (pick (inputs_at ns k) o) ≡ x

-- o is the address in the words of its SEG at its BIT
pub step_mux : (ns bits known : List ℕ) (k kind : ℕ) → kind ≡ field_at ns k 0 → 2 ≤ kind → (s b : ℕ) → s ≡ field_at ns k 1 → b ≡ field_at ns k 2
    → (o : Option ℕ) → o ≡ address_of_words (get_or bits s 0) (get_or known s 0) b kind → MuxStep ns k kind o (step_of (look_in bits known) (node_at ns k))
step_mux ns bits known k kind is mux s b seg bit o e =
    let words : ℕ → ℕ → ℕ → Option ℕ = λ m j n. address_of_words (get_or bits m 0) (get_or known m 0) j n in
    let n = length (inputs_at ns k) in
    let many : kind ≡ n = is ∙ sym (length_tabulate (λ i. field_at ns k (4 + i)) 0 (field_at ns k 0)) in
    record {
      as_many = sym is;
      step = ap (λ (y : Option ℕ). option_map Input (pick (inputs_at ns k) y)) (e ∙ ap (words s b) many ∙ ap (λ (m : ℕ). words m b n) seg ∙ ap (λ (m : ℕ). words (field_at ns k 1) m n) bit)
          ∙ ap (step_of (look_in bits known)) (sym (mux_at ns k kind is mux));
    }

module _ (ns : List ℕ) (k kind : ℕ) (o : Option ℕ) (x : Option Step) (m : MuxStep ns k kind o x) where
  by_address : (y : Option ℕ) → o ≡ y → option_map Input (pick (inputs_at ns k) y) ≡ x
  by_address y e = ap (λ (y : Option ℕ). option_map Input (pick (inputs_at ns k) y)) (sym e) ∙ m.step

  pub step_unknown : o ≡ none → none ≡ x
  step_unknown e = by_address none e

  pub step_input : (i r : ℕ) → o ≡ some i → i < kind → r ≡ field_at ns k (4 + i) → some (Input r) ≡ x
  step_input i r e h q =
      let found : slice_get (inputs_at ns k) i ≡ some (field_at ns k (4 + i)) =
      get_elem_tabulate (λ i. field_at ns k (4 + i)) 0 (field_at ns k 0) i (omega (arith, m.as_many)) ∙ ap (λ (j : ℕ). some (field_at ns k (4 + j))) (zero-add i) in
      ap (λ (m : ℕ). some (Input m)) q ∙ ap (option_map Input) (sym found) ∙ by_address (some i) e

  pub step_beyond : (i : ℕ) → o ≡ some i → kind ≤ i → none ≡ x
  step_beyond i e h =
      let many = length_tabulate (λ i. field_at ns k (4 + i)) 0 (field_at ns k 0) in
      ap (option_map Input) (sym (get_elem_beyond (inputs_at ns k) i (omega (arith, m.as_many)))) ∙ by_address (some i) e
