-- Document 02, Change 3: `carry` prints exactly where the mark passes, and then the lines of the configuration that was left.
-- Assumes nothing.
use mathlib.Core.Path.{◌≡◌, refl, sym, ap, ◌∙◌, subst}
use mathlib.Core.List.{[]}
use Prim.Native.Nat.{ℕ, suc, ◌+◌, ◌≤◌}
use native.Mathlib.Omega.{arith}
use lib.ListN.{length, get_or}
use Rattle.model.specs.Mark.{Pass, mark_plan, mark}
use Rattle.model.specs.Network.{Network, at, no_node, len_of}
use Rattle.model.specs.NetworkText.{read_network}
use Rattle.model.specs.Plan.{Plan, ValidPlan}
use Rattle.model.specs.PlanText.{read_plan}
use Rattle.model.specs.Result.{Result, ok, refused, and_then}
use Rattle.model.specs.Text.{Bytes}
use Rattle.model.proofs.Accepted.{accepted}
use Rattle.model.proofs.Lists.{not_ok, ok_is, handed}
use Rattle.model.proofs.Validity.{passed_valid}
use Rattle.carry_model.specs.Carry.{config_text, left_by, carry, max_hold_bytes}
use Rattle.carry_model.specs.Continued.{CarryMarks}
use Rattle.carry_model.proofs.HoldText.{hold_bytes}
use Rattle.carry_model.proofs.LeftConfig.{left_sized}

-- what `carry` prints of a network and a plan, by the mark
abbrev pub carried_by : Network → Plan → Result Pass → Result Bytes
carried_by net plan r = and_then r (λ pass. ok (config_text net (left_by net plan)))

-- ---- the verdict is the mark's

-- the same refusals, and results together
record Alike (r : Result Pass) (q : Result Bytes) : Type 0 where
  there : (pass : Pass) × (r ≡ ok pass) → (held : Bytes) × (q ≡ ok held)
  back : (held : Bytes) × (q ≡ ok held) → (pass : Pass) × (r ≡ ok pass)
  refuses : (number place : ℕ) → (r ≡ refused number place → q ≡ refused number place) × (q ≡ refused number place → r ≡ refused number place)

alike_refused : (a b : ℕ) → Alike (refused a b) (refused a b)
alike_refused a b = record { there = λ x. absurd (not_ok x.1); back = λ x. absurd (not_ok x.1); refuses = λ number place. (λ e. cc, λ e. cc) }

by_mark : (net : Network) (plan : Plan) (r : Result Pass) → Alike r (carried_by net plan r)
by_mark net plan (refused a b) = alike_refused a b
by_mark net plan (ok pass) = record {
  there = λ x. (config_text net (left_by net plan), refl);
  back = λ x. (pass, refl);
  refuses = λ number place. (λ e. absurd (not_ok (sym e)), λ e. absurd (not_ok (sym e)));
}

by_plan : (net : Network) (r : Result Plan) → Alike (and_then r (mark_plan net)) (and_then r (λ plan. carried_by net plan (mark_plan net plan)))
by_plan net (refused a b) = alike_refused a b
by_plan net (ok plan) = by_mark net plan (mark_plan net plan)

by_network : (p : Bytes) (r : Result Network)
    → Alike (and_then r (λ net. and_then (read_plan p) (mark_plan net))) (and_then r (λ net. and_then (read_plan p) (λ plan. carried_by net plan (mark_plan net plan))))
by_network p (refused a b) = alike_refused a b
by_network p (ok net) = by_plan net (read_plan p)

pub carried_as_marked : CarryMarks
unfolding carry mark
carried_as_marked n p = let a = by_network p (read_network n) in record { passes = (a.there, a.back); refuses = a.refuses }

-- ---- what is printed

pub record Carried (net : Network) (plan : Plan) (held : Bytes) : Type 0 where
  pub pass : Pass
  pub marks : mark_plan net plan ≡ ok pass
  pub valid : ValidPlan net plan
  pub text : held ≡ config_text net (left_by net plan)

pub carried_of : (n p held : Bytes) (net : Network) (plan : Plan) → carry n p ≡ ok held → read_network n ≡ ok net → read_plan p ≡ ok plan → Carried net plan held
unfolding carry
carried_of n p held net plan e is reads =
    let prints : Network → Plan → Result Bytes = λ w q. carried_by w q (mark_plan w q) in
    let f : prints net plan ≡ ok held = ap (λ (r : Result Plan). and_then r (prints net)) (sym reads) ∙ ap (λ (r : Result Network). and_then r (λ w. and_then (read_plan p) (prints w))) (sym is) ∙ e in
    let h = handed (mark_plan net plan) _ held f in
    record { pass = h.value; marks = h.given; valid = passed_valid net plan h.value h.given; text = sym (ok_is h.then) }

-- it has at most 5,280 bytes
pub left_bytes : (n : Bytes) (net : Network) (plan : Plan) → read_network n ≡ ok net → ValidPlan net plan → length (config_text net (left_by net plan)) ≤ max_hold_bytes
left_bytes n net plan is v =
    let a = accepted n net is in
    let z = left_sized net a.wf plan v.valid in
    let few = a.few_nodes in
    let bits = a.few_bits in
    let b = hold_bytes (left_by net plan) 1 net.nodes
    (λ j l. let q : suc j ≡ 1 + j = omega arith in subst (λ (k : ℕ). length (at (left_by net plan) k []) ≡ len_of (get_or net.nodes j no_node)) q (z.each (suc j))) (omega arith) in
    omega arith

pub carried_bytes : (n p held : Bytes) → carry n p ≡ ok held → length held ≤ max_hold_bytes
unfolding carry
carried_bytes n p held e =
    let a = handed (read_network n) _ held e in
    let b = handed (read_plan p) _ held a.then in
    let c = handed (mark_plan a.value b.value) _ held b.then in
    subst (λ (t : Bytes). length t ≤ max_hold_bytes) (ok_is c.then) (left_bytes n a.value b.value a.given (passed_valid a.value b.value c.value c.given))
