-- The counts that a text of clocks may be refused for, by TMS alone; proofs/Counts.antt has why they are the follower's.
-- Assumes nothing.
use Rattle.std.specs.Prelude.{◌≡◌, Bool, false, cond, ◌||◌, List, [], ◌∷◌, ℕ, ◌+◌, ◌*◌, eqb, ltb}
use Rattle.std.specs.Prelude.{Option, None as none, Some as some}
use Rattle.model.specs.Limits.{max_operations, max_plan_bytes}
use Rattle.model.specs.Tap.{captureDR, shiftDR, selectIR, state_number}
use Rattle.recover_model.specs.RecoverCalls.{Progress}
use Rattle.clock_writer.specs.Machine.{state_code, next_number}
use Rattle.clock_follower.specs.declared.Progress.{Progress as Kept}

abbrev pub progress_for : Kept → Progress
progress_for p = record { lines = p.lines; state = state_code p.state; entries = p.entries; plan_bytes = p.bytes }

-- after so many clocks in its state, the last of which leads to state t: "5 for each entry, 1 for each bit"
abbrev pub moved_on : Progress → ℕ → ℕ → Progress
moved_on p count t = record {
  lines = p.lines;
  state = t;
  entries = p.entries + cond (eqb t (state_number captureDR)) 1 0;
  plan_bytes = p.plan_bytes + (5 * cond (eqb t (state_number captureDR)) 1 0 + cond (eqb p.state (state_number shiftDR)) count 0);
}

abbrev pub offending : Progress → Bool
offending p = eqb p.state (state_number selectIR) || ltb max_operations p.entries || ltb max_plan_bytes p.plan_bytes

abbrev pub unless_offending : Progress → Option Progress
unless_offending q = cond (offending q) none (some q)

-- clocks in a state that lead to state t have no bits, and lead neither to Capture-DR nor to Select-IR
pub record CountsNothing (state t : ℕ) : Type 0 where
  pub no_bits : eqb state (state_number shiftDR) ≡ false
  pub no_entry : eqb t (state_number captureDR) ≡ false
  pub no_ir : eqb t (state_number selectIR) ≡ false

-- clock by clock, by TMS
unfoldable pub counts_by : Progress → List Bool → Option Progress
counts_by p [] = some p
counts_by p (m ∷ ms) = let q = moved_on p 1 (next_number p.state m) in cond (offending q) none (counts_by q ms)
