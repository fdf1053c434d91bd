-- `planner_table::slots::next_setting` meets its contract: the entries before the one found are 0, and all are where none is found.
-- Assumes nothing.
use Rattle.std.proofs.Common.{rules, arith, ◌≡◌, ℕ, ◌+◌, ◌-◌, ◌<◌, take, drop, get_or, length}
use Rattle.planner_table.proofs.Skipping.{skipped_part, skipped_rest}
use Rattle.planner_table.proofs.slots.next_setting.Goals as goal

pub returns-in-Some : goal.returns-in-Some
returns-in-Some c = let a = c.args in
    let x = c.skip_runs-x.result in
    let part = take (a.at + a.end - (a.at + x)) (drop (a.at + x) a.table.now) in
    let within : c.in-Some.k < length part = search rules in
    let zeros : (j : ℕ) → j < c.in-Some.k → get_or part j 0 ≡ 0 = λ j h. search rules in
    skipped_part a.table.now a.at a.from a.end x c.requires.0 c.skip_runs-x.ensures c.in-Some.k (omega (arith, within)) zeros

pub returns-in-None : goal.returns-in-None
returns-in-None c = let a = c.args in
    let x = c.skip_runs-x.result in
    let part = take (a.at + a.end - (a.at + x)) (drop (a.at + x) a.table.now) in
    let zeros : (j : ℕ) → j < length part → get_or part j 0 ≡ 0 = λ j h. search rules in
    skipped_rest a.table.now a.at a.from a.end x c.requires.0 c.skip_runs-x.ensures zeros
