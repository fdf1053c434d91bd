-- `network_entries::add_target` meets its contract: a target that fits is refused with 6, 7 or 8 in this order as the model refuses it,
-- and otherwise the arrays represent the draft with this target more.
-- Assumes nothing.
use lib.ListN.{length}
use Prim.Native.Nat.{◌≤◌, ◌<◌}
use native.Mathlib.Omega.{arith}
use mathlib.Core.Path.{refl, ap, ◌∙◌}
use Rattle.std.specs.Prelude.{is_some}
use Rattle.model.specs.Network.{is_steering}
use Rattle.network_draft.specs.Represents.{target_for}
use Rattle.network_draft.proofs.Representing.{represented_targets}
use Rattle.network_draft.proofs.SteeringWords.{is_steering_law, not_steering}
use Rattle.network_entries.proofs.AddingTargets.{there_law, again_6, target_7, target_8, target_added, target_rest, segment_of_law, with_target_law}
use Rattle.network_entries.proofs.add_target.Goals as goal

pub returns-then-has_target : goal.returns-then-has_target
returns-then-has_target c =
    let there = rw c.is_some.ensures at c.has_target.ensures in
    λ ns bits known held bs d out fits fitting w.
    let x = target_for (is_some c.args.write) c.args.s bs in
    let again = there_law c.args.s (is_some c.args.write) bs w _ there ∙ c.if-has_target.true in
    rw (c.at.ensures, again_6 d c.args.n x again) (refl, refl)

pub returns-then-steering-s-ne0 : goal.returns-then-steering-s-ne0
returns-then-steering-s-ne0 c =
    let there = rw c.is_some.ensures at c.has_target.ensures in
    λ ns bits known held bs d out fits fitting w.
    let x = target_for (is_some c.args.write) c.args.s bs in
    let fresh = there_law c.args.s (is_some c.args.write) bs w _ there ∙ c.if-has_target.false in
    let steers = ap (is_steering d.nodes) (segment_of_law (is_some c.args.write) c.args.s bs) ∙ is_steering_law w out c.args.s c.requires.1 c.if-steering-s-ne0.true in
    rw (c.at-then-steering-s-ne0.ensures, target_7 d c.args.n x fresh steers) (refl, refl)

pub returns-then-at-ge-MAX_TARGETS : goal.returns-then-at-ge-MAX_TARGETS
returns-then-at-ge-MAX_TARGETS c =
    let there = rw c.is_some.ensures at c.has_target.ensures in
    λ ns bits known held bs d out fits fitting w.
    let x = target_for (is_some c.args.write) c.args.s bs in
    let fresh = there_law c.args.s (is_some c.args.write) bs w _ there ∙ c.if-has_target.false in
    let free = ap (is_steering d.nodes) (segment_of_law (is_some c.args.write) c.args.s bs) ∙ not_steering w out c.args.s c.requires.1 c.if-steering-s-ne0.false in
    let full : 4 ≤ length d.targets = omega (arith, represented_targets w) in
    rw (c.at-then-at-ge-MAX_TARGETS.ensures, target_8 d c.args.n x fresh free full) (refl, refl)

pub returns : goal.returns
returns c =
    let there = rw c.is_some.ensures at c.has_target.ensures in
    λ ns bits known held bs d out fits fitting w.
    let x = target_for (is_some c.args.write) c.args.s bs in
    let fresh = there_law c.args.s (is_some c.args.write) bs w _ there ∙ c.if-has_target.false in
    let free = ap (is_steering d.nodes) (segment_of_law (is_some c.args.write) c.args.s bs) ∙ not_steering w out c.args.s c.requires.1 c.if-steering-s-ne0.false in
    let few : length d.targets < 4 = omega (arith, represented_targets w) in
    let is = target_added d c.args.n x fresh free few in
    rw is (with_target_law w c.args.s c.args.write bs fitting c.if-at-ge-MAX_TARGETS.false (target_rest d c.args.n x out fits ∙ is))
