-- `text::field` meets its contract, by the field's place.
-- Assumes nothing.
use native.Mathlib.Omega.{arith}
use Rattle.text.specs.Places.{FieldAt}
use Rattle.text.proofs.field.Goals as goal

pub overflow_sub-end : goal.overflow_sub-end
overflow_sub-end c =
    let place : FieldAt c.args.line.now c.args.starts.now c.args.k =
    let a = c in a.requires.2 a.args.k a.requires.0 a.requires.1 in
    omega (arith, place.ordered)

pub slice_bounds-result-count : goal.slice_bounds-result-count
slice_bounds-result-count c =
    let place : FieldAt c.args.line.now c.args.starts.now c.args.k =
    let a = c in a.requires.2 a.args.k a.requires.0 a.requires.1 in
    omega (arith, place.ordered)

pub slice_bounds-result-start : goal.slice_bounds-result-start
slice_bounds-result-start c =
    let place : FieldAt c.args.line.now c.args.starts.now c.args.k =
    let a = c in a.requires.2 a.args.k a.requires.0 a.requires.1 in
    omega (arith, place.ordered)

pub slice_bounds-result-end : goal.slice_bounds-result-end
slice_bounds-result-end c =
    let place : FieldAt c.args.line.now c.args.starts.now c.args.k =
    let a = c in a.requires.2 a.args.k a.requires.0 a.requires.1 in
    omega (arith, place.within)

pub returns : goal.returns
returns c =
    let place : FieldAt c.args.line.now c.args.starts.now c.args.k =
    let a = c in a.requires.2 a.args.k a.requires.0 a.requires.1 in
    place.content
