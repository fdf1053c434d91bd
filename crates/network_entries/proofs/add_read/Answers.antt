-- `network_entries::add_read` meets its contract: a `read` line is refused with 4 or 6 in this order as the model refuses it,
-- and otherwise answers as `add_target` does.
-- Assumes nothing.
use mathlib.Core.Bool.{true, false, not}
use mathlib.Core.List.{[]}
use Prim.Native.Nat.{ℕ}
use Rattle.std.specs.Prelude.{Option, None, Some, is_some, IfSome}
use Rattle.std.specs.Option.{unwrap_or}
use borrow.Author.Tests.{not-true, not-false}
use native.Mathlib.Omega.{arith}
use mathlib.Core.Path.{◌≡◌, refl, sym, ap, ◌∙◌}
use Rattle.model.specs.Network.{read}
use Rattle.network_draft.proofs.Representing.{represented_out, represented_len}
use Rattle.network_entries.proofs.AddingTargets.{target_4, target_6, target_rest}
use Rattle.network_entries.proofs.AddingHolds.{no_bits, with_bits_law}
use Rattle.network_entries.proofs.add_read.Goals as goal

none_zero : (o : Option ℕ) → is_some o ≡ false → unwrap_or o 0 ≡ 0
none_zero None e = refl
none_zero (Some k) e = cc

some_value : (P : ℕ → Type 0) (o : Option ℕ) → is_some o ≡ true → IfSome o P → P (unwrap_or o 0)
some_value P None e p = cc
some_value P (Some k) e p = p

pub returns-then-not-t : goal.returns-then-not-t
returns-then-not-t c = λ bits known held d w.
    rw (c.at.ensures, target_4 d c.args.n (read c.args.s) (represented_out w ∙ not-true _ c.if-not-t.true)) (refl, refl)

pub returns-then-is_none : goal.returns-then-is_none
returns-then-is_none c =
    let none = c.is_none.ensures ∙ ap not c.if-is_none.true in
    λ bits known held d w.
    let out = represented_out w ∙ not-false _ c.if-not-t.false in
    let len = represented_len w _ c.args.s c.len_of.ensures.long ∙ none_zero c.len_of.result none in
    rw (c.at-then-is_none.ensures, target_6 d c.args.n (read c.args.s) out (no_bits w c.args.s len)) (refl, refl)

pub add_target-requires : goal.add_target-requires
add_target-requires c =
    let there = some_value _ c.len_of.result (c.is_none.ensures ∙ ap not c.if-is_none.false) c.len_of.ensures.there in
    (c.requires, omega (arith, there.2, c.requires.nodes_fit))

pub returns : goal.returns
returns c =
    let there = some_value _ c.len_of.result (c.is_none.ensures ∙ ap not c.if-is_none.false) c.len_of.ensures.there in
    λ bits known held d w.
    let out = represented_out w ∙ not-false _ c.if-not-t.false in
    let len = represented_len w _ c.args.s c.len_of.ensures.long in
    let fits = with_bits_law w c.args.s (λ z. omega (arith, there.0, len, z)) in
    rw (target_rest d c.args.n (read c.args.s) out fits) (c.add_target.ensures c.args.nodes.now bits known held [] d out fits tt w)
