-- `store::place_of` meets its contract: what `position` finds in the rest of the bytes.
use mathlib.Core.Path.{◌≡◌, ◌∙◌}
use Prim.Native.Nat.{◌+◌, ◌-◌}
use lib.ListN.{length}
use native.Mathlib.Omega.{arith}
use borrow.Author.Rules.{rules}
use borrow.Author.Tests.{tests}
use Rattle.std.proofs.lemmas.Iterator.{YieldsList-from_slice, IsFirst-from_position}
use Rattle.store.proofs.Runs.{part_first, part_none}
use Rattle.store.proofs.place_of.Goals as goal

pub returns-in-Some-clause-value : goal.returns-in-Some-clause-value
returns-in-Some-clause-value c =
    let a = c.args in
    let h =
    IsFirst-from_position _ _ _ (λ x. x ≡ a.byte) (λ x. x ≡ a.byte → ⊥) c.in-Some.ensures.ran (YieldsList-from_slice _ c.iter.ensures.rest)
    (λ x q k. search (rules, tests)) (λ x q k. search (rules, tests)) in
    part_first a.s.now a.byte a.start (length a.s.now - a.start) c.in-Some.i (omega arith) h

pub returns-in-None-clause-value : goal.returns-in-None-clause-value
returns-in-None-clause-value c =
    let a = c.args in
    let h =
    IsFirst-from_position _ _ _ (λ x. x ≡ a.byte) (λ x. x ≡ a.byte → ⊥) c.in-None.ensures.ran (YieldsList-from_slice _ c.iter.ensures.rest)
    (λ x q k. search (rules, tests)) (λ x q k. search (rules, tests)) in
    let e : length a.s.now ≡ a.start + (length a.s.now - a.start) = omega arith in
    e ∙ part_none a.s.now a.byte a.start (length a.s.now - a.start) (omega arith) h
