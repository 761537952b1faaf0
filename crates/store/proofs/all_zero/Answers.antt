use mathlib.Core.Path.{◌≡◌, ◌∙◌}
use Prim.Native.Nat.{◌+◌, ◌-◌}
use lib.Dec.{eqb}
use native.Mathlib.Omega.{arith}
use borrow.Author.Rules.{rules}
use borrow.Author.Tests.{tests}
use Rattle.std.proofs.lemmas.Iterator.{YieldsList-from_slice}
use Rattle.std.proofs.lemmas.Iterator.Search.{all_from_yields_List}
use Rattle.store.proofs.Runs.{part_zero}
use Rattle.store.proofs.all_zero.Goals as goal

pub returns : goal.returns
returns c =
    let a = c.args in
    let d : a.at + a.k - a.at ≡ a.k = omega arith in
    let e = all_from_yields_List (λ x. eqb x 0) _ _ c.all.result c.all.ensures.ran (YieldsList-from_slice _ c.iter.ensures.rest) (λ x b q k. search (rules, tests)) in
    rw d at e ∙ part_zero a.s.now a.at a.k (omega arith)
