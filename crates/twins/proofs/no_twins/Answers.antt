-- `twins::no_twins` meets its contract. Each turn has the names before k in the tree, and no two of them alike.
use native.Mathlib.Omega.{arith}
use lib.ListN.{set}
use mathlib.Core.Path.{ap}
use lib.Seq.{get_or-set_same}
use Rattle.model.specs.Bytes.{view}
use Rattle.twins.specs.declared.Node.{Node}
use Rattle.twins.specs.Twins.{leaf, lefts, rights}
use Rattle.twins.proofs.TreeLaws.{tree_one, apart_one, tree_more, apart_more, some_twins, none_twins}
use Rattle.twins.proofs.no_twins.Goals as goal

pub returns-then-n-eq0 : goal.returns-then-n-eq0
returns-then-n-eq0 c =
    let s = c.args in
    none_twins (view s.img.now) s.places.now (λ i j l m. absurd (let w : ⊥ = omega (arith, c.if-n-eq0.true) in w))

pub loop-k-init : goal.loop-k-init
unfolding lefts rights
loop-k-init c =
    let s = c.args in
    let root = get_or-set_same s.nodes.now 0 leaf leaf (omega arith) in (
      tree_one (view s.img.now) s.places.now (lefts (set s.nodes.now 0 leaf)) (rights (set s.nodes.now 0 leaf))
          (ap (λ (n : Node). n.left) root)
          (ap (λ (n : Node). n.right) root),
      apart_one (view s.img.now) s.places.now,
    )

pub returns-in_default : goal.returns-in_default
returns-in_default c =
    let s = c.args in
    some_twins (view s.img.now) s.places.now c.loop-k.k c.loop-k-test.true c.in_default.ensures

pub loop-k-preserved : goal.loop-k-preserved
loop-k-preserved c =
    let s = c.args in
    let o = c.loop-k in
    let lands = c.in-Some.ensures in (
      rw (c.attach.ensures.left_after, c.attach.ensures.right_after)
          (tree_more (view s.img.now) s.places.now o.k (lefts o.nodes) (rights o.nodes) _ lands o.invariant.0),
      apart_more (view s.img.now) s.places.now o.k (lefts o.nodes) (rights o.nodes) _ lands o.invariant.1,
    )

pub returns : goal.returns
returns c =
    let s = c.args in
    none_twins (view s.img.now) s.places.now (λ i j l m. c.loop-k.invariant.1 i j l (omega arith))
