-- `release::give_limbs` and `release::give_tree`, which call each other, meet their contracts. A key goes first; what lies below it is read after
-- that as before.
use native.Mathlib.Omega.{arith}
use mathlib.Core.Path.{◌≡◌, refl, ap, sym, ◌∙◌}
use Prim.Native.Nat.{ℕ, suc, ◌-◌}
use Rattle.model.specs.Bytes.{view}
use Rattle.model.specs.Directory.{map_place}
use Rattle.model.specs.Calls.{given_all}
use Rattle.release.specs.Loose.{tree}
use Rattle.release.proofs.Laws.{giving_start, giving_hole, giving_tree, giving_on, giving_done, tree_leaf, key_loose, key_done}
use Rattle.release.proofs.+give_limbs_give_tree.Goals.{give_limbs-then-p-ne0, give_limbs-else-p-ne0}
use Rattle.release.proofs.+give_limbs_give_tree.Goals as goal

pub give_limbs-loop-i-init : goal.give_limbs-loop-i-init
give_limbs-loop-i-init t c =
    let a = c.args in
    (refl, giving_start a.n (view a.img.now) a.height a.key a.first c.requires.3)

pub give_limbs-give_tree-requires : goal.give_limbs-give_tree-requires
give_limbs-give_tree-requires t c =
    let a = c.args in
    let l = c.loop-i in
    let p = c.get_pointer-p in
    let loose = giving_tree a.n (view a.img.now) a.height a.key a.first (view l.img) l.i l.invariant.1 c.loop-i-test.true p.result p.ensures.value c.if-p-ne0.true in
    (omega arith, ((omega arith, omega arith, omega arith), omega arith, loose))

pub give_limbs-loop-i-preserved : goal.give_limbs-loop-i-preserved
give_limbs-loop-i-preserved t c =
    let a = c.args in
    let l = c.loop-i in
    let p = c.get_pointer-p in
    elim c.if-p-ne0.branch [
      | give_limbs-then-p-ne0 w ↦ (omega arith, rw w.img-is (giving_on a.n (view a.img.now) a.height a.key a.first (view l.img) l.i l.invariant.1 c.loop-i-test.true p.result p.ensures.value w.if-p-ne0.true _ w.give_tree.ensures))
      | give_limbs-else-p-ne0 w ↦ (omega arith, rw w.img-is (giving_hole a.n (view a.img.now) a.height a.key a.first (view l.img) l.i l.invariant.1 c.loop-i-test.true p.result p.ensures.value w.if-p-ne0.false))
    ]

pub give_limbs-returns : goal.give_limbs-returns
give_limbs-returns t c =
    let a = c.args in
    let l = c.loop-i in
    giving_done a.n (view a.img.now) a.height a.key a.first (view l.img) l.i l.invariant.1 c.loop-i-test.false

pub give_tree-give_limbs-requires : goal.give_tree-give_limbs-requires
give_tree-give_limbs-requires t c =
    let a = c.args in
    let g = c.give in
    let more : a.height ≡ suc (a.height - 1) = omega arith in
    let loose = rw more at c.requires.2 in
    (omega arith, ((omega arith, omega arith, omega arith), omega arith, omega arith, key_loose a.n (view a.img.now) (a.height - 1) a.key loose (view g.new.img) g.ensures))

pub give_tree-returns-then-height-ne0 : goal.give_tree-returns-then-height-ne0
give_tree-returns-then-height-ne0 t c =
    let a = c.args in
    let v = view a.img.now in
    let g = c.give in
    let d = c.give_limbs in
    let more : a.height ≡ suc (a.height - 1) = omega arith in
    let loose = rw more at c.requires.2 in
    key_done a.n v (a.height - 1) a.key loose (view g.new.img) g.ensures (view d.new.img) d.ensures
    ∙ ap (λ (h : ℕ). given_all map_place v (tree v h a.key)) (sym more)

pub give_tree-returns-else-height-ne0 : goal.give_tree-returns-else-height-ne0
unfolding given_all
give_tree-returns-else-height-ne0 t c =
    let a = c.args in
    let v = view a.img.now in
    let flat : a.height ≡ 0 = omega arith in
    let leaf = ap (λ (h : ℕ). tree v h a.key) flat ∙ tree_leaf v a.key in
    c.give.ensures ∙ sym (ap (given_all map_place v) leaf)
