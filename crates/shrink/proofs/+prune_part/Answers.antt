-- `shrink::prune_part` meets its contract. The pointers below i are trimmed, and the tree fits.
use native.Mathlib.Omega.{arith}
use mathlib.Core.Path.{◌≡◌, refl, sym, ap, ◌∙◌}
use Prim.Native.Nat.{ℕ, suc, ◌+◌, ◌-◌, ◌*◌}
use Rattle.model.specs.Bytes.{view}
use Rattle.model.specs.Directory.{map_place}
use Rattle.model.specs.SetEof.{pruned}
use Rattle.model.proofs.Laws.FirstBlock.{part_first, first_shift}
use Rattle.shrink.proofs.Laws.{trim_start, trim_over, part_fit, part_loose, trim_freed, trim_deeper, trim_end}
use Rattle.shrink.proofs.+prune_part.Goals.{then-end-part, else-end-part}
use Rattle.shrink.proofs.+prune_part.Goals as goal

pub returns-then-height-eq0 : goal.returns-then-height-eq0
unfolding pruned
returns-then-height-eq0 t c =
    let a = c.args in
    sym (ap (λ (h : ℕ). pruned map_place a.end (view a.img.now) h a.number a.block) c.if-height-eq0.true)

pub loop-i-init : goal.loop-i-init
loop-i-init t c =
    let a = c.args in
    let more : a.height ≡ suc (a.height - 1) = omega arith in
    (refl, trim_start a.n a.end (a.height - 1) a.number a.block (view a.img.now) (rw more at c.requires.3))

pub loop-i-preserved-then-child-eq0 : goal.loop-i-preserved-then-child-eq0
loop-i-preserved-then-child-eq0 t c =
    let a = c.args in
    let l = c.loop-i in
    let p = c.get_pointer-child in
    (omega arith, trim_over a.n a.end (a.height - 1) a.number a.block (view a.img.now) l.i (view l.img) l.invariant.1 c.loop-i-test.true p.result p.ensures.value c.if-child-eq0.true)

pub give_tree-requires : goal.give_tree-requires
give_tree-requires t c =
    let a = c.args in
    let l = c.loop-i in
    let p = c.get_pointer-child in
    let F = l.invariant.1.fits in
    let loose = part_loose a.n a.end (a.height - 1) a.number a.block (view a.img.now) l.i (view l.img) l.invariant.1 c.loop-i-test.true p.result p.ensures.value c.if-child-eq0.false in
    ((F.large, F.small, omega arith), omega arith, loose)

pub prune_part-requires : goal.prune_part-requires
prune_part-requires t c =
    let a = c.args in
    let l = c.loop-i in
    let p = c.get_pointer-child in
    let more : a.height ≡ suc (a.height - 1) = omega arith in
    let first = part_first (a.height - 1) a.number l.i (omega arith) c.loop-i-test.true (rw more at c.requires.2) in
    let fit = part_fit a.n a.end (a.height - 1) a.number a.block (view a.img.now) l.i (view l.img) l.invariant.1 c.loop-i-test.true p.result p.ensures.value c.if-child-eq0.false in
    (omega arith, (omega arith, omega arith, first, fit))

pub loop-i-preserved : goal.loop-i-preserved
loop-i-preserved t c =
    let a = c.args in
    let l = c.loop-i in
    let h = a.height - 1 in
    let p = c.get_pointer-child in
    let more : a.height ≡ suc h = omega arith in
    let first = part_first h a.number l.i (omega arith) c.loop-i-test.true (rw more at c.requires.2) in
    let shift = first_shift h (a.number * 256 + l.i) (omega arith) first in
    elim c.if-end-part.branch [
      | then-end-part w ↦ (
        omega arith,
        rw w.img-is (trim_freed a.n a.end h a.number a.block (view a.img.now) l.i (view l.img) l.invariant.1 c.loop-i-test.true p.result p.ensures.value c.if-child-eq0.false
            (rw shift at w.if-end-part.true) _ _ w.give_tree.ensures w.put_pointer.ensures),
      )
      | else-end-part w ↦ (
        omega arith,
        rw w.img-is (trim_deeper a.n a.end h a.number a.block (view a.img.now) l.i (view l.img) l.invariant.1 c.loop-i-test.true p.result p.ensures.value c.if-child-eq0.false
            (rw shift at w.if-end-part.false) _ w.prune_part.ensures),
      )
    ]

pub returns : goal.returns
returns t c =
    let a = c.args in
    let l = c.loop-i in
    let more : suc (a.height - 1) ≡ a.height = omega arith in
    trim_end a.n a.end (a.height - 1) a.number a.block (view a.img.now) l.i (view l.img) l.invariant.1 c.loop-i-test.false l.auto.i-end
    ∙ ap (λ (h : ℕ). pruned map_place a.end (view a.img.now) h a.number a.block) more
