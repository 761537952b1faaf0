-- `checks::Volume::alone_in_blocks` meets its contract. What is still to be compared decides.
use mathlib.Core.Path.{◌≡◌, refl, sym, ◌∙◌}
use Prim.Native.Nat.{◌+◌, ◌-◌}
use native.Mathlib.Omega.{arith}
use Rattle.model.specs.Bytes.{◌and◌, view}
use Rattle.checks.proofs.Laws.{coming, coming_next, alone_next_block, alone_none}
use Rattle.checks.proofs.Volume.alone_in_blocks.Goals as goal

pub loop-done-init : goal.loop-done-init
loop-done-init c =
    let a = c.args in
    let self = a.self.now in
    let z : a.blocks - 0 ≡ a.blocks = omega arith in
    (coming (view self.img.now) self.n a.first a.blocks _ z c.requires.inside, rw z refl)

pub returns-then-not-alone_between : goal.returns-then-not-alone_between
unfolding ◌and◌
returns-then-not-alone_between c =
    let a = c.args in
    let self = a.self.now in
    let l = c.loop-done in
    let all = alone_next_block (view self.img.now) self.n l.block (a.blocks - l._done) _ _ refl refl (omega arith) a.place in
    sym (rw (sym c.alone_between.ensures ∙ c.if-not-alone_between.true) at all) ∙ l.invariant.1

pub loop-done-preserved : goal.loop-done-preserved
unfolding ◌and◌
loop-done-preserved c =
    let a = c.args in
    let self = a.self.now in
    let l = c.loop-done in
    let b = c.next_of-block in
    let left = a.blocks - l._done in
    let all = alone_next_block (view self.img.now) self.n l.block left b.result (a.blocks - (l._done + 1)) b.ensures (omega arith) (omega arith) a.place in (
      coming_next (view self.img.now) self.n l.block left _ _ b.ensures (omega arith) (omega arith) l.invariant.0.inside,
      sym (rw (sym c.alone_between.ensures ∙ c.if-not-alone_between.false) at all) ∙ l.invariant.1,
    )

pub returns : goal.returns
returns c =
    let a = c.args in
    let self = a.self.now in
    let l = c.loop-done in
    sym (alone_none (view self.img.now) a.place l.block (a.blocks - l._done) (omega arith)) ∙ l.invariant.1
