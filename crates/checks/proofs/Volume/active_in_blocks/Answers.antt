-- `checks::Volume::active_in_blocks` meets its contract. The count and what is still to be counted are the whole.
use mathlib.Core.Path.{◌≡◌}
use Prim.Native.Nat.{◌+◌, ◌-◌}
use native.Mathlib.Omega.{arith}
use Rattle.model.specs.Bytes.{view}
use Rattle.checks.proofs.Laws.{coming, coming_next, active_next, active_none}
use Rattle.checks.proofs.Volume.active_in_blocks.Goals as goal

pub loop-done-init : goal.loop-done-init
loop-done-init c =
    let a = c.args in
    let self = a.self.now in
    let z : a.blocks - 0 ≡ a.blocks = omega arith in
    (coming (view self.img.now) self.n a.first a.blocks _ z c.requires.inside, rw z (omega arith), omega arith)

pub loop-done-preserved : goal.loop-done-preserved
loop-done-preserved c =
    let a = c.args in
    let self = a.self.now in
    let l = c.loop-done in
    let b = c.next_of-block in
    let left = a.blocks - l._done in
    let step = active_next (view self.img.now) self.n l.block left b.result (a.blocks - (l._done + 1)) b.ensures (omega arith) (omega arith) in
    (coming_next (view self.img.now) self.n l.block left _ _ b.ensures (omega arith) (omega arith) l.invariant.0.inside, omega arith, omega arith)

pub returns : goal.returns
returns c =
    let a = c.args in
    let self = a.self.now in
    let l = c.loop-done in
    let none = active_none (view self.img.now) l.block (a.blocks - l._done) (omega arith) in
    (omega arith, omega arith)
