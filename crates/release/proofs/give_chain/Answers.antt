-- `release::give_chain` meets its contract. The loop's invariant: the chain from b on is left to give back.
use native.Mathlib.Omega.{arith}
use mathlib.Core.Path.{◌≡◌, refl}
use Prim.Native.Nat.{◌+◌, ◌-◌}
use Rattle.model.specs.Bytes.{view}
use Rattle.release.proofs.Laws.{chaining_start, chaining_on, chaining_done}
use Rattle.release.proofs.give_chain.Goals as goal

pub loop-init : goal.loop-init
loop-init c =
    let a = c.args in
    let all : a.used - 0 ≡ a.used = omega arith in
    (refl, rw all (chaining_start a.n (view a.img.now) a.key a.used c.requires.1))

pub loop-preserved : goal.loop-preserved
loop-preserved c =
    let a = c.args in
    let l = c.loop in
    let w = c.get_word-next in
    let g = c.give in
    let fewer : a.used - (l.counter + 1) ≡ a.used - l.counter - 1 = omega arith in (
      omega arith,
      rw fewer (chaining_on a.n (view a.img.now) a.key a.used (view l.img) l.b (a.used - l.counter) l.invariant.1 (omega arith) w.result (view g.new.img) w.ensures.value g.ensures),
    )

pub returns : goal.returns
returns c =
    let a = c.args in
    let l = c.loop in
    chaining_done a.n (view a.img.now) a.key a.used (view l.img) l.b (a.used - l.counter) l.invariant.1 (omega arith)
