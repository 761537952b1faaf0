-- `shrink::sink` meets its contract. The keys left to give way, taken from the present image, give what all of them give.
use mathlib.Core.Path.{◌≡◌}
use native.Mathlib.Omega.{arith}
use Prim.Native.Nat.{◌+◌, ◌-◌}
use Rattle.model.specs.Bytes.{view}
use Rattle.shrink.proofs.Laws.{sink_on, sink_end}
use Rattle.shrink.proofs.sink.Goals as goal

pub loop-below-preserved : goal.loop-below-preserved
loop-below-preserved c =
    let a = c.args in
    let l = c.loop-below in
    let k = c.lower-heir in
    let fewer : l.below - 1 - a.to ≡ l.below - a.to - 1 = omega arith in
    let below : l.below - 1 ≡ l.below - a.to - 1 + a.to = omega arith in (
      omega arith,
      omega arith,
      rw fewer (sink_on a.n (view a.img.now) a.to a.key a.count (view l.img) l.heir (l.below - a.to) l.invariant.2 _ _ (omega arith) (rw below at k.ensures.img_after) k.ensures.value),
    )

pub returns : goal.returns
returns c =
    let a = c.args in
    let l = c.loop-below in
    let all = sink_end a.n (view a.img.now) a.to a.key a.count (view l.img) l.heir (l.below - a.to) l.invariant.2 (omega arith) in
    record { img_after = all.0; value = all.1 }
