-- `marks::reserve` meets its contract. The loop's invariant: the boot blocks and the map's before b are marked.
use mathlib.Core.Path.{◌≡◌, ap, ◌∙◌}
use Prim.Native.Nat.{◌+◌}
use native.Mathlib.Omega.{arith}
use Rattle.model.specs.Map.{map_blocks}
use Rattle.claims.specs.Claims.{with}
use Rattle.marks.proofs.Laws.{marked, reserve_start, reserve_step, reserve_end}
use Rattle.marks.proofs.reserve.Goals as goal

pub loop-b-init : goal.loop-b-init
loop-b-init c =
    let l = c.args.seen.now in
    let g = c.give in
    let g2 = c.give-2 in
    let one = marked l g.new.img 0 (λ x. omega (arith, c.slice_known-1.given x)) g.ensures in
    let two = marked g.new.img g2.new.img 1 (λ x. omega (arith, c.slice_known-2-1.given x)) g2.ensures in
    (omega arith, two ∙ ap (with 1) (one ∙ ap (with 0) c.requires.2) ∙ reserve_start, λ x. omega (arith, c.type_inv.seen x))

pub loop-b-preserved : goal.loop-b-preserved
loop-b-preserved c =
    let l = c.loop-b in
    let g = c.give-in-loop-b in
    let mark = marked l.seen g.new.img l.b l.invariant.2 g.ensures in
    (omega arith, mark ∙ ap (with l.b) l.invariant.1 ∙ reserve_step l.b (omega arith), λ x. omega (arith, c.type_inv.seen x))

pub returns : goal.returns
returns c =
    let l = c.loop-b in
    let n = c.args.n in
    let e : l.b ≡ 6 + map_blocks n = omega arith in
    l.invariant.1 ∙ reserve_end n l.b e
