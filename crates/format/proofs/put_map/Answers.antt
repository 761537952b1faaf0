-- `format::put_map` meets its contract. The first j bytes of the map are there after j turns.
use mathlib.Core.Path.{◌≡◌, refl, ap, ◌∙◌}
use mathlib.Core.Logic.{◌≢◌}
use Prim.Native.Nat.{◌+◌, ◌-◌, ◌*◌, ◌≤◌, ◌<◌}
use native.Mathlib.Omega.{arith}
use lib.ListN.{length, take, drop}
use lib.Seq.{get_or-set_same, get_or-set_other}
use borrow.Author.Count.{below_more}
use Rattle.model.specs.Bytes.{view, paste}
use Rattle.model.specs.Map.{fresh_map}
use Rattle.model.proofs.BitLaws.{fresh_byte}
use Rattle.model.proofs.ByteLaws.{length_part}
use Rattle.store.proofs.Runs.{part_pasted}
use Rattle.format.proofs.put_map.Goals as goal

pub overflow_cast-byte : goal.overflow_cast-byte
unfolding fresh_map
overflow_cast-byte c =
    let free = 6 + c.map_blocks-blocks.result in
    let h : fresh_map free c.args.n c.loop-j.j < 256 = fresh_byte free c.args.n c.loop-j.j in
    omega (arith, c.map_byte.ensures, h)

pub loop-j-preserved : goal.loop-j-preserved
unfolding fresh_map
loop-j-preserved c =
    let l = c.loop-j in
    below_more _ _
    (λ k h. let ne : k ≢ l.j = omega arith in rw get_or-set_other (l.invariant k h))
    (let lt : l.j < length l.map = omega arith in rw get_or-set_same c.map_byte.ensures)

pub returns : goal.returns
returns c =
    let l = c.loop-j in
    let xs = c.args.img.now in
    let m = c.map_blocks-blocks in
    let k = m.result * 512 in
    let fits : 3072 + k ≤ length xs = omega arith in
    let d : 3072 + k - 3072 ≡ k = omega arith in
    let n : length l.map ≡ k = l.auto.map ∙ ap (λ e. length (take e (drop 3072 xs))) d ∙ length_part xs 3072 k fits in
    part_pasted xs l.map 3072 (3072 + k) k (fresh_map (6 + m.result) c.args.n) refl fits n (λ i h. l.invariant i (omega arith))
    ∙ ap (λ b. paste (view xs) 3072 (b * 512) (fresh_map (6 + b) c.args.n)) m.ensures
