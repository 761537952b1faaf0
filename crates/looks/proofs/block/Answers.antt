-- `looks::block` meets its contract.
use Prim.Native.Nat.{◌+◌, ◌*◌}
use mathlib.Core.Path.{refl}
use lib.ListN.{length}
use Rattle.model.specs.Bytes.{view}
use Rattle.ink.specs.Ink.{sheet, Prints}
use Rattle.replies.specs.Lines.{bytes_line}
use Rattle.lines.proofs.PartLaws.{part_as}
use Rattle.looks.proofs.LookLaws.{block_none, block_said}
use Rattle.looks.proofs.block.Goals as goal

pub returns-then-img-end : goal.returns-then-img-end
returns-then-img-end c =
    let a = c.args in
    let i = a.img.now in
    block_none (length i) (view i) a.number c.if-img-end.true refl

pub returns : goal.returns
returns c =
    let a = c.args in
    let i = a.img.now in
    let x = a.number * 512 in
    let y = c.say_bytes in
    block_said (length i) (view i) a.number c.if-img-end.false refl
    (part_as (λ f n. Prints (bytes_line f n) (sheet a.ink.now a.page.now) (sheet y.new.ink y.new.page)) i x (x + 512) 512 refl c.if-img-end.false y.ensures)
