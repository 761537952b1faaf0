-- `looks::read` meets its contract.
use Prim.Native.Nat.{◌-◌, ◌≤◌}
use mathlib.Core.Path.{◌≡◌, refl, ap, ◌∙◌}
use native.Mathlib.Omega.{arith}
use lib.ListN.{length, take, drop}
use borrow.Author.Tests.{le-leb, lt-leb}
use Rattle.model.specs.Bytes.{view, paste}
use Rattle.model.specs.Read.{read}
use Rattle.ink.specs.Ink.{sheet}
use Rattle.lines.specs.Commands.{cut}
use Rattle.lines.proofs.LeftLaws.{none_leaves, if_so, if_not}
use Rattle.lines.proofs.PartLaws.{part_as, front_back, text_as}
use Rattle.looks.specs.Looks.{equals, read_look, read_outcome, ReadsInto}
use Rattle.looks.proofs.read.Goals as goal

pub returns-then-buffer-count : goal.returns-then-buffer-count
unfolding read_look
returns-then-buffer-count c =
    let a = c.args in
    if_not _ _ _ (lt-leb (view a.values.now 2) (length a.buffer.now) c.if-buffer-count.true) (none_leaves refl)

pub returns : goal.returns
unfolding read_look read_outcome
returns c =
    let a = c.args in
    let i = a.img.now in
    let vs = a.values.now in
    let ts = a.room.now in
    let x = a.buffer.now in
    let z = view vs 0 in
    let k = view vs 2 in
    let y = c.read_into in
    let s = sheet a.ink.now a.page.now in
    let m : k ≤ length x = c.if-buffer-count.false in
    let n = length (take (k - 0) (drop 0 x)) in
    let q = text_as (λ f j. ReadsInto (read (length i) (view i) f j (view vs 1) (equals n 0xA5) n) n s y.new.ink y.new.buffer y.new.page) vs ts (omega (arith, c.requires.0, c.requires.1)) y.ensures in
    let w = part_as (λ f j. ReadsInto (read (length i) (view i) (cut (view ts) 0 z) z (view vs 1) (equals j 0xA5) j) j s y.new.ink y.new.buffer y.new.page) x 0 k k (omega arith) m q in
    let d = y.auto.buffer ∙ part_as (λ f j. n ≡ j) x 0 k k (omega arith) m refl in
    if_so _ _ _ (le-leb k (length x) m)
    (record { good = refl; image = refl; buffer = front_back x y.new.buffer k m d ∙ ap (paste (view x) 0 k) w.buffer; page = w.page })
