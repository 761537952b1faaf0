-- `sound::Turn::stands_at` meets its contract. The 39 bytes that are lent say what stands in the image.
use mathlib.Core.Path.{sym, ap, ◌∙◌}
use Prim.Native.Nat.{◌+◌, ◌-◌}
use native.Mathlib.Omega.{arith}
use Rattle.model.specs.Bytes.{view}
use Rattle.model.specs.Directory.{sort}
use Rattle.directory.specs.Slots.{slot_says}
use Rattle.directory.proofs.SlotLaws.{slot_decoded}
use Rattle.sound.proofs.WorkLaws.{stands_volume, standing_entry}
use Rattle.sound.proofs.Turn.stands_at.Goals as goal

pub returns-then-self-eq-VOLUME : goal.returns-then-self-eq-VOLUME
returns-then-self-eq-VOLUME c =
    let self = c.args.self.now in
    stands_volume (view self.volume.img.now) self.place c.volume_entry.result c.if-self-eq-VOLUME.true c.volume_entry.ensures

pub returns : goal.returns
returns c =
    let self = c.args.self.now in
    let v = view self.volume.img.now in
    let b = c.address-start in
    let off = c.if-self-eq-VOLUME.false in
    c.decode.ensures
    ∙ slot_decoded self.volume.img.now b.result (b.result + 39 - b.result) self.place b.ensures (omega arith) off
    ∙ ap (slot_says (sort v self.place)) (sym (standing_entry v self.place off))
