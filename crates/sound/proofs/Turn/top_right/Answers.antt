-- `sound::Turn::top_right` meets its contract. The volume's place has the volume's faults, any other a header's.
use mathlib.Core.Path.{sym, ap, ◌∙◌}
use Prim.Native.Nat.{ℕ}
use lib.Dec.{eqb}
use Rattle.model.specs.Bytes.{view}
use Rattle.sound.proofs.WorkLaws.{top_volume, top_header}
use Rattle.sound.proofs.Turn.top_right.Goals as goal

pub returns-then-self-eq-VOLUME : goal.returns-then-self-eq-VOLUME
returns-then-self-eq-VOLUME c =
    let self = c.args.self.now in
    c.volume_right.ensures ∙ ap (λ (k : ℕ). eqb k 0) (sym (top_volume (view self.volume.img.now) self.place c.if-self-eq-VOLUME.true))

pub returns-else-self-eq-VOLUME : goal.returns-else-self-eq-VOLUME
returns-else-self-eq-VOLUME c =
    let a = c.args in
    let self = a.self.now in
    c.header_right.ensures ∙ ap (λ (k : ℕ). eqb k 0) (sym (top_header (view self.volume.img.now) self.place a.key c.if-self-eq-VOLUME.false c.requires.1))
