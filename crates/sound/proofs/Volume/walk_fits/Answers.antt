-- `sound::Volume::walk_fits` meets its contract. The walk's answer decides what the claims of the volume come to.
use mathlib.Core.Path.{◌∙◌}
use Rattle.model.specs.Bytes.{view}
use Rattle.marks.specs.Marks.{marks}
use Rattle.sound.proofs.WorkLaws.{fits_on, fits_off}
use Rattle.sound.proofs.Volume.walk_fits.Goals as goal

pub returns-then-sound_entry : goal.returns-then-sound_entry
returns-then-sound_entry c =
    let self = c.args.self.now in
    let e = c.sound_entry in
    c.map_fits.ensures
    ∙ fits_on self.n (view self.img.now) _ (marks e.new.seen) e.result _ c.reserve.ensures e.ensures c.if-sound_entry.true

pub returns-else-sound_entry : goal.returns-else-sound_entry
returns-else-sound_entry c =
    let self = c.args.self.now in
    let e = c.sound_entry in
    c.if-sound_entry.false
    ∙ fits_off self.n (view self.img.now) _ (marks e.new.seen) e.result _ c.reserve.ensures e.ensures c.if-sound_entry.false
