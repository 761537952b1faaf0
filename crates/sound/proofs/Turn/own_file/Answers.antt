-- `sound::Turn::own_file` meets its contract.
use mathlib.Core.Path.{◌∙◌}
use Rattle.model.specs.Bytes.{view}
use Rattle.marks.specs.Marks.{marks}
use Rattle.sound.proofs.WorkLaws.{when_taken, when_refused, file_misnamed, file_left, file_kids}
use Rattle.sound.proofs.Turn.own_file.Goals as goal
use Rattle.sound.proofs.Turn.own_file.Goals.{else-entry_right-via-then-entry_right+else-sound_file, else-entry_right-via-else-entry_right}

pub returns-then-sound_file : goal.returns-then-sound_file
returns-then-sound_file c =
    let a = c.args in
    let self = a.self.now in
    let p = c.requires in
    let v = view self.volume.img.now in
    let e = c.entry_right in
    let k = c.sound_file in
    let left = file_left self.volume.n v a.height self.levels self.home self.place (marks a.seen.now) p.sort.1 e.result e.ensures a.key a.entry p.describes c.if-entry_right.true in record { seen_after = when_taken (marks k.new.seen) k.result _ (k.ensures ∙ left) c.if-sound_file.true; leads = file_kids v self.place a.height p.sort.1 }

pub returns-else-entry_right-clause-seen_after : goal.returns-else-entry_right-clause-seen_after
returns-else-entry_right-clause-seen_after c =
    let a = c.args in
    let self = a.self.now in
    let p = c.requires in
    let v = view self.volume.img.now in
    let e = c.entry_right in
    elim c.else-entry_right.branch [
      | else-entry_right-via-then-entry_right+else-sound_file w ↦ when_refused (marks w.sound_file.new.seen) w.sound_file.result _
          (w.sound_file.ensures ∙ file_left self.volume.n v a.height self.levels self.home self.place (marks a.seen.now) p.sort.1 e.result e.ensures a.key a.entry p.describes w.if-entry_right.true)
          w.if-sound_file.false
      | else-entry_right-via-else-entry_right w ↦ file_misnamed self.volume.n v a.height self.levels self.home self.place (marks a.seen.now) p.sort.1 e.result e.ensures w.if-entry_right.false
    ]
