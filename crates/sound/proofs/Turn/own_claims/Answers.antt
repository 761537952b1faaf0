-- `sound::Turn::own_claims` meets its contract.
use Prim.{tt}
use mathlib.Core.Path.{sym, ◌∙◌}
use Rattle.model.specs.Bytes.{view}
use Rattle.model.specs.Directory.{sort}
use Rattle.marks.specs.Marks.{marks}
use Rattle.directory.proofs.SlotLaws.{says_inactive, says_improper}
use Rattle.sound.specs.Work.{standing}
use Rattle.sound.proofs.WorkLaws.{idle, no_kind}
use Rattle.sound.proofs.Turn.own_claims.Goals as goal

pub returns-in-Inactive : goal.returns-in-Inactive
returns-in-Inactive c =
    let a = c.args in
    let self = a.self.now in
    let v = view self.volume.img.now in
    let h = idle self.volume.n v self.levels self.home self.place (marks a.seen.now) (says_inactive (sort v self.place) (standing v self.place) (sym c.stands_at.ensures ∙ c.in-Inactive.is)) in
    record { seen_after = h.0; leads = h.1 }

pub returns-in-Improper : goal.returns-in-Improper
returns-in-Improper c =
    let a = c.args in
    let self = a.self.now in
    let v = view self.volume.img.now in record {
      seen_after = no_kind self.volume.n v self.levels self.home self.place (marks a.seen.now)
          (says_improper (sort v self.place) (standing v self.place) (sym c.stands_at.ensures ∙ c.in-Improper.is));
      leads = tt;
    }
