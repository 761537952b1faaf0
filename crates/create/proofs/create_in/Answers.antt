-- `create::create_in` meets its contract. By whether the directory has an inactive slot.
use mathlib.Core.Path.{sym, ap, ◌∙◌}
use Rattle.model.specs.Bytes.{view}
use Rattle.model.specs.Directory.{vacant}
use Rattle.directory.proofs.AnswerLaws.{vacancy_some, vacancy_none}
use Rattle.create.proofs.create_in.Goals as goal

pub create_at-requires : goal.create_at-requires
create_at-requires c =
    let v = view c.args.img.now in
    let H = c.requires.3 in
    let r = vacancy_some _ _ (sym c.vacant_in.ensures ∙ c.in-Some.is) in record { whole = (c.requires.0, c.requires.1, c.requires.2, H); vacant = (ap (vacant v) H.slots ∙ r.0, r.1) }

pub create_behind-requires : goal.create_behind-requires
create_behind-requires c =
    let v = view c.args.img.now in
    let H = c.requires.3 in record { whole = (c.requires.0, c.requires.1, c.requires.2, H); packed = ap (vacant v) H.slots ∙ vacancy_none _ (sym c.vacant_in.ensures ∙ c.in-None.is) }
