-- `directory::vacant_in` meets its contract: the first of the slots at which nothing stands.
use mathlib.Core.Path.{◌∙◌}
use mathlib.Core.List.{[], ◌∷◌}
use Rattle.std.proofs.Common.{rules}
use Rattle.model.specs.Bytes.{view}
use Rattle.model.specs.Directory.{vacant}
use Rattle.directory.specs.Search.{listed, vacancy_at}
use Rattle.directory.proofs.AnswerLaws.{place_listed}
use Rattle.directory.proofs.SearchLaws.{first_vacant}
use Rattle.directory.proofs.vacant_in.Goals as goal

pub first_in-requires-clause-callable : goal.first_in-requires-clause-callable
first_in-requires-clause-callable c = λ l k m.
    let w = place_listed c.args.n (view c.args.img.now) c.args.key c.args.used l c.requires.2 k m in
    search rules

pub returns : goal.returns
returns c =
    let v = view c.args.img.now in
    c.first_in.ensures (λ s. vacancy_at (vacant v (s ∷ []))) (λ l o k q. search rules) ∙ first_vacant v (listed v c.args.key c.args.used)
