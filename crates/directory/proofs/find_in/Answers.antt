-- `directory::find_in` meets its contract: the first of the slots at which an entry with the name stands.
use mathlib.Core.Path.{◌∙◌}
use mathlib.Core.List.{[], ◌∷◌}
use Rattle.std.proofs.Common.{rules}
use Rattle.model.specs.Bytes.{view}
use Rattle.directory.specs.Search.{listed, found_in}
use Rattle.directory.proofs.AnswerLaws.{place_listed}
use Rattle.directory.proofs.SearchLaws.{first_found}
use Rattle.directory.proofs.find_in.Goals as goal

pub first_in-requires-clause-callable : goal.first_in-requires-clause-callable
first_in-requires-clause-callable c = λ l k m.
    let w = place_listed c.args.n (view c.args.img.now) c.args.key c.args.used l c.requires.2 k m in
    search rules

pub returns : goal.returns
returns c =
    let v = view c.args.img.now in
    let n = c.args.name.now in
    c.first_in.ensures (λ s. found_in v n (s ∷ [])) (λ l o k q. search rules) ∙ first_found v n (listed v c.args.key c.args.used)
