-- `marks::claim_node` meets its contract. The test comes first.
use mathlib.Core.Path.{sym, ap, ◌∙◌}
use mathlib.Core.Bool.{Bool}
use mathlib.Core.List.{[], ◌∷◌}
use borrow.Author.Tests.{lt-ltb, le-ltb}
use Rattle.claims.specs.Claims.{block, outcome}
use Rattle.claims.proofs.ClaimLaws.{must_on, must_off}
use Rattle.marks.specs.Marks.{marks}
use Rattle.marks.proofs.claim_node.Goals as goal

pub returns-then-first-end : goal.returns-then-first-end
returns-then-first-end c =
    let a = c.args in
    c.claim_block.ensures
    ∙ sym (must_on a.n (block a.b ∷ []) (marks a.seen.now) _ (lt-ltb a.first a.end c.if-first-end.true))

pub returns-else-first-end : goal.returns-else-first-end
returns-else-first-end c =
    let a = c.args in
    let s = marks a.seen.now in
    let late = le-ltb a.first a.end c.if-first-end.false in
    ap (λ (t : Bool). outcome t s) late ∙ sym (must_off a.n (block a.b ∷ []) s _ late)
