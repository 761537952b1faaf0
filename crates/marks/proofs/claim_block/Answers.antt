-- `marks::claim_block` meets its contract. A bit that is clear is set, as a map gives a block.
use mathlib.Core.Path.{sym, ◌∙◌}
use mathlib.Core.List.{[]}
use native.Mathlib.Omega.{arith}
use Rattle.claims.proofs.ClaimLaws.{block_outside, block_seen}
use Rattle.marks.specs.Marks.{marks}
use Rattle.marks.proofs.Laws.{marks_free, marked, block_marked}
use Rattle.marks.proofs.claim_block.Goals.{then-b-n-via-then-b-n, then-b-n-via-else-b-n+then-is_free}
use Rattle.marks.proofs.claim_block.Goals as goal

pub returns-then-b-n : goal.returns-then-b-n
returns-then-b-n c =
    let a = c.args in
    let s = marks a.seen.now in
    elim c.then-b-n.branch [
      | then-b-n-via-then-b-n w ↦ sym (block_outside a.n [] s a.b w.if-b-n.true)
      | then-b-n-via-else-b-n+then-is_free w ↦ sym (block_seen a.n [] s a.b (marks_free a.seen.now a.b ∙ sym w.is_free.ensures ∙ w.if-is_free.true))
    ]

pub returns : goal.returns
returns c =
    let a = c.args in
    let g = c.give in
    let clear = marks_free a.seen.now a.b ∙ sym c.is_free.ensures ∙ c.if-is_free.false in
    let mark = marked a.seen.now g.new.img a.b (λ x. omega (arith, c.slice_known-1.given x)) g.ensures in
    block_marked a.n a.b (marks a.seen.now) (marks g.new.img) c.if-b-n.false clear mark
