-- `marks::claim_chain` meets its contract. The loop's invariant: the claims of the chain that is left, after what is marked, are those of the whole.
use mathlib.Core.Path.{◌≡◌, ◌∙◌}
use native.Mathlib.Omega.{arith}
use Prim.Native.Nat.{◌+◌, ◌-◌}
use Rattle.model.specs.Bytes.{view}
use Rattle.marks.specs.Marks.{marks}
use Rattle.marks.proofs.Laws.{chain_refused, chain_broken, chain_on, chain_done}
use Rattle.marks.proofs.claim_chain.Goals.{then-not-claim_block-via-then-not-claim_block, then-not-claim_block-via-else-not-claim_block+then-get_word-previous}
use Rattle.marks.proofs.claim_chain.Goals as goal

pub returns-then-not-claim_block : goal.returns-then-not-claim_block
returns-then-not-claim_block c =
    let a = c.args in
    let l = c.loop in
    let u = a.used - l.counter in
    let k = c.claim_block in
    let v = view a.img.now in
    elim c.then-not-claim_block.branch [
      | then-not-claim_block-via-then-not-claim_block w ↦
          chain_refused a.n v l.previous l.b u (marks l.seen) (marks k.new.seen) k.result (omega arith) k.ensures w.if-not-claim_block.true ∙ l.invariant.1
      | then-not-claim_block-via-else-not-claim_block+then-get_word-previous w ↦
          chain_broken a.n v l.previous l.b u (marks l.seen) (marks k.new.seen) k.result (omega arith)
          k.ensures w.get_word.result w.get_word.ensures.value w.if-get_word-previous.true w.if-not-claim_block.false
          ∙ l.invariant.1
    ]

pub loop-preserved : goal.loop-preserved
loop-preserved c =
    let a = c.args in
    let l = c.loop in
    let u = a.used - l.counter in
    let k = c.claim_block in
    let v = view a.img.now in
    let w = c.get_word in
    let x = c.get_word-b in
    let on = chain_on a.n v l.previous l.b u (marks l.seen) (marks k.new.seen) k.result (omega arith)
    k.ensures w.result x.result w.ensures.value c.if-get_word-previous.false x.ensures.value c.if-not-claim_block.false in
    let fewer : a.used - (l.counter + 1) ≡ a.used - l.counter - 1 = omega arith in
    (omega arith, rw fewer (on ∙ l.invariant.1))

pub returns : goal.returns
returns c =
    let a = c.args in
    let l = c.loop in
    chain_done a.n (view a.img.now) l.previous l.b (a.used - l.counter) (marks l.seen) (omega arith) ∙ l.invariant.1
