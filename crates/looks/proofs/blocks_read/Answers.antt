-- `looks::blocks_read` meets its contract. The invariant says how many blocks are still to be read.
use Prim.Native.Nat.{◌/◌}
use mathlib.Core.Path.{◌≡◌, sym, ◌∙◌}
use native.Mathlib.Omega.{arith}
use lib.ListN.{length}
use Rattle.model.specs.Bytes.{view}
use Rattle.looks.proofs.UntilLaws.{until_over, until_found, until_past, until_next}
use Rattle.looks.proofs.blocks_read.Goals as goal
use Rattle.looks.proofs.blocks_read.Goals.{then-block-goal-via-then-block-goal, then-block-goal-via-else-block-goal+then-most-block}

pub returns-then-block-goal : goal.returns-then-block-goal
returns-then-block-goal c =
    let l = c.loop-read in
    let a = c.args in
    let most = length a.img.now / 512 in
    elim c.then-block-goal.branch [
      | then-block-goal-via-then-block-goal w ↦
          sym (until_found (view a.img.now) most a.goal l.block l.read (omega arith) (omega arith)) ∙ l.invariant.1
      | then-block-goal-via-else-block-goal+then-most-block w ↦
          sym (until_past (view a.img.now) most a.goal l.block l.read (omega arith) w.if-block-goal.false (omega arith)) ∙ l.invariant.1
    ]

pub loop-read-preserved : goal.loop-read-preserved
loop-read-preserved c =
    let l = c.loop-read in
    let a = c.args in
    (omega arith, rw c.get_word-block.ensures.value (sym (until_next (view a.img.now) (length a.img.now / 512) a.goal l.block l.read c.loop-read-test.true c.if-block-goal.false c.if-most-block.false) ∙ l.invariant.1))

pub returns : goal.returns
returns c =
    let l = c.loop-read in
    let a = c.args in
    let e : c.max.result ≡ l.read = omega arith in
    e ∙ sym (until_over (view a.img.now) (length a.img.now / 512) a.goal l.block l.read c.loop-read-test.false) ∙ l.invariant.1
