-- `marks::claim_index` and `marks::claim_part`, which call each other, meet their contracts. The loop's invariant: what the pointers from i on lead to
-- is left to claim and to count.
use mathlib.Core.Path.{◌≡◌, refl, ap, ◌∙◌}
use mathlib.Core.Bool.{true, false}
use Prim.Native.Nat.{ℕ, suc, ◌+◌, ◌-◌}
use native.Mathlib.Omega.{arith}
use lib.ListN.{length}
use Rattle.model.specs.Bytes.{view}
use Rattle.model.specs.File.{nodes}
use Rattle.claims.specs.Claims.{outcome}
use Rattle.marks.specs.Marks.{marks, took_all}
use Rattle.model.proofs.Laws.FirstBlock.{part_first, first_shift}
use Rattle.marks.proofs.Laws.{tree_refused, tree_flat, tree_on, flat_first, flat_count, below_start, below_few, below_over, below_on, below_refused, below_done}
use Rattle.marks.proofs.+claim_index_claim_part.Goals.{claim_index-then-child-ne0+in_ok-count, claim_index-else-child-ne0}
use Rattle.marks.proofs.+claim_index_claim_part.Goals as goal

pub claim_index-returns-then-not-claim_node-clause-seen_after : goal.claim_index-returns-then-not-claim_node-clause-seen_after
claim_index-returns-then-not-claim_node-clause-seen_after t c =
    let a = c.args in
    let k = c.claim_node in
    let first = first_shift a.height a.number (omega arith) (omega arith) in
    tree_refused a.n (view a.img.now) a.end a.height a.number a.key _ first (marks a.seen.now) (marks k.new.seen) k.result k.ensures c.if-not-claim_node.true

pub claim_part-returns-then-not-claim_node-clause-seen_after : goal.claim_part-returns-then-not-claim_node-clause-seen_after
claim_part-returns-then-not-claim_node-clause-seen_after t c =
    let a = c.args in
    let k = c.claim_node in
    let first = flat_first a.height a.number c.if-height-ne0.false in
    tree_refused a.n (view a.img.now) a.end a.height a.number a.key _ first (marks a.seen.now) (marks k.new.seen) k.result k.ensures c.if-not-claim_node.true

pub claim_part-returns-clause-seen_after : goal.claim_part-returns-clause-seen_after
claim_part-returns-clause-seen_after t c =
    let a = c.args in
    let k = c.claim_node in
    let flat : a.height ≡ 0 = c.if-height-ne0.false in
    let first = flat_first a.height a.number flat in
    tree_flat a.n (view a.img.now) a.end a.height a.number a.key _ first (marks a.seen.now) (marks k.new.seen) k.result k.ensures c.if-not-claim_node.false flat

pub claim_part-returns-clause-result_value : goal.claim_part-returns-clause-result_value
claim_part-returns-clause-result_value t c = let a = c.args in λ _. flat_count (view a.img.now) a.height a.number a.key c.if-height-ne0.false

pub claim_index-loop-i-init : goal.claim_index-loop-i-init
claim_index-loop-i-init t c =
    let a = c.args in
    (omega arith, below_start a.n (view a.img.now) a.end (a.height - 1) a.number a.key (marks c.claim_node.new.seen))

pub claim_index-claim_part-requires : goal.claim_index-claim_part-requires
claim_index-claim_part-requires t c =
    let a = c.args in
    let more : a.height ≡ suc (a.height - 1) = omega arith in
    let first = part_first (a.height - 1) a.number c.loop-i.i (omega arith) c.loop-i-test.true (rw more at c.requires.4) in
    (omega arith, (omega arith, omega arith, omega arith, omega arith, first))

pub claim_index-returns-in_err-count-clause-seen_after : goal.claim_index-returns-in_err-count-clause-seen_after
claim_index-returns-in_err-count-clause-seen_after t c =
    let a = c.args in
    let v = view a.img.now in
    let k = c.claim_node in
    let l = c.loop-i in
    let p = c.get_pointer-child in
    let s' = marks c.claim_part.new.seen in
    let more : a.height ≡ suc (a.height - 1) = omega arith in
    let first = first_shift a.height a.number (omega arith) (omega arith) in
    ap (λ o. outcome (took_all o) s') c.from_residual.ensures
    ∙ below_refused a.n v a.end (a.height - 1) a.number a.key (marks k.new.seen) (marks l.seen) l.i l.count l.invariant.1 c.loop-i-test.true p.result p.ensures.value c.if-child-ne0.true
    s' false c.in_err-count.ensures.seen_after refl
    ∙ tree_on a.n v a.end a.height a.number a.key _ first (marks a.seen.now) (marks k.new.seen) k.result k.ensures c.if-not-claim_node.false (a.height - 1) more

pub claim_index-overflow_add-count : goal.claim_index-overflow_add-count
claim_index-overflow_add-count t c =
    let a = c.args in
    let l = c.loop-i in
    let p = c.get_pointer-child in
    let k = c.in_ok-count.ensures in
    let s' = marks c.claim_part.new.seen in
    let on = below_on a.n (view a.img.now) a.end (a.height - 1) a.number a.key (marks c.claim_node.new.seen) (marks l.seen) l.i l.count l.invariant.1 c.loop-i-test.true p.result p.ensures.value c.if-child-ne0.true
    s' true k.seen_after refl _ (k.result_value refl) in
    omega (arith, below_few a.n (view a.img.now) a.end (a.height - 1) a.number a.key (marks c.claim_node.new.seen) s' (l.i + 1) _ on)

pub claim_index-loop-i-preserved : goal.claim_index-loop-i-preserved
claim_index-loop-i-preserved t c =
    let a = c.args in
    let v = view a.img.now in
    let l = c.loop-i in
    let p = c.get_pointer-child in
    let k = marks c.claim_node.new.seen in
    elim c.if-child-ne0.branch [
      | claim_index-then-child-ne0+in_ok-count w ↦
          let d = w.in_ok-count.ensures in (
            omega arith,
            rw (w.seen-is, w.count-is) (below_on a.n v a.end (a.height - 1) a.number a.key k (marks l.seen) l.i l.count l.invariant.1 c.loop-i-test.true p.result p.ensures.value w.if-child-ne0.true
                (marks w.claim_part.new.seen) true d.seen_after refl _ (d.result_value refl)),
          )
      | claim_index-else-child-ne0 w ↦
          (omega arith, rw (w.seen-is, w.count-is) (below_over a.n v a.end (a.height - 1) a.number a.key k (marks l.seen) l.i l.count l.invariant.1 c.loop-i-test.true p.result p.ensures.value w.if-child-ne0.false))
    ]

pub claim_index-returns-clause-seen_after : goal.claim_index-returns-clause-seen_after
claim_index-returns-clause-seen_after t c =
    let a = c.args in
    let v = view a.img.now in
    let k = c.claim_node in
    let l = c.loop-i in
    let more : a.height ≡ suc (a.height - 1) = omega arith in
    let first = first_shift a.height a.number (omega arith) (omega arith) in
    let on = tree_on a.n v a.end a.height a.number a.key _ first (marks a.seen.now) (marks k.new.seen) k.result k.ensures c.if-not-claim_node.false (a.height - 1) more in
    (below_done a.n v a.end (a.height - 1) a.number a.key (marks k.new.seen) (marks l.seen) l.i l.count l.invariant.1 c.loop-i-test.false).0 ∙ on

pub claim_index-returns-clause-result_value : goal.claim_index-returns-clause-result_value
claim_index-returns-clause-result_value t c =
    let a = c.args in
    let v = view a.img.now in
    let l = c.loop-i in
    let more : suc (a.height - 1) ≡ a.height = omega arith in
    let done = below_done a.n v a.end (a.height - 1) a.number a.key (marks c.claim_node.new.seen) (marks l.seen) l.i l.count l.invariant.1 c.loop-i-test.false in
    λ _. done.1 ∙ ap (λ (h : ℕ). length (nodes v h a.number a.key)) more
