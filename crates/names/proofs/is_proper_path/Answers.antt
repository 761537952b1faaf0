-- `names::is_proper_path` meets its contract: the loop's invariant: the parts that are left decide, and each step makes them fewer.
use mathlib.Core.Path.{◌≡◌, sym, ap, ◌∙◌}
use native.Mathlib.Omega.{arith}
use Prim.Native.Nat.{◌≤◌}
use lib.ListN.{length}
use Rattle.names.proofs.CursorLaws.{Stepped, stepped_bounds, stepped_proper, left_bad, step_found, step_ends, step_fails, left_start, left_done}
use Rattle.names.proofs.Laws.{no_parts, within_in}
use Rattle.std.proofs.lemmas.Grind.{common_steps}
use Rattle.model.specs.Bytes.{view, ◌and◌, within}
use Rattle.model.specs.Names.{proper_parts, proper_path}
use Rattle.names.proofs.is_proper_path.Goals as goal

pub returns-then-is_empty : goal.returns-then-is_empty
unfolding proper_path ◌and◌ within
returns-then-is_empty c = grind (arith, common_steps)

pub loop-next-init : goal.loop-next-init
unfolding proper_path ◌and◌
loop-next-init c =
    let s = c.args.path.now in
    let z : c.new-cursor.result.at ≡ 0 = ap (λ x. x.at) c.new-cursor.ensures in
    let l : 1 ≤ length s = grind (arith, common_steps) in
    let m : length s ≤ 64 = grind (arith, common_steps) in
    (omega arith, rw (within_in 1 64 (length s) l m, z) (ap (proper_parts (view s)) (left_start (view s) (length s))))

pub loop-next-smaller : goal.loop-next-smaller
loop-next-smaller c =
    let s = c.args.path.now in
    let w : Stepped (view s) (length s) c.loop-next.cursor.at c.in-Name.start c.in-Name.end c.in-Name.next = step_found _ _ _ _ _ _ (sym c.step.ensures ∙ c.in-Name.is) in
    let b = stepped_bounds _ _ _ _ _ _ w in
    omega arith

pub loop-next-preserved : goal.loop-next-preserved
loop-next-preserved c =
    let s = c.args.path.now in
    let w : Stepped (view s) (length s) c.loop-next.cursor.at c.in-Name.start c.in-Name.end c.in-Name.next = step_found _ _ _ _ _ _ (sym c.step.ensures ∙ c.in-Name.is) in
    let b = stepped_bounds _ _ _ _ _ _ w in
    (omega arith, rw w.next (c.loop-next.invariant.1 ∙ stepped_proper _ _ _ _ _ _ w))

pub returns-in-End : goal.returns-in-End
returns-in-End c =
    let s = c.args.path.now in
    let a = c.loop-next.cursor.at in
    let l = step_ends (view s) (length s) a (sym c.step.ensures ∙ c.in-End.is) in
    sym (c.loop-next.invariant.1 ∙ rw (left_done (view s) (length s) a l) (no_parts (view s)))

pub returns-in-Bad : goal.returns-in-Bad
returns-in-Bad c =
    let s = c.args.path.now in
    let a = c.loop-next.cursor.at in
    let l = step_fails (view s) (length s) a (sym c.step.ensures ∙ c.in-Bad.is) in
    sym (c.loop-next.invariant.1 ∙ left_bad (view s) (length s) a l.0 l.1)
