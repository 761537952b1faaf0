-- `directory::follow` meets its contract: the loop's invariant: the names from the cursor on, from `home` on, decide.
use Rattle.std.specs.Prelude.{Ok}
use mathlib.Core.Path.{◌≡◌, refl, sym, ap, ◌∙◌}
use Prim.Native.Nat.{◌<◌}
use lib.ListN.{length}
use native.Mathlib.Omega.{arith}
use Rattle.model.specs.Bytes.{view}
use Rattle.model.specs.Directory.{place, field}
use Rattle.names.proofs.CursorLaws.{Stepped, step_found, stepped_bounds}
use Rattle.directory.specs.Search.{listed, found_in}
use Rattle.directory.specs.Lookup.{top}
use Rattle.directory.proofs.LookupLaws.{stepped_within, no_name, walking_searchable, turn_last, turn_stops, turn_on}
use Rattle.directory.proofs.follow.Goals as goal

pub loop-start-init : goal.loop-start-init
unfolding place field
loop-start-init c = record { reached = top; known = refl; before = c.requires.at_in_bounds; proper = c.requires.at_value; same = refl }

pub name_at-name-requires : goal.name_at-name-requires
name_at-name-requires c = stepped_within _ _ _ _ _ _ (step_found _ _ _ _ _ _ (sym c.step.ensures ∙ c.in-Name.is))

pub find_in-found-requires : goal.find_in-found-requires
find_in-found-requires c =
    (c.requires.n_bound.0, c.requires.n_bound.1, walking_searchable _ _ _ _ _ _ c.requires.n_bound.2 c.loop-start.invariant)

pub returns-then-end-path : goal.returns-then-end-path
returns-then-end-path c =
    let v = view c.args.img.now in
    let xs = c.args.path.now in
    let l = c.loop-start in
    let w : Stepped (view xs) (length xs) l.cursor.at c.in-Name.start c.in-Name.end c.in-Name.next = step_found _ _ _ _ _ _ (sym c.step.ensures ∙ c.in-Name.is) in
    let f = c.find_in-found.ensures ∙ ap (λ y. found_in v y (listed v l.home.key l.home.used)) c.name_at-name.ensures in
    ap Ok c.last_of.ensures ∙ sym (turn_last _ v xs _ l.home _ c.requires.n_bound.2 l.invariant _ _ _ w _ f c.if-end-path.true)

pub returns-in_default : goal.returns-in_default
returns-in_default c =
    let v = view c.args.img.now in
    let xs = c.args.path.now in
    let l = c.loop-start in
    let w : Stepped (view xs) (length xs) l.cursor.at c.in-Name.start c.in-Name.end c.in-Name.next = step_found _ _ _ _ _ _ (sym c.step.ensures ∙ c.in-Name.is) in
    let b = stepped_bounds _ _ _ _ _ _ w in
    let f = c.find_in-found.ensures ∙ ap (λ y. found_in v y (listed v l.home.key l.home.used)) c.name_at-name.ensures in
    let m : c.in-Name.end < length xs = omega (arith, c.if-end-path.false) in
    sym (turn_stops _ v xs _ l.home _ c.requires.n_bound.2 l.invariant _ _ _ w m _ f (sym c.inner_of.ensures ∙ c.in_default.is))

pub loop-start-smaller : goal.loop-start-smaller
loop-start-smaller c =
    let xs = c.args.path.now in
    let l = c.loop-start in
    let w : Stepped (view xs) (length xs) l.cursor.at c.in-Name.start c.in-Name.end c.in-Name.next = step_found _ _ _ _ _ _ (sym c.step.ensures ∙ c.in-Name.is) in
    let b = stepped_bounds _ _ _ _ _ _ w in
    let t : c.in-Name.next.at ≡ c.in-Name.end = w.next in
    omega (arith, l.invariant.before)

pub loop-start-preserved : goal.loop-start-preserved
loop-start-preserved c =
    let v = view c.args.img.now in
    let xs = c.args.path.now in
    let l = c.loop-start in
    let w : Stepped (view xs) (length xs) l.cursor.at c.in-Name.start c.in-Name.end c.in-Name.next = step_found _ _ _ _ _ _ (sym c.step.ensures ∙ c.in-Name.is) in
    let b = stepped_bounds _ _ _ _ _ _ w in
    let f = c.find_in-found.ensures ∙ ap (λ y. found_in v y (listed v l.home.key l.home.used)) c.name_at-name.ensures in
    let m : c.in-Name.end < length xs = omega (arith, c.if-end-path.false) in
    rw w.next (turn_on _ v xs _ l.home _ c.requires.n_bound.2 l.invariant _ _ _ w m _ _ f (sym c.inner_of.ensures ∙ c.in-Some.is))

pub returns-in-End : goal.returns-in-End
returns-in-End c =
    let l = c.loop-start in
    no_name c.args.path.now l.cursor.at l.invariant.before l.invariant.proper c.step.result c.step.ensures c.in-End.is
