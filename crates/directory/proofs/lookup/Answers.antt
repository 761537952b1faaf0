-- `directory::lookup` meets its contract: the first name against the volume's header, and the names after it.
use mathlib.Core.Path.{sym, ap, ◌∙◌}
use Prim.Native.Nat.{◌<◌}
use lib.ListN.{length}
use native.Mathlib.Omega.{arith}
use Rattle.model.specs.Bytes.{view}
use Rattle.model.specs.Directory.{volume, along}
use Rattle.names.specs.Steps.{step_at, parts_left}
use Rattle.names.proofs.CursorLaws.{Stepped, step_found, stepped_bounds, stepped_proper}
use Rattle.directory.specs.Lookup.{looked_as}
use Rattle.directory.proofs.LookupLaws.{sane_blocks, path_before, path_proper, stepped_within, header_same, lookup_other, lookup_names, lookup_volume, no_name}
use Rattle.directory.proofs.lookup.Goals as goal

pub name_at-name-requires : goal.name_at-name-requires
name_at-name-requires c = stepped_within _ _ _ _ _ _ (step_found _ _ _ _ _ _ (sym c.step.ensures ∙ c.in-Name.is))

pub slice_bounds-same_name-end : goal.slice_bounds-same_name-end
slice_bounds-same_name-end c = omega (arith, sane_blocks c.args.n (view c.args.img.now) c.requires.n_bound.2)

pub returns-then-not-same_name : goal.returns-then-not-same_name
returns-then-not-same_name c =
    let a = c.args in
    let xs = a.path.now in
    let o = ap (λ x. step_at (view xs) (length xs) x.at) c.new.ensures in
    let w : Stepped (view xs) (length xs) 0 c.in-Name.start c.in-Name.end c.in-Name.next = step_found _ _ _ _ _ _ (sym (c.step.ensures ∙ o) ∙ c.in-Name.is) in
    let m = sym (header_same a.img.now xs _ _ _ w _ c.name_at-name.ensures) ∙ sym c.same_name.ensures ∙ c.if-not-same_name.true in
    sym (ap (looked_as (view a.img.now)) (lookup_other a.img.now xs _ _ _ w m))

pub returns-then-end-path : goal.returns-then-end-path
returns-then-end-path c =
    let a = c.args in
    let xs = a.path.now in
    let o = ap (λ x. step_at (view xs) (length xs) x.at) c.new.ensures in
    let w : Stepped (view xs) (length xs) 0 c.in-Name.start c.in-Name.end c.in-Name.next = step_found _ _ _ _ _ _ (sym (c.step.ensures ∙ o) ∙ c.in-Name.is) in
    let m = sym (header_same a.img.now xs _ _ _ w _ c.name_at-name.ensures) ∙ sym c.same_name.ensures ∙ c.if-not-same_name.false in
    sym (lookup_volume a.img.now xs _ _ _ w m c.if-end-path.true)

pub follow-requires : goal.follow-requires
follow-requires c =
    let xs = c.args.path.now in
    let o = ap (λ x. step_at (view xs) (length xs) x.at) c.new.ensures in
    let w : Stepped (view xs) (length xs) 0 c.in-Name.start c.in-Name.end c.in-Name.next = step_found _ _ _ _ _ _ (sym (c.step.ensures ∙ o) ∙ c.in-Name.is) in
    let b = stepped_bounds _ _ _ _ _ _ w in
    let m : c.in-Name.end < length xs = omega (arith, c.if-end-path.false) in
    record {
      n_bound = c.requires.n_bound;
      at_in_bounds = rw w.next m;
      at_value = rw w.next (sym (stepped_proper _ _ _ _ _ _ w) ∙ path_proper xs c.requires.path_value);
    }

pub returns-else-end-path : goal.returns-else-end-path
returns-else-end-path c =
    let a = c.args in
    let v = view a.img.now in
    let xs = a.path.now in
    let o = ap (λ x. step_at (view xs) (length xs) x.at) c.new.ensures in
    let w : Stepped (view xs) (length xs) 0 c.in-Name.start c.in-Name.end c.in-Name.next = step_found _ _ _ _ _ _ (sym (c.step.ensures ∙ o) ∙ c.in-Name.is) in
    let m = sym (header_same a.img.now xs _ _ _ w _ c.name_at-name.ensures) ∙ sym c.same_name.ensures ∙ c.if-not-same_name.false in
    c.follow.ensures
    ∙ ap (λ k. looked_as v (along v (view xs) volume (parts_left (view xs) (length xs) k))) w.next
    ∙ sym (ap (looked_as v) (lookup_names a.img.now xs _ _ _ w m))

pub returns-in-End : goal.returns-in-End
returns-in-End c =
    let xs = c.args.path.now in
    let o = ap (λ x. step_at (view xs) (length xs) x.at) c.new.ensures in
    no_name xs 0 (path_before xs c.requires.path_value) (path_proper xs c.requires.path_value) c.step.result (c.step.ensures ∙ o) c.in-End.is
