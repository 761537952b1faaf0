-- `create::create` meets its contract. By what houses the new entry; its name is the last part of the path.
use native.Mathlib.Omega.{arith}
use mathlib.Core.Path.{sym, ap, ◌∙◌}
use mathlib.Core.List.{List}
use Prim.Native.Nat.{ℕ, ◌≤◌}
use lib.ListN.{length}
use Rattle.model.specs.Bytes.{view}
use Rattle.model.specs.Names.{part}
use Rattle.model.specs.Create.{Wanted}
use Rattle.directory.specs.Slots.{place_number}
use Rattle.entries.proofs.LastLaws.{last_size, last_entry, last_subdirectory}
use Rattle.opening.proofs.PassLaws.{passed}
use Rattle.create.specs.Entered.{create_in}
use Rattle.create.proofs.HousedLaws.{housed_in, kind_small}
use Rattle.create.proofs.CallLaws.{create_refused, create_housed, in_same}
use Rattle.create.proofs.create.Goals as goal

pub create_in-requires : goal.create_in-requires
create_in-requires c =
    let a = c.args in
    let l = a.img.now in
    let p = a.path.now in
    let e = sym c.housed_by.ensures ∙ c.in_ok-n.was in
    let w : Wanted = record { kind = a.kind; ftype = a.ftype; aux = a.aux; stamp = a.stamp } in
    let r = create_housed (length l) (view l) (view p) (length p) w _ _ (λ x. omega (arith, c.slice_known-1.given x)) e in
    let h = housed_in (length l) (view l) (view p) (length p) a.kind a.ftype _ _ e in
    let short : length c.last_name.result.now ≤ 15 = rw c.last_name.ensures (last_size p h.proper) in
    ((r.0.least, r.0.most, r.0.whole), short, kind_small a.kind h.known, r.1)

pub returns-in_err-n : goal.returns-in_err-n
returns-in_err-n c =
    rw (passed c.from_residual.ensures.1) (create_refused _ _ _ _ _ (sym c.housed_by.ensures ∙ c.in_err-n.was))

pub returns : goal.returns
returns c =
    let a = c.args in
    let l = a.img.now in
    let p = a.path.now in
    let e = sym c.housed_by.ensures ∙ c.in_ok-n.was in
    let w : Wanted = record { kind = a.kind; ftype = a.ftype; aux = a.aux; stamp = a.stamp } in
    let r = create_housed (length l) (view l) (view p) (length p) w _ _ (λ x. omega (arith, c.slice_known-1.given x)) e in
    let h = housed_in (length l) (view l) (view p) (length p) a.kind a.ftype _ _ e in
    let n : ℕ = c.in_ok-n.n in
    let d : ℕ = place_number c.in_ok-n.home.place in
    let named = ap (λ (y : List ℕ). create_in n (view l) d (view y) (part 0 (length y)) w) c.last_name.ensures
    ∙ in_same _ (view p) _ _ w (last_entry p h.proper w) (last_subdirectory p h.proper a.stamp) n (view l) d in
    rw (r.2 ∙ sym named) c.create_in.ensures
