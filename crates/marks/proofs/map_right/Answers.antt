-- `marks::map_right` meets its contract. Each block of the range was looked at, up to the first that is wrong.
use mathlib.Core.Path.{◌≡◌, refl}
use mathlib.Core.Bool.{true, false, beq}
use native.Mathlib.Omega.{arith}
use borrow.Author.Rules.{rules}
use Prim.Native.Nat.{ℕ}
use lib.Dec.{eqb}
use Rattle.std.proofs.lemmas.Iterator.{cases_from_all, YieldsList-from_range}
use Rattle.model.specs.Bytes.{view}
use Rattle.model.specs.Map.{free}
use Rattle.model.specs.Directory.{map_place}
use Rattle.marks.proofs.Laws.{map_looked}
use Rattle.marks.proofs.map_right.Goals as goal

pub returns : goal.returns
returns c =
    let a = c.args in
    let v = view a.img.now in
    let s = view a.seen.now in
    let h = cases_from_all _ _ c.all.result (λ (x : ℕ). beq (eqb (free map_place v x) 1) (eqb (free 0 s x) 1) ≡ false) (λ (x : ℕ). beq (eqb (free map_place v x) 1) (eqb (free 0 s x) 1) ≡ true)
    c.all.ensures.ran (YieldsList-from_range 0 a.n a.n refl (omega arith)) (λ x q k. search rules) (λ x q k. search rules) in
    map_looked v a.seen.now a.n c.all.result h
