-- What a command leaves, from what the answer is and what was printed. Assumes nothing.
use mathlib.Core.Path.{◌≡◌, refl, sym, subst}
use mathlib.Core.List.{List}
use mathlib.Core.Bool.{Bool, true, false}
use Prim.Native.Nat.{ℕ}
use Rattle.model.specs.Bytes.{view}
use Rattle.ink.specs.Ink.{Sheet, sheet}
use Rattle.ink.specs.declared.Ink.{Ink}
use Rattle.ink.proofs.InkLaws.{prints_none}
use Rattle.std.specs.Prelude.{Result}
use Rattle.std.specs.Result.{is_ok}
use Rattle.lines.specs.declared.BadLine.{BadLine}
use Rattle.lines.specs.Left.{Left, bad_left, Leaves}

-- where nothing is done
pub none_leaves : {said : Result (Unit {0}) BadLine} {k : Ink} {i b p : List ℕ} → is_ok said ≡ false
    → Leaves (bad_left (view i) (view b)) (sheet k p) said k i b p
none_leaves e = record { good = e; image = refl; buffer = refl; page = prints_none }

-- What a command leaves goes by a test.
module _ (t : Bool) (l m : Left) {s : Sheet} {said : Result (Unit {0}) BadLine} {k : Ink} {i b p : List ℕ} where
  pub if_so : t ≡ true → Leaves l s said k i b p → Leaves (elim t [ true ↦ l | false ↦ m ]) s said k i b p
  if_so e h = rw e h

  pub if_not : t ≡ false → Leaves m s said k i b p → Leaves (elim t [ true ↦ l | false ↦ m ]) s said k i b p
  if_not e h = rw e h

pub leaves_as : {o q : Left} {s : Sheet} {r : Result (Unit {0}) BadLine} {k : Ink} {i b p : List ℕ} → o ≡ q → Leaves q s r k i b p → Leaves o s r k i b p
leaves_as {s = s} {r = r} {k = k} {i = i} {b = b} {p = p} e l = subst (λ (o : Left). Leaves o s r k i b p) (sym e) l
